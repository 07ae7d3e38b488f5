use Rattle.std.proofs.Common.{◌≡◌, ◌∙◌, [], ap, rules, sym, subst, Ok, Err, Result}
use Rattle.std.specs.Prelude.{string_bytes}
use Rattle.tp_program.proofs.Lower.{Unopened, Ended, StreamFault, Opening, HaveOwnPaths, path_from}
use denote.Param.Send.{sendable}
use contract.BorrowLft.{◌⊑◌, ⊑_meet, ⊑_static}
use Rattle.tp_program.proofs.Ends.{ends_own, ends_streamed, ends_unopened, ends_unwritten, got_named}
use Rattle.tp_program.proofs.streaming.stream_files.Goals as goal

-- the fault of a stream that ended early
abbrev fault_in : StreamFault → Result Ended StreamFault → StreamFault
fault_in other (Ok ended) = other
fault_in other (Err fault) = fault

same_fault : (done : Result Ended StreamFault) (fault : StreamFault) → done ≡ Err fault → (unopened : Unopened) × (done ≡ Err (Opening unopened)) → (unopened : Unopened) × (fault ≡ Opening unopened)
same_fault done fault is (unopened, same) = (unopened, ap (fault_in fault) (sym is ∙ same))

-- the file, standard output and standard input outlive what takes outputs and gives inputs
pub stream_opened-disk-requires : goal.stream_opened-disk-requires
stream_opened-disk-requires g c κs within =
    let κ = κs.1.1.1.1.1.1.1.1.0 in
    let none : κ ⊑ [] = ⊑_static κ in
    let file = within.1.1.1.0 in
    let out = within.1.1.1.1.0 in
    let one = ⊑_meet κ _ _ file none in
    let noted = ⊑_meet κ _ _ one one in
    let held = ⊑_meet κ _ _ noted none in
    let writer = ⊑_meet κ _ _ (⊑_meet κ _ _ (⊑_meet κ _ _ within.0.0 out) none) none in
    let sinks = ⊑_meet κ _ _ (⊑_meet κ _ _ noted (⊑_meet κ _ _ out none)) (⊑_meet κ _ _ (⊑_meet κ _ _ (⊑_meet κ _ _ held held) none) writer) in
    let μ = κs.1.1.1.1.1.1.1.1.1.0 in
    let nothing : μ ⊑ [] = ⊑_static μ in
    let read = within.1.1.1.1.1.0 in
    let feed = within.1.1.1.1.1.1.0 in
    let only = ⊑_meet μ _ _ read nothing in
    let given = ⊑_meet μ _ _ only only in
    let pipe = ⊑_meet μ _ _ (⊑_meet μ _ _ within.0.1.0 feed) nothing in
    let piped = ⊑_meet μ _ _ (⊑_meet μ _ _ (⊑_meet μ _ _ (⊑_meet μ _ _ feed nothing) pipe) nothing) nothing in
    let sources = ⊑_meet μ _ _ (⊑_meet μ _ _ given (⊑_meet μ _ _ feed nothing)) (⊑_meet μ _ _ (⊑_meet μ _ _ given nothing) piped) in
    let crosses = c.requires.1.1.1.1.1.1.1.1.1.0 in
    let shared = c.requires.1.1.1.1.1.1.1.1.1.1.0 in
    (within.1.0, (within.1.1.0, (sinks, (sources, (within.1.1.1.1.1.1.1.0, (within.1.1.1.1.1.1.1.1.0, (within.1.1.1.1.1.1.1.1.1.0, (within.1.1.1.1.1.1.1.1.1.1.0, (search (rules, sendable, crosses), (search (rules, sendable, shared), c.requires.1.1.1.1.1.1.1.1.1.1.1))))))))))

pub returns-in-Err-clause-streamed : goal.returns-in-Err-clause-streamed
returns-in-Err-clause-streamed g c premise began = ends_streamed g.history.formatted c.args.asked.now.ends c.in-Err.fault (g.D.Disk.state c.args.disk) c.in-Err.ensures.fault

pub returns-in-Err-clause-unwritten : goal.returns-in-Err-clause-unwritten
returns-in-Err-clause-unwritten g c = ends_unwritten c.in-Err.fault (g.D.Disk.state c.args.disk) c.in-Err.ensures.fault

pub returns-in-Err-clause-unopened : goal.returns-in-Err-clause-unopened
returns-in-Err-clause-unopened g c premise refused = ends_unopened c.in-Err.fault c.in-Err.ensures.fault

pub returns-in-Err-clause-own : goal.returns-in-Err-clause-own
returns-in-Err-clause-own g c =
    let run = c.args.asked.now in
    ends_own c.in-Err.fault (HaveOwnPaths (string_bytes run.device) run.ends.outs.items run.ends.ins.items) c.in-Err.ensures.fault

pub returns-clause-unopened : goal.returns-clause-unopened
returns-clause-unopened g c premise refused =
    same_fault c.stream_opened-disk.result.1 c.in-Err-done.fault c.in-Err-done.is (c.stream_opened-disk.ensures.unopened premise refused)

-- what the outputs got that were opened, and the stream's answer
pub returns-in-Ok-done-clause-streamed : goal.returns-in-Ok-done-clause-streamed
returns-in-Ok-done-clause-streamed g c premise began =
    got_named (λ i. i.port) (λ i. path_from (λ file. file.trace.told) i.source) c.in-Ok-open_ports.streams.inputs.items g.history.formatted
    c.stream_opened-disk.result.1 (Ok c.in-Ok-done.ended) c.args.asked.now.ends _ _ _ _ c.in-Ok-done.is c.in-Ok-open_ports.ensures.inputs
    c.in-Ok-open_ports.ensures.outputs (c.stream_opened-disk.ensures.streamed premise began)

pub returns-clause-streamed : goal.returns-clause-streamed
returns-clause-streamed g c premise began =
    got_named (λ i. i.port) (λ i. path_from (λ file. file.trace.told) i.source) c.in-Ok-open_ports.streams.inputs.items g.history.formatted
    c.stream_opened-disk.result.1 (Err c.in-Err-done.fault) c.args.asked.now.ends _ _ _ _ c.in-Err-done.is c.in-Ok-open_ports.ensures.inputs
    c.in-Ok-open_ports.ensures.outputs (c.stream_opened-disk.ensures.streamed premise began)
