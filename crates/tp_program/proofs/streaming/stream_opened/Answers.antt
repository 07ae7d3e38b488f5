use contract.BorrowLft.{◌⊑◌, ⊑_meet, ⊑_static}
use Rattle.std.proofs.Common.{[], rules}
use denote.Param.Send.{sendable}
use Rattle.tp_program.proofs.streaming.stream_opened.Goals as goal

-- what is said, and what looks for the file that ends the stream, is outlived by what each is lent
pub stream-disk-requires : goal.stream-disk-requires
stream-disk-requires g c κs within =
    let κ = κs.1.1.1.1.1.1.1.0 in
    let none : κ ⊑ [] = ⊑_static κ in
    let itself : κ ⊑ κ = λ a member. member in
    let err = within.1.1.1.0 in
    let onlooker = within.1.1.1.1.0 in
    let types = ⊑_meet κ _ _ err (⊑_meet κ _ _ onlooker none) in
    let fields = ⊑_meet κ _ _ (⊑_meet κ _ _ itself err) (⊑_meet κ _ _ (⊑_meet κ _ _ itself onlooker) none) in
    let teller = ⊑_meet κ _ _ types fields in
    let μ = κs.1.1.1.1.1.1.1.1.0 in
    let nothing : μ ⊑ [] = ⊑_static μ in
    let own : μ ⊑ μ = λ a member. member in
    let rt = within.1.1.1.1.1.0 in
    let path = ⊑_meet μ _ _ (⊑_meet μ _ _ own nothing) nothing in
    let request = ⊑_meet μ _ _ (⊑_meet μ _ _ own nothing) path in
    let stop = ⊑_meet μ _ _ (⊑_meet μ _ _ rt nothing) (⊑_meet μ _ _ (⊑_meet μ _ _ own rt) request) in
    let crosses = c.requires.1.1.1.1.1.1.1.1.0 in
    let shared = c.requires.1.1.1.1.1.1.1.1.1.0 in
    (within.0, (within.1.0, (within.1.1.0, (teller, (stop, (within.1.1.1.1.1.1, (search (rules, sendable, crosses), (search (rules, sendable, shared), (c.spread_over-task.ensures.quantum, c.requires.1.1.1.1.1.1.1.1.1.1.1)))))))))

pub returns-clause-streamed : goal.returns-clause-streamed
returns-clause-streamed g c premise began = c.stream-disk.ensures.put premise began
