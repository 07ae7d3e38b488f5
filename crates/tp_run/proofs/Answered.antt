-- Which answer a device and a job give.
use Rattle.std.proofs.Common.{◌≡◌, ◌<◌, ℕ, Bool, true, false, List, length, Option, Some, None, Result, Ok, Err, refl, subst}
use Rattle.std.specs.Prelude.{IfErr, nat_lt}
use Rattle.tp_run.proofs.Lower.{ltb-true, Topology, OpenFault, is_full_for_snapshot, Opened}
use Rattle.tp_run.specs.Answered.{AnswerFor, FaultFor, OpenedFor}
use Rattle.tp_run.specs.Compacted.{CompactAnswer, SaysLast}
use Rattle.tp_run.specs.Faults.{ComesBegun}
use Rattle.tp_run.specs.Input.{rest_at}
use Rattle.tp_run.specs.Made.{fault_by, has_pages, job_fault}
use Rattle.tp_run.specs.Outset.{outset_in}
use Rattle.tp_run.specs.declared.compacting.Compaction.{Compaction}
use Rattle.tp_run.specs.declared.compacting.CompactFault.{CompactFault}
use Rattle.tp_run.specs.declared.compacting.CompactFault.TheVariants as compact
use Rattle.tp_run.specs.declared.fault.RunFault.{RunFault}
use Rattle.tp_run.specs.declared.fault.RunFault.TheVariants.{Opening, Spare, Port, OfferRefused, FlushFailed, OutputFailed, ConfirmRefused, LastFlushFailed, Unaccounted, Memory}
use Rattle.tp_run.specs.declared.job.Job.{Job}

-- an option that has no value is `None`
pub none_of : {A : Type 0} (o : Option A) → ((x : A) → o ≡ Some x → ⊥) → o ≡ None
none_of None never = refl
none_of (Some x) never = absurd (never x refl)

-- ## What is wrong with a job

there_is : (has_pages has_port : Bool) → fault_by has_pages has_port ≡ None → has_port ≡ true
there_is false has_port none = cc
there_is true false none = cc
there_is true true none = refl

-- if nothing is, its port is there
pub port_there : (spare port : ℕ) (t : Topology) → job_fault spare port t ≡ None → port < t.ports
port_there spare port t none = ltb-true port t.ports (there_is (has_pages spare t) (nat_lt port t.ports) none)

-- it is one of two things
pub wrong_is : (P : RunFault → Type 0) (has_pages has_port : Bool) (fault : RunFault) → fault_by has_pages has_port ≡ Some fault → P Spare → P Port → P fault
wrong_is P false has_port fault is spare port = let same : Spare ≡ fault = cc in subst P same spare
wrong_is P true false fault is spare port = let same : Port ≡ fault = cc in subst P same port
wrong_is P true true fault is spare port = cc

opened_for : (given : Result Opened OpenFault) (job : Job) (opened : Opened) (fault : Option RunFault) → given ≡ Ok opened → job_fault job.spare job.port opened.head.topology ≡ fault → OpenedFor given job fault
opened_for given job opened fault is wrong = record { opened = opened; is = is; has = wrong }

-- which is told
pub wrong_told : (given : Result Opened OpenFault) (job : Job) (input : List ℕ) (opened : Opened) (has_pages has_port : Bool) (fault : RunFault) → given ≡ Ok opened
    → job_fault job.spare job.port opened.head.topology ≡ fault_by has_pages has_port → fault_by has_pages has_port ≡ Some fault → FaultFor given job input fault
wrong_told given job input opened false has_port fault is wrong by =
    let same : Spare ≡ fault = cc in subst (FaultFor given job input) same (opened_for given job opened (Some Spare) is wrong)
wrong_told given job input opened true false fault is wrong by =
    let same : Port ≡ fault = cc in subst (FaultFor given job input) same (opened_for given job opened (Some Port) is wrong)
wrong_told given job input opened true true fault is wrong by = cc

-- ## What a run that was begun answers

pub answered : (given : Result Opened OpenFault) (job : Job) (input : List ℕ) (opened : Opened) (r : Result ℕ RunFault) → given ≡ Ok opened → job_fault job.spare job.port opened.head.topology ≡ None
    → IfErr r ComesBegun → IfErr r (λ fault. fault ≡ OfferRefused → 0 < length (rest_at (outset_in opened job.port) input)) → AnswerFor given job input r
answered given job input opened (Ok next) is right begun some = opened_for given job opened None is right
answered given job input opened (Err (Opening unopened)) is right begun some = absurd begun
answered given job input opened (Err Spare) is right begun some = absurd begun
answered given job input opened (Err Port) is right begun some = absurd begun
answered given job input opened (Err OfferRefused) is right begun some = record { opened = opened; is = is; has = (right, some refl) }
answered given job input opened (Err FlushFailed) is right begun some = opened_for given job opened None is right
answered given job input opened (Err OutputFailed) is right begun some = opened_for given job opened None is right
answered given job input opened (Err ConfirmRefused) is right begun some = opened_for given job opened None is right
answered given job input opened (Err LastFlushFailed) is right begun some = opened_for given job opened None is right
answered given job input opened (Err Unaccounted) is right begun some = opened_for given job opened None is right
answered given job input opened (Err Memory) is right begun some = opened_for given job opened None is right

-- ## What a device answers that was compacted

pub compact_answered : (given : Result Opened OpenFault) (opened : Opened) (r : Result Compaction CompactFault) → given ≡ Ok opened → SaysLast r (is_full_for_snapshot opened.generation) → CompactAnswer given r
compact_answered given opened (Ok done) is last = record { opened = opened; is = is; has = last }
compact_answered given opened (Err (compact.Opening unopened)) is last = absurd last
compact_answered given opened (Err compact.NoGeneration) is last = record { opened = opened; is = is; has = last }
compact_answered given opened (Err compact.DeviceFailed) is last = record { opened = opened; is = is; has = last }
compact_answered given opened (Err compact.NotWhole) is last = record { opened = opened; is = is; has = last }
compact_answered given opened (Err compact.Memory) is last = record { opened = opened; is = is; has = tt }
