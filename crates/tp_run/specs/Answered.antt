-- Which fault a run answers, by the device and the job.
use Rattle.std.specs.Prelude.{◌≡◌, ◌<◌, ℕ, List, length, Option, Some, None, Result, Ok, Err}
use Rattle.tp_run.specs.Lower.{OpenFault, Opened, ReadAnswer, Unopened}
use Rattle.tp_run.specs.declared.fault.RunFault.{RunFault}
use Rattle.tp_run.specs.declared.fault.RunFault.TheVariants.{Opening, Spare, Port, OfferRefused}
use Rattle.tp_run.specs.declared.job.Job.{Job}
use Rattle.tp_run.specs.Input.{rest_at}
use Rattle.tp_run.specs.Made.{job_fault}
use Rattle.tp_run.specs.Outset.{outset_in}

-- The device isn't opened: its bytes give this fault, a call of the device failed, or memory ran out.
abbrev pub IsUnopened : Result Opened OpenFault → Unopened → Type 0
IsUnopened given unopened = ReadAnswer (λ (opened : Opened). opened) given (Err unopened)

-- The device opened, and `Has` is true of what was read.
pub record OpenedWith (given : Result Opened OpenFault) (Has : Opened → Type 0) : Type 0 where
  pub opened : Opened
  pub is : given ≡ Ok opened
  pub has : Has opened

-- The device opened, and this is what is wrong with the job on it; `None` if nothing is.
abbrev pub OpenedFor : Result Opened OpenFault → Job → Option RunFault → Type 0
OpenedFor given job fault = OpenedWith given (λ (opened : Opened). job_fault job.spare job.port opened.head.topology ≡ fault)

-- Nothing is wrong with the job, and the port has room for some of the input that it hasn't accepted.
abbrev pub HasInput : Job → List ℕ → Opened → Type 0
HasInput job input opened = (job_fault job.spare job.port opened.head.topology ≡ None) × (0 < length (rest_at (outset_in opened job.port) input))

-- When a run may end with this fault. Opening a device and checking the job have faults of their own. Any other fault comes only if the device opened
-- and nothing is wrong with the job. `OfferRefused` also needs input that the port has room for.
abbrev pub FaultFor : Result Opened OpenFault → Job → List ℕ → RunFault → Type 0
FaultFor given job input (Opening unopened) = IsUnopened given unopened
FaultFor given job input Spare = OpenedFor given job (Some Spare)
FaultFor given job input Port = OpenedFor given job (Some Port)
FaultFor given job input OfferRefused = OpenedWith given (HasInput job input)
FaultFor given job input _ = OpenedFor given job None

-- When a run may give this answer. A run that is done had a device that opened and a job with nothing wrong.
abbrev pub AnswerFor : Result Opened OpenFault → Job → List ℕ → Result ℕ RunFault → Type 0
AnswerFor given job input (Ok next) = OpenedFor given job None
AnswerFor given job input (Err fault) = FaultFor given job input fault
