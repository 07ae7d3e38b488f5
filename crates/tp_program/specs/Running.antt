-- What `run` does.
use Rattle.std.specs.Prelude.{◌≡◌, ℕ, List, Result, Ok, Err, min}
use Rattle.tp_program.specs.Lower.{AreTrue, Reading, Began, State, verdict, LeavesNothingNew, AnswerFor, IsSilent, IsUnbegun, OutletValue, History, RanInto, RunFault, Job, Run}
use Rattle.tp_run.specs.declared.fault.RunFault.TheVariants.{Spare, Port}

-- the job of a run; a number above what any device has becomes the greatest of its kind
abbrev pub job_of : Run → Job
job_of run = record {
  turns = run.turns;
  workers = run.workers;
  quantum = run.quantum;
  spare = min run.spare 65535;
  every = run.every;
  port = min run.port 255;
}

-- the status with which a run ends
abbrev pub status_of : Result ℕ RunFault → ℕ
status_of (Ok next) = 0
status_of (Err Spare) = 2
status_of (Err Port) = 2
status_of _ = 1

-- A run of this job and input ended with this status, for a reason that the device and the job give. This is what it left on the device and on
-- standard output, and the device's state at each call for that output.
pub record RanAs (history : History) (job : Job) (input : List ℕ) (old new : State) (read : List Reading) (was now : OutletValue) (status : ℕ) : Type 0 where
  pub done : Result ℕ RunFault
  pub is : status ≡ status_of done
  pub ran : AreTrue read → Began history.formatted history.before old.now.bytes → RanInto history.formatted job input was now done old new
  pub unwritten : IsUnbegun done → LeavesNothingNew old new
  pub silent : IsSilent done → now ≡ was
  pub answer : AreTrue read → AnswerFor (verdict old.now.bytes) job input done
