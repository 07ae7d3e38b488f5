-- What `run --stream` does with a device's file.
use Rattle.std.specs.Prelude.{◌≡◌, ◌⊎◌, ℕ, List, Option, Result, IfOk, IsErr, string_bytes}
use Rattle.tp_program.specs.Lower.{AreTrue, Reading, Began, State, verdict, History, IsAsked, Ended, HaveOwnPaths, StreamRun}
use Rattle.tp_program.specs.declared.streaming.FilesFault.{FilesFault}
use Rattle.tp_program.specs.Devices.{DeviceCall, UsedOne, WasRefused}
use Rattle.tp_program.specs.Streaming.{IsUnopened, FindsNothingNew, OnOpened, StreamedOn, stream_status, task_of}

-- What `stream_on` promises of a device, between the state in which it was opened and the one in which it was given back.
pub record StreamedBetween (history : History) (run : StreamRun) (status : ℕ) (opened closed : State) (read : List Reading) : Type 0 where
  pub done : Result Ended FilesFault
  pub is : status ≡ stream_status done
  pub streamed : AreTrue read → Began history.formatted history.before opened.now.bytes → StreamedOn history.formatted run.ends done opened closed
  pub unwritten : FindsNothingNew done opened closed
  pub unopened : AreTrue read → IsErr (verdict opened.now.bytes) → IsUnopened done
  pub why : IfOk done (λ ended. IsAsked (task_of run) ended.why)
  pub own : OnOpened done (HaveOwnPaths (string_bytes run.device) run.ends.outs.items run.ends.ins.items)

-- Either the stream was refused, or only the device at its path was opened, streamed on, and given back.
abbrev pub StreamedFile : History → StreamRun → (old new : List DeviceCall) → (was now : Option (List ℕ)) → ℕ → Type 0
StreamedFile history run old new was now status =
    WasRefused old new was now status ⊎ UsedOne (string_bytes run.device) old new (StreamedBetween history run status)
