-- What `run` does with a device's file.
use Rattle.std.specs.Prelude.{◌≡◌, ◌⊎◌, ℕ, List, [], Option, None, IsErr, string_bytes}
use Rattle.tp_program.specs.Lower.{AreTrue, Reading, State, verdict, LeavesNothingNew, unnoted, History, Run}
use Rattle.tp_program.specs.Devices.{DeviceCall, UsedOne, WasRefused}
use Rattle.tp_program.specs.Running.{RanAs, job_of}

-- What `run_on` promises of a device, between the state in which it was opened and the one in which it was given back.
pub record RanBetween (history : History) (run : Run) (input : List ℕ) (was now : Option (List ℕ)) (status : ℕ) (opened closed : State) (read : List Reading) : Type 0 where
  pub ran : RanAs history (job_of run) input opened closed read (unnoted was) (unnoted now) status
  pub words : status ≡ 2 → LeavesNothingNew opened closed × (now ≡ was)
  pub unopened : AreTrue read → IsErr (verdict opened.now.bytes) → (status ≡ 1) × LeavesNothingNew opened closed × (now ≡ was)

-- Either the run was refused, or only the device at its path was opened, run with this input, and given back.
abbrev pub RanWith : History → Run → (input : List ℕ) → (old new : List DeviceCall) → (was now : Option (List ℕ)) → ℕ → Type 0
RanWith history run input old new was now status =
    WasRefused old new was now status ⊎ UsedOne (string_bytes run.device) old new (RanBetween history run input was now status)

-- It ran in that way with the bytes that were read of the file of its input. No contract says what these are; without a file there are none.
pub record RanFile (history : History) (run : Run) (old new : List DeviceCall) (was now : Option (List ℕ)) (status : ℕ) : Type 0 where
  pub input : List ℕ
  pub unnamed : run.input ≡ None → input ≡ []
  pub ran : RanWith history run input old new was now status
