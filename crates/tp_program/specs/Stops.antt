-- What `stop` does, and what it prints.
use Rattle.std.specs.Prelude.{◌≡◌, ◌⊎◌, ◌<◌, ℕ, Bool, true, false, List, [], ◌∷◌, ◌++◌, codes, replicate, Option, Some, None, string_bytes}
use Rattle.tp_program.specs.Lower.{Appends, StopRequest}
use Rattle.tp_program.specs.declared.asking.Unasked.{Unasked}
use Rattle.tp_program.specs.declared.asking.Unasked.TheVariants.{Device, NoDevice, NotRunning, Request, StillRunning}
use Rattle.tp_program.specs.Devices.{DeviceCall, Holds, WasRefused}

-- the path at which a stream of a device is asked to stop
abbrev pub request_path : List ℕ → List ℕ
request_path device = device ++ codes ".stop"

-- The last call asked for the device at this path, and another process had it.
pub record WasHeldElsewhere (path : List ℕ) (calls : List DeviceCall) : Type 0 where
  pub before : List DeviceCall
  pub seconds : ℕ
  pub is : calls ≡ before ++ Holds path seconds false ∷ []

-- the line that is printed: that a stream was asked; or, if the command waited, that it has ended
abbrev pub stop_line : Option ℕ → List ℕ
stop_line None = codes "asked" ++ 10 ∷ []
stop_line (Some seconds) = codes "ended" ++ 10 ∷ []

-- The device was asked for once more, without waiting.
pub record LookedAgain (path : List ℕ) (old new : List DeviceCall) : Type 0 where
  pub got : Bool
  pub calls : new ≡ old ++ Holds path 0 got ∷ []

-- The device was asked for again and again, a second each time. Another process had it at first, and then it was got, before `seconds` seconds were
-- over.
pub record GotWithin (path : List ℕ) (seconds : ℕ) (old new : List DeviceCall) : Type 0 where
  pub times : ℕ
  pub within : times < seconds
  pub calls : new ≡ (old ++ replicate times (Holds path 1 false)) ++ Holds path 1 true ∷ []

-- What came after a request: the command asked for the device once more, or, if it waits, until it got it.
abbrev pub CameThen : Option ℕ → (path : List ℕ) → (old new : List DeviceCall) → Type 0
CameThen None path old new = LookedAgain path old new
CameThen (Some seconds) path old new = GotWithin path seconds old new

-- A stream was asked to stop, because another process had the device. If the command waits, the stream has ended.
abbrev pub HasAsked : Option ℕ → (path : List ℕ) → (old new : List DeviceCall) → Type 0
HasAsked wait path old new = CameThen wait path (old ++ Holds path 0 false ∷ []) new

-- The command waited for as many seconds as were typed, and another process had the device in each of them.
abbrev pub WaitedInVain : Option ℕ → (path : List ℕ) → (old new : List DeviceCall) → Type 0
WaitedInVain None path old new = ⊥
WaitedInVain (Some seconds) path old new = new ≡ old ++ replicate seconds (Holds path 1 false)

-- This is said if no other process has the device.
abbrev pub IsOfNobody : Unasked → Type 0
IsOfNobody (Device refusal) = ⊥
IsOfNobody (NoDevice refusal) = Unit {0}
IsOfNobody NotRunning = Unit {0}
IsOfNobody (Request unmade) = ⊥
IsOfNobody StillRunning = ⊥

-- When a stream isn't asked, or hasn't ended:
-- - the command failed before it asked for the device
-- - no other process had the device
-- - the request couldn't be made
-- - another process still had the device
abbrev pub WasUnasked : Unasked → Option ℕ → (path : List ℕ) → (old new : List DeviceCall) → Type 0
WasUnasked (Device refusal) wait path old new = new ≡ old
WasUnasked (NoDevice refusal) wait path old new = new ≡ old ++ Holds path 0 true ∷ []
WasUnasked NotRunning wait path old new = new ≡ old ++ Holds path 0 true ∷ []
WasUnasked (Request unmade) wait path old new = new ≡ old ++ Holds path 0 false ∷ []
WasUnasked StillRunning wait path old new = WaitedInVain wait path (old ++ Holds path 0 false ∷ []) new

-- A stream was asked, and if the status says so, exactly its line was printed.
pub record WasAsked (request : StopRequest) (old new : List DeviceCall) (was now : Option (List ℕ)) (status : ℕ) : Type 0 where
  pub asked : HasAsked request.wait (string_bytes request.device) old new
  pub printed : status ≡ 0 → Appends was now (stop_line request.wait)

-- A stream wasn't asked, or hasn't ended, and nothing was printed.
pub record WasNotAsked (request : StopRequest) (old new : List DeviceCall) (was now : Option (List ℕ)) (status : ℕ) : Type 0 where
  pub fault : Unasked
  pub why : WasUnasked fault request.wait (string_bytes request.device) old new
  pub refused : status ≡ 1
  pub silent : now ≡ was

-- What `stop` did. It opens no device.
abbrev pub AskedAs : StopRequest → (old new : List DeviceCall) → (was now : Option (List ℕ)) → ℕ → Type 0
AskedAs request old new was now status = WasAsked request old new was now status ⊎ WasNotAsked request old new was now status

-- Either the command was refused because standard output is the device's file, or it did as `AskedAs` says.
abbrev pub StopAnswered : StopRequest → (old new : List DeviceCall) → (was now : Option (List ℕ)) → ℕ → Type 0
StopAnswered request old new was now status = WasRefused old new was now status ⊎ AskedAs request old new was now status
