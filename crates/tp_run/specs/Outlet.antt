-- What an outlet was called for, what it took, and the device's state at each call.
use Rattle.std.specs.Prelude.{◌≡◌, ◌<◌, ◌≤◌, ◌⊎◌, ◌-◌, ◌^◌, ℕ, List, [], ◌∷◌, ◌++◌, length, drop, Option, Some, None, Result, Ok, Err}
use Rattle.tp_model.specs.DiskHistory.{State}
use Rattle.tp_run.specs.declared.outlet.OutletFault.{OutletFault}
use Rattle.tp_run.specs.declared.outlet.OutletFault.TheVariants.{Interrupted, Failed}

-- A call of an outlet: the bytes that it was to take, its answer, and the device's state at that moment.
pub record OutletCall : Type 0 where
  pub bytes : List ℕ
  pub answer : Result ℕ OutletFault
  pub there : State

-- What is known of an outlet: the bytes that it has taken, and the calls that it got. `None` says that nothing is known.
pub record OutletValue : Type 0 where
  pub taken : Option (List ℕ)
  pub calls : Option (List OutletCall)

-- an outlet that notes no calls
abbrev pub unnoted : Option (List ℕ) → OutletValue
unnoted taken = record { taken = taken; calls = None }

-- The noted calls grew by exactly `calls`. If no calls were noted before, this says nothing.
abbrev pub CallsMore : Option (List OutletCall) → Option (List OutletCall) → List OutletCall → Type 0
CallsMore None new calls = Unit {0}
CallsMore (Some xs) None calls = ⊥
CallsMore (Some xs) (Some ys) calls = ys ≡ xs ++ calls

-- the bytes that an outlet is still to take after an answer: those that it hasn't taken; none once it has failed
abbrev pub rest_behind : List ℕ → Result ℕ OutletFault → List ℕ
rest_behind bytes (Ok count) = drop count bytes
rest_behind bytes (Err Interrupted) = bytes
rest_behind bytes (Err Failed) = []

-- Calls that print `bytes`, one after the other, all made while the device was in the state `there`. Each call is for all bytes that are left, and is
-- made only if some are.
abbrev pub AreCalls : State → List ℕ → List OutletCall → Type 0
AreCalls there bytes [] = Unit {0}
AreCalls there bytes (call ∷ calls) =
    (0 < length bytes) × (call.bytes ≡ bytes) × (call.there ≡ there) × AreCalls there (rest_behind bytes call.answer) calls

-- the bytes that are left after these calls
abbrev pub left_behind : List ℕ → List OutletCall → List ℕ
left_behind bytes [] = bytes
left_behind bytes (call ∷ calls) = left_behind (rest_behind bytes call.answer) calls

-- An outlet was called to print `bytes` until none was left or a call failed, or until it was called 2^64 - 1 times. Its noted calls grew by exactly
-- these calls.
pub record WasCalled (there : State) (bytes : List ℕ) (was now : OutletValue) : Type 0 where
  pub calls : List OutletCall
  pub more : CallsMore was.calls now.calls calls
  pub are : AreCalls there bytes calls
  pub over : (left_behind bytes calls ≡ []) ⊎ (2 ^ 64 - 1 ≤ length calls)
