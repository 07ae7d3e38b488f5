-- What a run printed, by what it answered.
use Rattle.std.specs.Prelude.{◌<◌, ◌≤◌, ℕ, List, length, take, Option, Result, Ok, Err}
use Rattle.tp_run.specs.Lower.{Appends, State}
use Rattle.tp_run.specs.Outlet.{OutletValue, WasCalled}
use Rattle.tp_run.specs.declared.fault.RunFault.{RunFault}
use Rattle.tp_run.specs.declared.fault.RunFault.TheVariants.{OutputFailed, ConfirmRefused, LastFlushFailed, Unaccounted, Memory}

-- whether this fault may come before anything is printed
abbrev pub ComesSilent : RunFault → Type 0
ComesSilent OutputFailed = ⊥
ComesSilent ConfirmRefused = ⊥
ComesSilent LastFlushFailed = ⊥
ComesSilent _ = Unit {0}

-- Whether this fault may come after `count` of `all` bytes were printed. If the output can't be written, fewer than all were printed; other faults
-- come after all were.
abbrev pub FaultPrints : RunFault → ℕ → ℕ → Type 0
FaultPrints OutputFailed count all = count < all
FaultPrints ConfirmRefused count all = all ≤ count
FaultPrints LastFlushFailed count all = all ≤ count
FaultPrints Unaccounted count all = all ≤ count
FaultPrints Memory count all = all ≤ count
FaultPrints _ count all = ⊥

-- ## By an answer

abbrev pub MayBeSilent : {A : Type 0} → Result A RunFault → Type 0
MayBeSilent (Ok x) = ⊥
MayBeSilent (Err fault) = ComesSilent fault

abbrev pub PrintsOf : {A : Type 0} → Result A RunFault → ℕ → ℕ → Type 0
PrintsOf (Ok x) count all = all ≤ count
PrintsOf (Err fault) count all = FaultPrints fault count all

-- whether this answer agrees with all bytes having been printed
abbrev pub TellsAllPrinted : {A : Type 0} → Result A RunFault → Type 0
TellsAllPrinted r = (count all : ℕ) → all ≤ count → PrintsOf r count all

-- the answer agrees with what was printed: the first `count` of these bytes
abbrev pub PrintsSo : {A : Type 0} → Result A RunFault → Option (List ℕ) → Option (List ℕ) → List ℕ → Type 0
PrintsSo r was now bytes = (count : ℕ) × Appends was now (take count bytes) × PrintsOf r count (length bytes)

-- the answer agrees with what was printed, and the outlet was called for these bytes while the device was in the state `there`
pub record PrintsAt {A : Type 0} (there : State) (r : Result A RunFault) (was now : OutletValue) (bytes : List ℕ) : Type 0 where
  pub prints : PrintsSo r was.taken now.taken bytes
  pub called : WasCalled there bytes was now
