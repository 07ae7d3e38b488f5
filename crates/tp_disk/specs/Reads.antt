-- What a device answered to reads, and the premise that it is what the device held.
use Rattle.std.specs.Prelude.{◌≡◌, ℕ, Bool, true, false, List, [], ◌∷◌, length, take, drop}
use Rattle.tp_disk.specs.Lower.{AllByRecursion, AllByRecursion-prop, Coded-set, coded_list, coded_ℕ}

-- A read that was answered: from which place on, which bytes came, and what the device's model held then.
pub record Reading : Type 0 where
  pub at : ℕ
  pub came : List ℕ
  pub held : List ℕ

-- the bytes that came are those that the model held there
abbrev pub IsTrue : Reading → Type 0
IsTrue reading = reading.came ≡ take (length reading.came) (drop reading.at reading.held)

-- The premise on a device: each of these reads gave what the model held.
abbrev pub AreTrue : List Reading → Type 0
AreTrue reads = AllByRecursion IsTrue reads

pub AreTrue-prop : (reads : List Reading) → IsProp (AreTrue reads)
AreTrue-prop reads = AllByRecursion-prop IsTrue (λ r. Coded-set (coded_list coded_ℕ) r.came (take (length r.came) (drop r.at r.held))) reads

-- what meets the premise now met it before
abbrev pub WereTrue : (old new : List Reading) → Type 0
WereTrue old new = AreTrue new → AreTrue old

-- what a read adds if it was answered
abbrev pub answered : (ok : Bool) → (at : ℕ) → (came held : List ℕ) → List Reading
answered true at came held = record { at = at; came = came; held = held } ∷ []
answered false at came held = []
