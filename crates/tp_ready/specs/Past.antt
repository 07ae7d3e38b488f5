-- What was done with a queue, the newest call first.
use Rattle.std.specs.Prelude.{◌≡◌, ◌<◌, ◌≤◌, ℕ, zero, suc, Bool, true, false, eqb, List, [], ◌∷◌, ◌++◌}
use Rattle.tp_ready.specs.declared.call.Call.{Call}
use Rattle.tp_ready.specs.declared.call.Claim.{Claim}
use Rattle.tp_ready.specs.declared.call.Step.{Step}
use Rattle.tp_ready.specs.declared.call.Step.TheVariants.{Took, Put}

-- the numbers below a count, in order
abbrev pub first_numbers : ℕ → List ℕ
first_numbers zero = []
first_numbers (suc n) = first_numbers n ++ n ∷ []

-- all but the first
abbrev pub but_first : List ℕ → List ℕ
but_first [] = []
but_first (first ∷ rest) = rest

-- what waits after a step, the longest waiting first
abbrev pub after_step : Step → List ℕ → List ℕ
after_step (Took number) items = but_first items
after_step (Put number) items = items ++ number ∷ []

-- what waits after these calls, if the numbers below the count waited first, in order
abbrev pub waiting_numbers : ℕ → List Call → List ℕ
waiting_numbers count [] = first_numbers count
waiting_numbers count (call ∷ older) = after_step call.step (waiting_numbers count older)

-- what is taken waits longest
abbrev pub IsDue : Step → List ℕ → Type 0
IsDue (Took number) [] = ⊥
IsDue (Took number) (first ∷ rest) = number ≡ first
IsDue (Put number) items = Unit {0}

-- each number that was taken waited longest then
abbrev pub IsLegal : ℕ → List Call → Type 0
IsLegal count [] = Unit {0}
IsLegal count (call ∷ older) = IsDue call.step (waiting_numbers count older) × IsLegal count older

-- with one more, if it is wanted
abbrev pub add_if : Bool → Call → List Call → List Call
add_if true call calls = call ∷ calls
add_if false call calls = calls

-- the calls of one hand
abbrev pub calls_by : ℕ → List Call → List Call
calls_by by [] = []
calls_by by (call ∷ older) = add_if (eqb call.by by) call (calls_by by older)

-- the hands below a count, the last one first, before any made a call
abbrev pub first_claims : ℕ → List Claim
first_claims zero = []
first_claims (suc n) = record { who = n; calls = [] } ∷ first_claims n

-- All calls that were seen, and the hands that saw them, with their own.
pub record Past : Type 0 where
  pub claims : List Claim
  pub seen : List Call

-- nobody saw anything
abbrev pub nothing : Past
nothing = record { claims = []; seen = [] }

-- one hand, which has made no call and seen none
pub record IsNew (past : Past) : Type 0 where
  pub who : ℕ
  pub claims : past.claims ≡ record { who = who; calls = [] } ∷ []
  pub seen : past.seen ≡ []

-- A hand made one more call: this step, after all that any hand called before. That includes all calls of its own and what it had seen.
-- Only the queue's hands made the calls, and each number that one of them took waited longest then.
pub record HasCalled (count hands : ℕ) (step : Step) (old new : Past) : Type 0 where
  pub who : ℕ
  pub calls : List Call
  pub newer : List Call
  pub was : old.claims ≡ record { who = who; calls = calls } ∷ []
  pub is : new.claims ≡ record { who = who; calls = record { by = who; step = step } ∷ calls } ∷ []
  pub seen : new.seen ≡ record { by = who; step = step } ∷ (newer ++ old.seen)
  pub below : who < hands
  pub own : calls_by who new.seen ≡ record { by = who; step = step } ∷ calls
  pub known : (by : ℕ) → hands ≤ by → calls_by by new.seen ≡ []
  pub legal : IsLegal count new.seen
