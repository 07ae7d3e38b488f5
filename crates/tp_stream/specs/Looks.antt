-- Checks whether a stream is asked to stop, and what they answered.
use Rattle.std.specs.Prelude.{◌≡◌, ◌⊎◌, ℕ, Bool, true, false, List, [], ◌∷◌, ◌++◌, All, Option, Some, None, if◌then◌else◌}
use Rattle.tp_stream.specs.Lower.{Ending, Quiet, Turns, Gone, Halted, Stopped}
use Rattle.tp_stream.specs.declared.task.Task.{Task}

-- whether a stream is over because it was asked to stop
abbrev pub is_stopped : Option Ending → Bool
is_stopped None = false
is_stopped (Some Quiet) = false
is_stopped (Some Turns) = false
is_stopped (Some Gone) = false
is_stopped (Some Halted) = false
is_stopped (Some Stopped) = true

-- the answer of a check, if the task asks for one; else no answer
abbrev pub looked : Task → Bool → List Bool
looked task answer = if task.until_asked then answer ∷ [] else []

-- the last check's answer, if the stream is over because it was asked to stop
abbrev pub last_yes : Option Ending → List Bool
last_yes ended = if is_stopped ended then true ∷ [] else []

-- What one cycle may do. It may check once: the answer is yes exactly if the stream is over because it was asked to stop. Or it didn't check: then
-- the stream isn't over, and no turn was made that counts, `made` being their number before and `later` after.
abbrev pub LooksOnce : Task → ℕ → ℕ → List Bool → List Bool → Option Ending → Type 0
LooksOnce task made later old new ended = (new ≡ old ++ looked task (is_stopped ended)) ⊎ ((ended ≡ None) × (new ≡ old) × (later ≡ made))

-- what one cycle may do, whatever turns were made after it
abbrev pub LooksAtMostOnce : Task → List Bool → List Bool → Option Ending → Type 0
LooksAtMostOnce task old new ended = (new ≡ old ++ looked task (is_stopped ended)) ⊎ ((ended ≡ None) × (new ≡ old))

-- Each check answered no, but the last one answered yes if the stream is over because it was asked to stop. No check was made if the task doesn't ask
-- for it.
pub record HaveLooked (task : Task) (old new : List Bool) (ended : Option Ending) : Type 0 where
  pub noes : List Bool
  pub each : All (λ answer. answer ≡ false) noes
  pub are : new ≡ old ++ (noes ++ last_yes ended)
  pub unasked : task.until_asked ≡ false → noes ≡ []
