-- Bytes that wait in a queue.
use Rattle.std.specs.Prelude.{◌≡◌, ℕ, ◌+◌, List, ◌++◌, length}

-- A queue had the bytes `was`, the first of them at position `from` of all that ever came. Then `more` came after them, and `gone` were taken off its
-- front. It has the bytes `now`, the first of them at position `at`.
pub record Moved (more : List ℕ) (from : ℕ) (was : List ℕ) (at : ℕ) (now : List ℕ) : Type 0 where
  pub gone : List ℕ
  pub base : at ≡ from + length gone
  pub are : was ++ more ≡ gone ++ now
