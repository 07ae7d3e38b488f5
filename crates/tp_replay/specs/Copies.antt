-- Lines that are copied.
use Rattle.std.specs.Prelude.{◌≡◌, ◌≤◌, ◌<◌, ℕ, List, length}
use Rattle.tp_replay.specs.Lower.{Token, on_line}

-- The lines from `first` on that are before `past` are now those of `from`; the others are as they were.
pub record Copies (first past : ℕ) (from was now : List (List Token)) : Type 0 where
  pub count : length now ≡ length was
  pub within : (line : ℕ) → first ≤ line → line < past → on_line now line ≡ on_line from line
  pub below : (line : ℕ) → line < first → on_line now line ≡ on_line was line
  pub behind : (line : ℕ) → past ≤ line → on_line now line ≡ on_line was line
