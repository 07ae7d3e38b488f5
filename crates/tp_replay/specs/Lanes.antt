-- Wires, and the lines as one part has them.
use Rattle.std.specs.Prelude.{◌≡◌, ◌<◌, ◌≤◌, ℕ, Bool, List, length, Option}
use Rattle.tp_replay.specs.Lower.{Token, WireEnd, on_line, sent}

-- for each line the end that receives it, and its tokens
pub record LanesValue : Type 0 where
  pub wires : List (Option WireEnd)
  pub lines : List (List Token)

-- the wires and the number of lines stay as they were
pub record SameLanes (was now : LanesValue) : Type 0 where
  pub wires : now.wires ≡ was.wires
  pub count : length now.lines ≡ length was.lines

-- no line has more than two tokens
abbrev pub AreShort : List (List Token) → Type 0
AreShort lines = (line : ℕ) → length (on_line lines line) ≤ 2

-- Once the tokens were sent, a line would have more than two tokens that has at most two now.
pub record Overfills (on : ℕ → Bool) (lines : List (List Token)) (ms : List (ℕ × Token)) : Type 0 where
  pub line : ℕ
  pub short : length (on_line lines line) ≤ 2
  pub long : 2 < length (on_line (sent on lines ms) line)
