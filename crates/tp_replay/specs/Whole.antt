-- Parts that are a whole network, and what is answered of it.
use Rattle.std.specs.Prelude.{◌≡◌, ◌<◌, ℕ, List, length, Option, Some, None}
use Rattle.tp_replay.specs.Lower.{Entry, NodeState, Network, on_line, next, markers, t414, t414_ends, after, Sound, Agrees, Covers, Piece, reach}

-- These parts are the whole of s, which is sound and has no Markers. Each process is in at least one of them, and each part has its own as
-- s has it.
pub record AreWhole (s : Network NodeState) (count : ℕ) (pieces : ℕ → Piece) (parts : ℕ → Network NodeState) : Type 0 where
  pub sound : Sound t414_ends s
  pub unmarked : (line : ℕ) → markers (on_line s.lines line) ≡ 0
  pub covers : Covers count pieces
  pub agree : (i : ℕ) → i < count → Agrees (pieces i) s (parts i)

-- how many entries come before the first that isn't possible; `None` if all are possible
abbrev pub IsStop : Network NodeState → List Entry → Option ℕ → Type 0
IsStop s es None = reach (next t414) s es ≡ length es
IsStop s es (Some k) = (reach (next t414) s es ≡ k) × (k < length es)

-- If all are possible, each part has its own at the end as the network after the entries has it. So what the parts have then, put together,
-- is that network (`pieces_make_the_network`).
abbrev pub EndsAgree : Network NodeState → List Entry → Option ℕ → ℕ → (ℕ → Piece) → (ℕ → Network NodeState) → Type 0
EndsAgree s es stop count pieces ends =
    stop ≡ None → (t : Network NodeState) × (after t414 s es ≡ Some t) × ((i : ℕ) → i < count → Agrees (pieces i) t (ends i))
