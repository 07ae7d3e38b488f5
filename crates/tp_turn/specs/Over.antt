-- Lines that are closed while tokens come before their Markers.
use Rattle.std.specs.Prelude.{◌≡◌, ℕ, if◌then◌else◌, List, [], ◌∷◌, length}
use Rattle.tp_turn.specs.Lower.{Act, Close, BookValue, after_close_over, is_closable}
use Rattle.tp_turn.specs.Turns.{InOrder}

-- A line is closed if a Marker is on it and its receiver has recorded.
pub record ClosesOver (line : ℕ) (s : BookValue) (acts : List Act) (t : BookValue) : Type 0 where
  pub are : acts ≡ (if is_closable s line then Close line ∷ [] else [])
  pub is : t ≡ (if is_closable s line then after_close_over s line else s)

-- Each line of a network is closed over, in their order.
abbrev pub ClosesAll : BookValue → List Act → BookValue → Type 0
ClosesAll s acts t = InOrder ClosesOver (length s.state.lines) s acts t
