-- An entry with which a part of a network doesn't go on.
use Rattle.std.specs.Prelude.{◌≡◌, ◌⊎◌, Some, None}
use Rattle.tp_replay.specs.Lower.{Entry, NodeState, Network, t414, Piece, next_in, IsOverfull}

-- The part doesn't go on with the entry: it isn't possible in it, or a line that it sends would be overfull.
abbrev pub IsBlocked : Piece → Network NodeState → Entry → Type 0
IsBlocked has u e =
    (next_in t414 has u e ≡ None) ⊎ ((v : Network NodeState) × (next_in t414 has u e ≡ Some v) × IsOverfull has v)
