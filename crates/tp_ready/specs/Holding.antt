-- What the type of a hand or of a turn says of its pass.
use Rattle.std.specs.Prelude.{◌≡◌, ℕ, true, List, [], length, Option, Some, None}
use Rattle.crossbeam_queue.specs.Passes.{Pass, view}
use Rattle.tp_ready.specs.declared.view.View.{View}
use Rattle.tp_ready.specs.Numbers.{Numbers}
use Rattle.tp_ready.specs.Past.{Past, nothing}
use Rattle.tp_ready.specs.View.{past_of}

-- the queue of a pass, with its counts
abbrev pub numbers_held : Pass ℕ View → Numbers
numbers_held p = record { queue = p.table_id; count = (view p).count; hands = (view p).hands }

-- what the hands of a pass have seen and called
abbrev pub past_at : Pass ℕ View → Past
past_at p = past_of (view p)

-- and of `None`, without a pass
abbrev pub past_in : Option (Pass ℕ View) → Past
past_in (Some p) = past_at p
past_in None = nothing

-- the pass holds the numbers, it is one hand, and no slot is out with it
abbrev pub HoldsNumbers : List ℕ → Pass ℕ View → Type 0
HoldsNumbers held p = ((view p).knows ≡ true) × ((view p).held ≡ held) × (p.me.1 ≡ []) × (length (view p).claims ≡ 1)
