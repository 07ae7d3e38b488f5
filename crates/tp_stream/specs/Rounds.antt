-- How many turns the calling thread makes in a row.
use Rattle.std.specs.Prelude.{◌≡◌, ◌≤◌, ℕ, ◌+◌, ◌-◌, ◌^◌, min, Bool, false, true, if◌then◌else◌}
use Rattle.tp_stream.specs.declared.rounds.TheConstants.{ROUND}
use Rattle.tp_stream.specs.declared.turns.Turns.{Turns}

-- How many turns a round has at most, in a network of `nodes` nodes. If workers make more turns after it, each process has one.
abbrev pub round_of : Bool → ℕ → ℕ
round_of busy nodes = if busy then nodes + 1 else ROUND

-- A round made no more turns than that. Workers make more turns after it only if they did before it, or if it made all of its turns.
pub record MadeRound (nodes : ℕ) (old new : Turns) : Type 0 where
  pub most : new.made ≤ old.made + round_of old.is_busy nodes
  pub joined : old.is_busy ≡ false → new.is_busy ≡ true → new.made ≡ min (old.made + ROUND) (2 ^ 64 - 1)
