-- What contracts see of a ready queue, and of a number that was taken from it.
use Rattle.std.specs.Prelude.{ℕ, Option}
use Rattle.atomic_table.specs.Seated.{TableId}
use Rattle.tp_ready.specs.Past.{Past}

-- A queue: its name, which no other queue has, how many numbers there are, and how many hands. They are the numbers below that count.
pub record Numbers : Type 0 where
  pub queue : TableId
  pub count : ℕ
  pub hands : ℕ

-- A hand: its queue, or `None` while it has a number, and what it has seen and called.
pub record HandValue : Type 0 where
  pub of : Option Numbers
  pub past : Past

-- A number that is held, its queue, and what its hand has seen and called.
pub record TurnValue : Type 0 where
  pub of : Numbers
  pub number : ℕ
  pub past : Past
