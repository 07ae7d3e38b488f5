-- What the flusher knows, and how a world is reached.
use Rattle.std.specs.Prelude.{ℕ, List}
use Rattle.tp_flush.specs.Lower.{NodeState, t414, Network, MayBe, device_areas, World, Event, Run, BeginsFormatted}

-- the world as the flusher knows it, and the bytes that this process opened
pub record Known : Type 0 where
  pub world : World NodeState
  pub opened : List ℕ

-- A run leads to the world from a device that was formatted, in either form, with this network.
pub record Reached (start : Network NodeState) (w : World NodeState) : Type 0 where
  pub first : World NodeState
  pub events : List (Event NodeState)
  pub formatted : BeginsFormatted t414 device_areas start first
  pub run : Run t414 device_areas first events w

-- What this process opened: the world before it was reached, and its end, or a crash of it, may leave `bytes`.
pub record Began (start : Network NodeState) (before : World NodeState) (bytes : List ℕ) : Type 0 where
  pub reached : Reached start before
  pub may : MayBe before.disk bytes
