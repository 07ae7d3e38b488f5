-- The book and the journal that the flusher knows.
use Rattle.std.specs.Prelude.{◌≡◌, ◌≤◌, List, ◌++◌, length, Some}
use Rattle.tp_flush.specs.Lower.{Entry, NodeState, t414, Network, plain_network, after, World, BookValue, next_in_book, world_of}

-- The book has the journal of a world and some entries after it. Together they are all entries below its next number. They lead from the
-- start to the network that it has, without Markers. The mark is at most what the journal has.
pub record IsAheadOf (start : Network NodeState) (w : World NodeState) (b : BookValue) : Type 0 where
  pub more : List Entry
  pub leads : after t414 start (w.journal ++ more) ≡ Some (plain_network (world_of b).live)
  pub many : length (w.journal ++ more) ≡ next_in_book b
  pub marked : w.mark ≤ length w.journal
