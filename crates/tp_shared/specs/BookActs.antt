-- What is done to a book while its lock is held.
use Rattle.std.specs.Prelude.{◌≡◌, ◌≢◌, ℕ, false, List, ◌++◌, length, set, get_or, Some, None}
use Rattle.tp_shared.specs.Lower.{AllByRecursion, range_with_len, Entry, t414, Act, acted, process, is_trim, has_recorded_in, BookValue, agreed, next_in_book, world_of, entries_among}
use Rattle.tp_shared.specs.Agreement.{Agreement}

-- Acts were done, none of them a trim. The book has their entries more, as `Are` says, under the numbers that come next.
pub record Grown (Are : List Entry → Type 0) (old new : BookValue) : Type 0 where
  pub acts : List Act
  pub none : AllByRecursion (λ act. is_trim act ≡ false) acts
  pub did : acted t414 (world_of old) acts ≡ Some (world_of new)
  pub are : Are (entries_among acts)
  pub start : new.state.start ≡ old.state.start
  pub entries_are : new.state.entries ≡ old.state.entries ++ entries_among acts
  pub numbers : new.numbers ≡ old.numbers ++ range_with_len (next_in_book old) (length (entries_among acts))
  pub history : new.history ≡ old.history ++ entries_among acts
  pub base : new.base ≡ old.base
  pub ready : new.ready ≡ old.ready
  pub room : new.room ≡ old.room
  pub floor : new.floor ≡ old.floor
  pub form : new.form ≡ old.form
  pub broken : new.broken ≡ old.broken

-- Acts of a node were done. Then the node, and whether a turn of it is reserved, are as agreed. The others are as they were: whether they
-- have recorded, and their frozen images.
pub record NodeActed (Are : List Entry → Type 0) (number : ℕ) (agreement : Agreement) (old new : BookValue) : Type 0 where
  pub grown : Grown Are old new
  -- all entries among them are the node's own, so what others received stays at the front of their lines
  pub own : AllByRecursion (λ e. process old.state.start.wires (length old.state.start.nodes) e ≡ number) (entries_among grown.acts)
  pub nodes : agreed new.state ≡ set (agreed old.state) number agreement.node
  pub runs : new.runs ≡ set old.runs number agreement.reserved
  pub recorded : (other : ℕ) → other ≢ number → has_recorded_in new.state.snapshot other ≡ has_recorded_in old.state.snapshot other
  pub frozen : (other : ℕ) → other ≢ number → get_or new.frozen other None ≡ get_or old.frozen other None

-- Acts of the host were done. All nodes and reservations are as they were.
pub record HostActed (Are : List Entry → Type 0) (old new : BookValue) : Type 0 where
  pub grown : Grown Are old new
  -- no entry among them is a node's
  pub own : AllByRecursion (λ e. process old.state.start.wires (length old.state.start.nodes) e ≡ length old.state.start.nodes) (entries_among grown.acts)
  pub nodes : agreed new.state ≡ agreed old.state
  pub runs : new.runs ≡ old.runs
  pub recorded : (process : ℕ) → has_recorded_in new.state.snapshot process ≡ has_recorded_in old.state.snapshot process
  pub frozen : new.frozen ≡ old.frozen
