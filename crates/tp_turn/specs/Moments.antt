-- A book with a node beside it, and what acts of the node change.
use Rattle.std.specs.Prelude.{◌≡◌, ℕ, true, List, [], ◌∷◌, ◌≢◌, get_or, set, Some, None, IsSome, slice_get, length}
use Rattle.tp_turn.specs.Lower.{AllByRecursion, Entry, NodeState, t414, process, Act, Begin, Record, Journal, Close, Trim, acted, IsNodeOfBytes, NodeContents, has_recorded_in, BookValue, agreed, world_of}
use Rattle.tp_turn.specs.Books.{Grew}

-- a book and a node, both as they are at a moment
pub record TurnMoment : Type 0 where
  pub book : BookValue
  pub node : NodeContents

abbrev pub moment_of : BookValue → NodeContents → TurnMoment
moment_of book node = record { book = book; node = node }

-- The node is the one that the book's entries make of it, and it has an image. While it is frozen, it has recorded in a snapshot that runs,
-- and is kept as the book has it frozen.
pub record IsNodeOf (b : BookValue) (number : ℕ) (node : NodeContents) : Type 0 where
  pub there : slice_get (agreed b.state) number ≡ Some node.live
  pub image : IsNodeOfBytes node.live
  pub recorded : IsSome node.frozen → has_recorded_in b.state.snapshot number ≡ true
  pub kept : (here there : NodeState) → node.frozen ≡ Some here → get_or b.frozen number None ≡ Some there → here ≡ there

-- the entries among acts
abbrev pub entries_among : List Act → List Entry
entries_among [] = []
entries_among (Begin ∷ acts) = entries_among acts
entries_among (Record node ∷ acts) = entries_among acts
entries_among (Journal entry ∷ acts) = entry ∷ entries_among acts
entries_among (Close line ∷ acts) = entries_among acts
entries_among (Trim ∷ acts) = entries_among acts

-- `acts` of a node were done, and nothing else: the entries among them are the node's, and the agreed nodes are then this node and the
-- others as before. Whether others have recorded stays, as do their frozen images, and what each mark shows.
pub record Added (number : ℕ) (node : NodeState) (acts : List Act) (old new : BookValue) : Type 0 where
  pub did : acted t414 (world_of old) acts ≡ Some (world_of new)
  pub grew : Grew (entries_among acts) old new
  pub own : AllByRecursion (λ e. process old.state.start.wires (length old.state.start.nodes) e ≡ number) (entries_among acts)
  pub nodes : agreed new.state ≡ set (agreed old.state) number node
  pub recorded : (other : ℕ) → other ≢ number → has_recorded_in new.state.snapshot other ≡ has_recorded_in old.state.snapshot other
  pub frozen : (other : ℕ) → other ≢ number → get_or new.frozen other None ≡ get_or old.frozen other None
  pub marks : new.marks ≡ old.marks

-- A part of a node's turn was done: it is seen as the moment before it, its acts in order, and the moment after it.
pub record Done (number : ℕ) (part : TurnMoment → List Act → TurnMoment → Type 0) (old new : TurnMoment) : Type 0 where
  pub acts : List Act
  pub added : Added number new.node.live acts old.book new.book
  pub did : part old acts new
