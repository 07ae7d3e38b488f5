-- How turns went, in books that were seen under their lock.
use Rattle.std.specs.Prelude.{◌≡◌, ℕ, List, Some, Result, Ok, Err}
use Rattle.tp_shared.specs.Lower.{Token, NodeState, Network, steps, t414, node_ranges, kept_behind_steps, LacksFrames, NodeContents, memory_kept, IsWhy, Refusal, BookValue, without_run, HostDone, HostTurns, moment_of, IsNodeOf, Added, Opened, OpensIn, opened_acts, taken_in}
use Rattle.tp_shared.specs.Holds.{WasHeld, InHand}
use Rattle.tp_shared.specs.declared.nodes.node_turn.NodeTurn.{NodeTurn}

-- A node's turn was opened, with this answer, in the book that was found and by that book's form. The node was the one that the book's
-- entries make. All was done that may be.
pub record TurnOpened (start : Network NodeState) (number : ℕ) (answer : Result Opened Refusal) (was is : NodeContents) (old new : InHand) : Type 0 where
  pub found : BookValue
  pub left : BookValue
  pub held : WasHeld start found left old new
  pub node : IsNodeOf found number was
  pub opens : OpensIn found.form number answer (moment_of found was) (moment_of left is)

-- A turn that was opened with this answer was journalled in the book that was found, whatever its form was by then. That is its run, and,
-- for a turn that is one entry, what it received.
pub record TurnCommitted (start : Network NodeState) (number : ℕ) (opened : Opened) (count : ℕ) (node : NodeContents) (old new : InHand) : Type 0 where
  pub found : BookValue
  pub left : BookValue
  pub held : WasHeld start found left old new
  pub added : Added number node.live (opened_acts number opened count) (without_run found number) left

-- The turn of a node was opened in one hold of the book's lock, ran as far as it may, and was journalled in another by how it was opened.
-- It answers how many tokens its opening took: the takes that the book got then, or those of the entry that it got last.
pub record TurnMade (start : Network NodeState) (number quantum : ℕ) (turn : NodeTurn) (old new : InHand) : Type 0 where
  pub found : NodeContents
  pub settled : NodeContents
  pub opening : Opened
  pub many : turn.taken ≡ taken_in opening
  pub between : InHand
  pub opened : TurnOpened start number (Ok opening) found settled old between
  pub ran : NodeContents
  pub sent : List (ℕ × Token)
  pub steps : steps t414 turn.ran.count settled.live ≡ Some (ran.live, sent)
  pub why : IsWhy turn.ran.why quantum turn.ran.count (LacksFrames (memory_kept ran) (node_ranges ran.live)) ran.live
  pub kept : ran.frozen ≡ settled.frozen
  pub shared : memory_kept ran ≡ kept_behind_steps turn.ran.count settled.live (memory_kept settled)
  pub committed : TurnCommitted start number opening turn.ran.count ran between new

-- A turn of a node failed when it was opened.
pub record TurnBrokenOff (start : Network NodeState) (number : ℕ) (reason : Refusal) (old new : InHand) : Type 0 where
  pub was : NodeContents
  pub is : NodeContents
  pub opened : TurnOpened start number (Err reason) was is old new

-- The host's turn, with this answer, in the book that was found.
pub record HostTurnMade (start : Network NodeState) (answer : Result ℕ Refusal) (old new : InHand) : Type 0 where
  pub found : BookValue
  pub left : BookValue
  pub held : WasHeld start found left old new
  pub did : HostDone (HostTurns answer) found left
