-- The nodes so far were read, and the book is as it was.
use Rattle.std.proofs.Common.{◌≡◌}
use Rattle.tp_book.specs.Book.{world_of}
use Rattle.tp_shared.proofs.RestSoFar.{HaveRested}
use Rattle.tp_shared.proofs.shared.Shared.rest.Given as goal

abbrev pub invariant-loop-number : goal.invariant-loop-number
invariant-loop-number g l = record {
  same : l.held ≡ l.fn.held;
  rested : HaveRested (world_of l.fn.held.book).live.nodes l.number l.have_halted;
}
