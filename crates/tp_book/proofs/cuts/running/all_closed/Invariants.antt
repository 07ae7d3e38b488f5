-- The lines so far are closed if they have a wire.
use Rattle.std.proofs.Common.{◌≡◌, true, get_or}
use Rattle.tp_book.proofs.Lower.{has_wire, all_closed}
use Rattle.tp_book.proofs.cuts.running.all_closed.Given as goal

abbrev pub invariant-loop-line : goal.invariant-loop-line
invariant-loop-line l = all_closed (has_wire l.wires) (λ line. get_or l.closed line true) l.line ≡ true
