-- The outputs so far are put as they have to be.
use Rattle.std.proofs.Common.{◌≡◌, true, take}
use Rattle.tp_book.specs.Host.{port_in}
use Rattle.tp_stream.specs.Put.{are_put}
use Rattle.tp_stream.proofs.left.are_put.Given as goal

abbrev pub invariant-loop-output : goal.invariant-loop-output
invariant-loop-output g l = are_put l.why (port_in l.book) (take l.output-index l.outputs) ≡ true
