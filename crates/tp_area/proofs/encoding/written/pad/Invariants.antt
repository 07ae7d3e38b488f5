use Rattle.std.proofs.Common.{◌≡◌, ◌++◌, ◌-◌, length}
use Rattle.tp_model.specs.Bytes.{zeros}
use Rattle.tp_area.proofs.encoding.written.pad.Given as goal

abbrev pub invariant-loop : goal.invariant-loop
invariant-loop g l = l.out.items ≡ l.fn.out.items ++ zeros (l.counter - length l.fn.out.items)
