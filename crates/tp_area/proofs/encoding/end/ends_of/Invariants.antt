use Rattle.std.proofs.Common.{◌≡◌, take, map}
use Rattle.tp_model.specs.Head.{end_of_number}
use Rattle.tp_area.proofs.encoding.end.ends_of.Given as goal

abbrev pub invariant-loop-number : goal.invariant-loop-number
invariant-loop-number l = l.ends.items ≡ map (end_of_number l.version) (take l.number-index l.numbers)
