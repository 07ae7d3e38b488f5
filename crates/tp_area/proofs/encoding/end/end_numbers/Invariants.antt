use Rattle.std.proofs.Common.{◌≡◌, take, map}
use Rattle.tp_model.specs.Head.{end_number}
use Rattle.tp_area.proofs.encoding.end.end_numbers.Given as goal

abbrev pub invariant-loop-end : goal.invariant-loop-end
invariant-loop-end l = l.numbers.items ≡ map (end_number l.version) (take l.end-index l.ends)
