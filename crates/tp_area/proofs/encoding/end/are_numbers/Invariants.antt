-- The numbers so far are those of an end, or of none.
use Rattle.std.proofs.Common.{◌≡◌, true, take}
use Rattle.std.specs.List.{list_all}
use Rattle.tp_area.specs.Ends.{is_end_number}
use Rattle.tp_area.proofs.encoding.end.are_numbers.Given as goal

abbrev pub invariant-loop-number : goal.invariant-loop-number
invariant-loop-number l = list_all (is_end_number l.version) (take l.number-index l.numbers) ≡ true
