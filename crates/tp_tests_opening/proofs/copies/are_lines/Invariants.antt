-- if the records can hold the lines from here on, they can hold all
use Rattle.std.proofs.Common.{◌≡◌, ◌≤◌, true, drop, length}
use Rattle.tp_model.specs.Spelling.{are_lines}
use Rattle.tp_tests_opening.proofs.copies.are_lines.Given as goal

abbrev pub invariant-loop-line : goal.invariant-loop-line
invariant-loop-line l = record {
  few : l.line ≤ length l.lines;
  so_far : are_lines (drop l.line l.wires) (drop l.line l.lines) ≡ true → are_lines l.wires l.lines ≡ true;
}
