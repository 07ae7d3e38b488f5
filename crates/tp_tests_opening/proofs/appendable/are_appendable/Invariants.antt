-- if the entries from here on may be appended, all may
use Rattle.std.proofs.Common.{◌≡◌, true, drop}
use Rattle.tp_tests_opening.proofs.Lower.{AllByRecursion, is_in_range, is_of}
use Rattle.tp_tests_opening.proofs.appendable.are_appendable.Given as goal

abbrev pub invariant-loop-i : goal.invariant-loop-i
invariant-loop-i l = record {
  range : AllByRecursion (λ e. is_in_range e ≡ true) (drop l.i l.entries) → AllByRecursion (λ e. is_in_range e ≡ true) l.entries;
  held : AllByRecursion (λ e. is_of l.form e ≡ true) (drop l.i l.entries) → AllByRecursion (λ e. is_of l.form e ≡ true) l.entries;
}
