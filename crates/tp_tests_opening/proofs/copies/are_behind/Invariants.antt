-- if the entries from here on may be there, all may
use Rattle.std.proofs.Common.{◌+◌, ◌≤◌, drop, map}
use Rattle.tp_tests_opening.proofs.Lower.{AllByRecursion, IsSpelt, AreNumbered}
use Rattle.tp_tests_opening.proofs.copies.are_behind.Given as goal

abbrev pub invariant-loop-i : goal.invariant-loop-i
invariant-loop-i l = record {
  few : l.least ≤ l.base + l.i;
  spelt : AllByRecursion (λ e. IsSpelt e.0 e.1) (drop l.i l.tail) → AllByRecursion (λ e. IsSpelt e.0 e.1) l.tail;
  numbers : AreNumbered l.least (l.base + l.i) (map (λ e. e.1) (drop l.i l.tail)) → AreNumbered 0 l.base (map (λ e. e.1) l.tail);
}
