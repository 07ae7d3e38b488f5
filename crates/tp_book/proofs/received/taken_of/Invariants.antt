-- The tokens so far, and then those of the links that are left, by line, are all.
use Rattle.std.proofs.Common.{◌≡◌, ◌≤◌, ◌*◌, ◌++◌, length, drop}
use Rattle.tp_model.specs.Turn.{by_line, by_link}
use Rattle.tp_book.proofs.received.taken_of.Given as goal

abbrev pub invariant-loop-link : goal.invariant-loop-link
invariant-loop-link l = record {
  taken : l.taken.items ++ by_line l.wires l.nodes l.node (by_link l.link (drop l.link l.takes)) ≡ by_line l.wires l.nodes l.node (by_link 0 l.takes);
  few : length l.taken.items ≤ 2 * l.link;
}
