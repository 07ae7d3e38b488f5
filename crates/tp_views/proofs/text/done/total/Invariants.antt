use Rattle.std.proofs.Common.{◌≡◌, ◌≤◌, ◌+◌, ◌*◌, drop}
use Rattle.tp_views.specs.Done.{total}
use Rattle.tp_views.proofs.text.done.total.Given as goal

-- each entry adds less than 2^64
abbrev pub invariant-loop-one : goal.invariant-loop-one
invariant-loop-one l = record {
  sum : l.sum + total l.fn.what l.fn.node l.fn.wires l.fn.nodes (drop l.one-index l.kept) ≡ total l.fn.what l.fn.node l.fn.wires l.fn.nodes l.fn.kept;
  few : l.sum ≤ 18446744073709551615 * l.one-index;
}
