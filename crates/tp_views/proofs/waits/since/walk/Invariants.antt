-- what is left of the entries leads from here to where all of them lead
use Rattle.std.specs.Prelude.{◌≡◌, drop, length, map}
use Rattle.tp_views.proofs.Lower.{AllByRecursion, IsNodeOfBytes, AreAllThawed, live_node}
use Rattle.tp_views.specs.Since.{walked}
use Rattle.tp_views.proofs.waits.since.walk.Given as goal

abbrev pub invariant-loop-one : goal.invariant-loop-one
invariant-loop-one l = record {
  walked : walked l.fn.wires l.fn.seen (drop l.one-index l.fn.kept) (map live_node l.nodes.items) l.found.items ≡ walked l.fn.wires l.fn.seen l.fn.kept (map live_node l.fn.nodes.items) l.fn.found.items;
  alike : length l.found.items ≡ length l.nodes.items;
  thawed : AreAllThawed l.nodes.items;
  bytes : AllByRecursion IsNodeOfBytes (map live_node l.nodes.items);
}
