-- the tokens so far were taken
use Rattle.std.specs.Prelude.{◌≡◌, None, drop}
use Rattle.tp_law_machine.specs.NodeOfBytes.{IsNodeOfBytes}
use Rattle.tp_views.specs.EntriesTraced.{took_all}
use Rattle.tp_views.proofs.waits.since.take_each.Given as goal

abbrev pub invariant-loop-one : goal.invariant-loop-one
invariant-loop-one l = record {
  took : took_all (drop l.one-index l.fn.tokens) l.node.live ≡ took_all l.fn.tokens l.fn.node.live;
  thawed : l.node.frozen ≡ None;
  bytes : IsNodeOfBytes l.node.live;
}
