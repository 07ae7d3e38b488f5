use Rattle.std.proofs.Common.{◌≡◌, ◌+◌, ◌∙◌, ap, sym, arith, length, map, rules, Err, subst}
use Rattle.std.proofs.lemmas.List.{length_push, map_push}
use Rattle.tp_recover.specs.Nodes.{live_node, AreAllThawed}
use Rattle.tp_recover.proofs.Nodes.{nodes_in-step, nodes_in-error, nodes_in-end, place_more, place_inside, thawed_push}
use Rattle.tp_recover.proofs.ReadParts.{imaged_more, imaged_all}
use Rattle.tp_recover.proofs.Leaving.{none_leaves, then_leaves}
use Rattle.tp_recover.proofs.area.node.read_nodes.Goals as goal

pub returns-in_err-read-clause-is : goal.returns-in_err-read-clause-is
returns-in_err-read-clause-is g c k =
    let told : c.from_residual.result ≡ Err c.in_err-read.field-0.0 = search rules in
    nodes_in-error live_node _ c.args.at c.loop-count.place c.loop-count.count-index c.args.pages.now (g.D.Disk.state c.args.disk.now).now (g.D.Disk.state c.loop-count.disk).now (map live_node c.loop-count.nodes.items) c.in_err-read.field-0.0 c.from_residual.result
    c.loop-count-test.true (c.loop-count.invariant.read (c.read_node.ensures.premise k)) c.loop-count.invariant.kept (c.in_err-read.ensures.is k) told

pub overflow_add-place : goal.overflow_add-place
overflow_add-place g c =
    omega (arith, place_inside c.args.at c.loop-count.place c.loop-count.count-index c.args.pages.now c.loop-count-test.true c.loop-count.invariant.place, c.requires.counted, c.image_length.ensures)

pub loop-count-preserved : goal.loop-count-preserved
loop-count-preserved g c = record {
  counts = record {
    size = c.in_ok-read.ensures.counts.size ∙ c.loop-count.invariant.counts.size;
    failures = c.in_ok-read.ensures.counts.failures ∙ c.loop-count.invariant.counts.failures;
  };
  premise = λ k. c.loop-count.invariant.premise (c.read_node.ensures.premise k);
  kept = c.in_ok-read.ensures.kept ∙ c.loop-count.invariant.kept;
  leaves = λ s before. then_leaves _ _ _ (c.loop-count.invariant.leaves s before) c.read_node.ensures.leaves;
  place = ap (λ n. c.loop-count.place + n) c.image_length.ensures ∙ place_more c.args.at c.loop-count.place c.loop-count.count-index c.args.pages.now c.loop-count-test.true c.loop-count.invariant.place;
  count = ap length c.in-Ok.ensures.items ∙ length_push c.loop-count.nodes.items c.in_ok-read.read ∙ ap (λ n. n + 1) c.loop-count.invariant.count;
  thawed = subst AreAllThawed (sym c.in-Ok.ensures.items) (thawed_push c.loop-count.nodes.items c.in_ok-read.read c.loop-count.invariant.thawed c.in_ok-read.ensures.thawed);
  images =
      imaged_more c.loop-count.count-index c.args.pages.now (map live_node c.loop-count.nodes.items) (map live_node c.push.new.self.items) (live_node c.in_ok-read.read) c.loop-count-test.true c.loop-count.invariant.images c.in_ok-read.ensures.image
      (ap (map live_node) c.in-Ok.ensures.items ∙ map_push live_node c.loop-count.nodes.items c.in_ok-read.read);
  read = λ k.
      nodes_in-step c.args.at c.loop-count.place (c.loop-count.place + c.image_length.result) c.loop-count.count-index c.args.pages.now (g.D.Disk.state c.args.disk.now).now (g.D.Disk.state c.loop-count.disk).now
      (map live_node c.loop-count.nodes.items) (map live_node c.push.new.self.items) (live_node c.in_ok-read.read)
      c.loop-count-test.true (c.loop-count.invariant.read (c.read_node.ensures.premise k)) c.loop-count.invariant.kept (c.in_ok-read.ensures.is k)
      (ap (map live_node) c.in-Ok.ensures.items ∙ map_push live_node c.loop-count.nodes.items c.in_ok-read.read)
      (ap (λ n. c.loop-count.place + n) c.image_length.ensures);
}

pub returns-clause-is : goal.returns-clause-is
returns-clause-is g c k =
    nodes_in-end c.args.at c.loop-count.place c.loop-count.count-index c.args.pages.now (g.D.Disk.state c.args.disk.now).now.bytes (map live_node c.loop-count.nodes.items) c.loop-count-test.false (c.loop-count.invariant.read k)

pub returns-clause-images : goal.returns-clause-images
returns-clause-images g c = imaged_all c.loop-count.count-index c.args.pages.now (map live_node c.loop-count.nodes.items) c.loop-count-test.false c.loop-count.invariant.images

pub returns-in_err-read-clause-leaves : goal.returns-in_err-read-clause-leaves
returns-in_err-read-clause-leaves g c = then_leaves _ _ _ (c.loop-count.invariant.leaves _ (none_leaves _)) c.read_node.ensures.leaves

pub returns-in_default-clause-leaves : goal.returns-in_default-clause-leaves
returns-in_default-clause-leaves g c = then_leaves _ _ _ (c.loop-count.invariant.leaves _ (none_leaves _)) c.read_node.ensures.leaves

pub returns-clause-leaves : goal.returns-clause-leaves
returns-clause-leaves g c = c.loop-count.invariant.leaves _ (none_leaves _)
