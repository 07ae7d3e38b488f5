use Rattle.std.proofs.Common.{ap, ◌∙◌, arith, map}
use Rattle.std.proofs.lemmas.List.{take_all}
use Rattle.tp_tests_opening.specs.Nets.{spelt}
use Rattle.tp_tests_opening.proofs.Netting.{read_more}
use Rattle.tp_tests_opening.proofs.network.nodes_of.Goals as goal

pub loop-i-preserved : goal.loop-i-preserved
loop-i-preserved c =
    read_more (λ image. image.items) c.args.images.now c.loop-i.i c.index-images-i.result c.deref.result.now c.loop-i.nodes.items c.push.new.self.items c.in_ok-node.node
    (omega arith) c.index-images-i.is c.deref.ensures.value c.in_ok-node.ensures.reads c.in_ok-push.ensures.items c.loop-i.invariant

pub returns : goal.returns
returns c = c.loop-i.invariant ∙ ap (λ xs. spelt (map (λ image. image.items) xs)) (take_all c.loop-i.i c.args.images.now (omega arith))
