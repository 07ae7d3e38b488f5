use Rattle.std.proofs.Common.{ap, arith}
use Rattle.tp_model.specs.TopologyText.{Said}
use Rattle.tp_net.proofs.Reading.{receivers_more}
use Rattle.tp_net.proofs.declarations.Declarations.receivers.Goals as goal

pub loop-line-preserved : goal.loop-line-preserved
loop-line-preserved c = record {
  ends =
      receivers_more c.len-nodes.result c.loop-line.line c.args.self.now.wires c.other_end.result c.loop-line.ends.items c.push.new.self.items c.loop-line.invariant.ends
      (cc (ap (λ (said : Said). said.wires) c.self.view_is))
      c.push.ensures.items;
  count = omega (arith, c.push.ensures.len, c.loop-line.invariant.count);
}
