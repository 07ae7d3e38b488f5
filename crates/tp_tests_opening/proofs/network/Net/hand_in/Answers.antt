use Rattle.tp_tests_opening.proofs.Netting.{handed_in}
use Rattle.tp_tests_opening.proofs.network.Net.hand_in.Goals as goal

pub invariant_of-self : goal.invariant_of-self
invariant_of-self c =
    handed_in c.self.inside.nodes.items c.self.inside.book c.host_in.new.self c.args.port c.args.bytes.now c.host_in.result c.host_in.ensures.ok c.host_in.ensures.acts c.host_in.ensures.err c.host_in.ensures.agreed
    c.self.invariant
