use Rattle.tp_tests_opening.proofs.Netting.{hosted}
use Rattle.tp_tests_opening.proofs.network.Net.host_turn.Goals as goal

pub invariant_of-self : goal.invariant_of-self
invariant_of-self c = hosted c.host_turn.ensures.acts c.self.inside.book c.host_turn.new.book c.host_turn.ensures.added c.self.inside.nodes.items c.self.invariant
