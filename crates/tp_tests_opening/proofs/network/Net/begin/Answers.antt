use Rattle.tp_tests_opening.proofs.Netting.{begun}
use Rattle.tp_tests_opening.proofs.network.Net.begin.Goals as goal

pub invariant_of-self : goal.invariant_of-self
invariant_of-self c = begun c.self.inside.nodes.items c.self.inside.book c.begin.new.self c.begin.result c.begin.ensures.answer c.begin.ensures.ok c.begin.ensures.act c.begin.ensures.err c.self.invariant
