use Rattle.std.proofs.Common.{get_or, ap, arith}
use Rattle.tp_flush.proofs.Puts.{page_few}
use Rattle.tp_flush.proofs.flusher.Flusher.pages_of.Goals as goal

pub returns-clause-few : goal.returns-clause-few
returns-clause-few g c = omega (arith, page_few c.self.inside.parts.topology c.pages.ensures.rules c.args.node, ap (λ xs. get_or xs c.args.node 0) c.pages.ensures.value)
