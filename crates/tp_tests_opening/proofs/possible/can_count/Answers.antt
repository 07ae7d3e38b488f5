use Rattle.std.proofs.Common.{sym, ◌∙◌}
use Rattle.tp_tests_opening.proofs.EachPasses.{ports_count}
use Rattle.tp_tests_opening.proofs.possible.can_count.Goals as goal

pub returns : goal.returns
returns c = λ passed. ports_count _ c.args.network.now c.ports.ensures (sym c.all_can_count.ensures ∙ passed)
