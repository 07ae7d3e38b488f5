use Rattle.std.proofs.Common.{sym, ◌∙◌}
use Rattle.tp_net.proofs.Cuts.{named_end-none, named_end-some}
use Rattle.tp_net.proofs.words.cut_at_dot.Goals as goal

pub returns-in-Some : goal.returns-in-Some
returns-in-Some c = named_end-some c.args.word.now c.in-Some.at (sym c.place_of.ensures.value ∙ c.in-Some.is)

pub returns-in-None : goal.returns-in-None
returns-in-None c = named_end-none c.args.word.now (sym c.place_of.ensures.value ∙ c.in-None.is)
