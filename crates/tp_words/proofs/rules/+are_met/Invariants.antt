use Rattle.std.proofs.Common.{length}
use Rattle.tp_words.proofs.rules.+are_met.Given as goal

abbrev pub decreases-are_met : goal.decreases-are_met
decreases-are_met l = length l.form.now
