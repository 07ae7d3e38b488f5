use Rattle.std.proofs.Common.{length}
use Rattle.tp_words.proofs.rules.+least_places.Given as goal

abbrev pub decreases-least_places : goal.decreases-least_places
decreases-least_places l = length l.form.now
