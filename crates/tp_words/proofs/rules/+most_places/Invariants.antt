use Rattle.std.proofs.Common.{length}
use Rattle.tp_words.proofs.rules.+most_places.Given as goal

abbrev pub decreases-most_places : goal.decreases-most_places
decreases-most_places l = length l.form.now
