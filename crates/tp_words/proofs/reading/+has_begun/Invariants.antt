use Rattle.std.proofs.Common.{length}
use Rattle.tp_words.proofs.reading.+has_begun.Given as goal

abbrev pub decreases-has_begun : goal.decreases-has_begun
decreases-has_begun l = length l.form.now
