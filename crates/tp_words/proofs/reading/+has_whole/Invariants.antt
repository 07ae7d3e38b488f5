use Rattle.std.proofs.Common.{length}
use Rattle.tp_words.proofs.reading.+has_whole.Given as goal

abbrev pub decreases-has_whole : goal.decreases-has_whole
decreases-has_whole l = length l.form.now
