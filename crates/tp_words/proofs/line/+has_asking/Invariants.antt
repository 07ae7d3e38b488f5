use Rattle.std.proofs.Common.{length}
use Rattle.tp_words.proofs.line.+has_asking.Given as goal

abbrev pub decreases-has_asking : goal.decreases-has_asking
decreases-has_asking l = length l.words.now
