use Rattle.std.proofs.Common.{length}
use Rattle.tp_words.proofs.rules.+is_used.Given as goal

abbrev pub decreases-is_used : goal.decreases-is_used
decreases-is_used l = length l.words.now
