use Rattle.std.proofs.Common.{length}
use Rattle.tp_words.proofs.rules.+is_repeated.Given as goal

abbrev pub decreases-is_repeated : goal.decreases-is_repeated
decreases-is_repeated l = length l.words.now
