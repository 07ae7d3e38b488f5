use Rattle.std.proofs.Common.{length}
use Rattle.tp_words.proofs.numbers.+given_in.Given as goal

abbrev pub decreases-given_in : goal.decreases-given_in
decreases-given_in l = length l.words.now
