use Rattle.std.proofs.Common.{length}
use Rattle.tp_words.proofs.numbers.+all_given_in.Given as goal

abbrev pub decreases-all_given_in : goal.decreases-all_given_in
decreases-all_given_in l = length l.words.now
