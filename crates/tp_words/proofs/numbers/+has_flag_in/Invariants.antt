use Rattle.std.proofs.Common.{length}
use Rattle.tp_words.proofs.numbers.+has_flag_in.Given as goal

abbrev pub decreases-has_flag_in : goal.decreases-has_flag_in
decreases-has_flag_in l = length l.words.now
