use Rattle.std.proofs.Common.{length}
use Rattle.tp_words.proofs.reading.+read_in.Given as goal

abbrev pub decreases-read_in : goal.decreases-read_in
decreases-read_in l = length l.words.now
