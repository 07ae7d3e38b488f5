use Rattle.std.proofs.Common.{length}
use Rattle.tp_words.proofs.line.+named.Given as goal

abbrev pub decreases-named : goal.decreases-named
decreases-named l = length l.names.now
