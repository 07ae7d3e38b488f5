use Rattle.tp_words.specs.Ends.{AreApart}
use Rattle.tp_words.proofs.stream_ends.named_twice.Given as goal

abbrev pub invariant-loop-port : goal.invariant-loop-port
invariant-loop-port l = AreApart l.port l.ends
