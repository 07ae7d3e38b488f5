use Rattle.std.specs.Io.KnownBytes.{Keeps}
use Rattle.tpnet.proofs.waiting.write_waiting.Given as goal

-- the writes so far were not taken, and appended nothing
abbrev pub invariant-loop : goal.invariant-loop
invariant-loop g l = Keeps (g.W.Write.contents l.initial.writer) (g.W.Write.contents l.writer)
