use Rattle.std.specs.Io.KnownBytes.{Keeps}
use Rattle.tpnet.proofs.late.read_waiting.Given as goal

-- the reads so far found nothing, and took nothing
abbrev pub invariant-loop : goal.invariant-loop
invariant-loop g l = Keeps (g.I.Read.remaining l.initial.reader) (g.I.Read.remaining l.reader)
