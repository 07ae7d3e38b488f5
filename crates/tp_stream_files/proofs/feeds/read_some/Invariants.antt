use Rattle.std.specs.Io.KnownBytes.{Keeps}
use Rattle.tp_stream_files.proofs.feeds.read_some.Given as goal

-- the reads so far were interrupted, and took nothing
abbrev pub invariant-loop : goal.invariant-loop
invariant-loop g l = Keeps (g.I.Read.remaining l.initial.reader) (g.I.Read.remaining l.reader)
