use Rattle.tp_stream_files.specs.Trace.{GrewAlike}
use Rattle.tp_stream_files.proofs.pipes.Pipe.reach.Given as goal

-- what the pipe took so far is what the feed gave
abbrev pub invariant-loop : goal.invariant-loop
invariant-loop g l = GrewAlike (g.I.Feed.given l.initial.self.feed.now) (g.I.Feed.given l.self.feed.now) l.initial.self.held.trace.told l.self.held.trace.told
