use Rattle.std.proofs.Common.{sym, ◌∙◌}
use Rattle.tp_tests_threads.proofs.opening.begin_with.Goals as goal

pub over-flusher-requires-clause-bound : goal.over-flusher-requires-clause-bound
over-flusher-requires-clause-bound g c = sym c.requires.names.room_is ∙ c.args.opening.bound

pub over-flusher-requires-clause-first : goal.over-flusher-requires-clause-first
over-flusher-requires-clause-first g c = sym c.requires.names.first_is ∙ c.args.opening.made.first

pub over-flusher-requires-clause-cut : goal.over-flusher-requires-clause-cut
over-flusher-requires-clause-cut g c = c.requires.spelt.0

pub over-flusher-requires-clause-bytes : goal.over-flusher-requires-clause-bytes
over-flusher-requires-clause-bytes g c = c.requires.spelt.1
