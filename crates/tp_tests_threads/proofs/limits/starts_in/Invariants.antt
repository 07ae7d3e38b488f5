use Rattle.std.proofs.Common.{[]}
use Rattle.tp_tests_threads.proofs.Lower.{port_in, accepted_of, fresh, Resting, name_of}
use Rattle.tp_tests_threads.proofs.limits.starts_in.Given as goal

-- No history is told of: nothing here speaks of crashes.
abbrev pub ghosts-starts : goal.ghosts-starts
ghosts-starts g a = record {
  roll = a.parts.roll;
  first = a.parts.first;
  start = record { wires = a.parts.book.state.start.wires; nodes = a.parts.book.state.start.nodes; ports = a.parts.book.state.ports; lines = [] };
  node = name_of a.parts.seals;
  mark = a.parts.mark;
  flusher = a.parts.flusher;
  host = a.parts.host;
  sights = a.parts.sights;
  room = a.parts.book.room;
  accepted = λ p. accepted_of (port_in a.parts.book p);
  formatted = a.parts.book.state.start;
  before = record { net = fresh a.parts.book.state.start; base = 0; journal = []; disk = record { bytes = []; unsynced = [] }; at = Resting; backlog = []; stored = 0; mark = 0; seen = [] };
}
