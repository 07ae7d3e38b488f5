use Rattle.std.proofs.Common.{[]}
use Rattle.tp_tests_threads.proofs.Lower.{port_in, accepted_of, fresh, Resting, name_of}
use Rattle.tp_tests_threads.proofs.acts.play_in.Given as goal

-- No history is told of: nothing here speaks of crashes.
abbrev pub ghosts-play : goal.ghosts-play
ghosts-play g a = record {
  roll = a.opening.parts.roll;
  first = a.opening.parts.first;
  start = record { wires = a.opening.parts.book.state.start.wires; nodes = a.opening.parts.book.state.start.nodes; ports = a.opening.parts.book.state.ports; lines = [] };
  node = name_of a.opening.parts.seals;
  mark = a.opening.parts.mark;
  flusher = a.opening.parts.flusher;
  host = a.opening.parts.host;
  sights = a.opening.parts.sights;
  room = a.opening.parts.book.room;
  accepted = λ p. accepted_of (port_in a.opening.parts.book p);
  formatted = a.opening.parts.book.state.start;
  before = record { net = fresh a.opening.parts.book.state.start; base = 0; journal = []; disk = record { bytes = []; unsynced = [] }; at = Resting; backlog = []; stored = 0; mark = 0; seen = [] };
}
