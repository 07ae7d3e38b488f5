use Rattle.std.proofs.Common.{[]}
use Rattle.tp_run.proofs.Lower.{port_in, accepted_of, name_of}
use Rattle.tp_run.proofs.compacting.compact.Given as goal

abbrev pub ghosts-compact_parts : goal.ghosts-compact_parts
ghosts-compact_parts g a = record {
  roll = a.parts.roll;
  first = a.parts.first;
  start = record { wires = a.parts.book.state.start.wires; nodes = a.parts.book.state.start.nodes; ports = a.parts.book.state.ports; lines = [] };
  node = name_of a.parts.seals;
  mark = a.parts.mark;
  flusher = a.parts.flusher;
  host = a.parts.host;
  sights = a.parts.sights;
  room = a.parts.book.room;
  accepted = λ p. accepted_of (port_in a.parts.book p);
  formatted = g.history.formatted;
  before = g.history.before;
}
