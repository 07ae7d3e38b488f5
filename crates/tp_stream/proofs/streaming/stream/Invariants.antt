use Rattle.tp_stream.proofs.Lower.{port_in, accepted_of, name_of}
use Rattle.tp_stream.proofs.streaming.stream.Given as goal

abbrev pub ghosts-stream_parts : goal.ghosts-stream_parts
ghosts-stream_parts g a = record {
  roll = a.device.parts.roll;
  first = a.device.parts.first;
  start = a.device.opened.value.cut;
  node = name_of a.device.parts.seals;
  mark = a.device.parts.mark;
  flusher = a.device.parts.flusher;
  host = a.device.parts.host;
  sights = a.device.parts.sights;
  room = a.device.parts.book.room;
  accepted = λ p. accepted_of (port_in a.device.parts.book p);
  formatted = g.history.formatted;
  before = g.history.before;
}
