use Rattle.tp_run.proofs.Lower.{port_in, accepted_of, name_of}
use Rattle.tp_run.proofs.running.run.Given as goal

abbrev pub ghosts-run_parts : goal.ghosts-run_parts
ghosts-run_parts g a = record {
  roll = a.parts.roll;
  first = a.parts.first;
  start = a.opened.value.cut;
  node = name_of a.parts.seals;
  mark = a.parts.mark;
  flusher = a.parts.flusher;
  host = a.parts.host;
  sights = a.parts.sights;
  room = a.parts.book.room;
  accepted = λ p. accepted_of (port_in a.parts.book p);
  formatted = g.history.formatted;
  before = g.history.before;
}
