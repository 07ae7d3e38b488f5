use Rattle.std.proofs.Common.{◌≤◌, length, take, drop}
use Rattle.std.specs.Io.KnownBytes.{Appends}
use Rattle.tp_run.proofs.Called.{CalledFor}
use Rattle.tp_run.proofs.printing.write_front.Given as goal

-- some of the first bytes were taken so far, and the outlet was called for what was left each time
abbrev pub invariant-loop : goal.invariant-loop
invariant-loop g l = record {
  few : l.written ≤ length l.bytes;
  front : Appends (g.O.Outlet.value l.fn.out).taken (g.O.Outlet.value l.out).taken (take l.written l.bytes);
  called : CalledFor l.flusher.state l.bytes (drop l.written l.bytes) l.counter (g.O.Outlet.value l.fn.out) (g.O.Outlet.value l.out);
}
