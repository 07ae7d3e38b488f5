use Rattle.std.proofs.Common.{◌≤◌, length, take}
use Rattle.std.specs.Io.KnownBytes.{Appends}
use Rattle.tp_views.proofs.commands.put.Given as goal

-- the first bytes were appended so far
abbrev pub invariant-loop : goal.invariant-loop
invariant-loop g l = record {
  few : l.written ≤ length l.bytes;
  front : Appends (g.O.Write.contents l.fn.out) (g.O.Write.contents l.out) (take l.written l.bytes);
}
