use Rattle.std.proofs.Common.{◌≤◌, length, take}
use Rattle.std.specs.Io.KnownBytes.{Appends}
use Rattle.tp_stream_files.proofs.writing.write_front.Given as goal

-- a front of the bytes was appended so far
abbrev pub invariant-loop : goal.invariant-loop
invariant-loop g l = record {
  few : l.written ≤ length l.bytes;
  front : Appends (g.E.Write.contents l.fn.out) (g.E.Write.contents l.out) (take l.written l.bytes);
}
