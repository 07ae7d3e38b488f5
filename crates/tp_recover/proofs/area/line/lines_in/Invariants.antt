-- The lines that were read, and those in the rest, are all.
use Rattle.std.proofs.Common.{◌≡◌, ◌+◌, ◌*◌, ◌-◌, drop, length, map}
use Rattle.tp_recover.proofs.Lower.{LINE_BYTES, lines_in, tokens_on}
use Rattle.tp_recover.proofs.Records.{behind}
use Rattle.tp_recover.proofs.area.line.lines_in.Given as goal

abbrev pub invariant-loop-line : goal.invariant-loop-line
invariant-loop-line l = record {
  read : lines_in l.at l.wires l.bytes ≡ behind (map tokens_on l.lines.items) (lines_in (l.at + LINE_BYTES * l.line) (drop l.line l.wires) l.rest);
  there : length l.rest ≡ LINE_BYTES * (length l.wires - l.line);
}
