use Rattle.std.proofs.Common.{◌≡◌, ◌*◌, length, take}
use Rattle.std.specs.Prelude.{flat_map}
use Rattle.tp_model.specs.CutImage.{line_bytes}
use Rattle.tp_area.proofs.encoding.line.lines_bytes.Given as goal

abbrev pub invariant-loop-line : goal.invariant-loop-line
invariant-loop-line l = record {
  bytes : l.out.items ≡ flat_map line_bytes (take l.line l.lines);
  size : length l.out.items ≡ 4 * l.line;
}
