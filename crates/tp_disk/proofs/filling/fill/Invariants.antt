use Rattle.std.proofs.Common.{◌≡◌, ◌++◌, true, map}
use Rattle.std.specs.List.{range_with_len}
use Rattle.tp_disk.specs.Filling.{KeepsFront, piece_at}
use Rattle.tp_disk.proofs.filling.fill.Given as goal

abbrev pub invariant-loop-piece : goal.invariant-loop-piece
invariant-loop-piece g l = record {
  calls : g.F.SystemFile.calls l.file ≡ g.F.SystemFile.calls l.initial.file ++ map (piece_at l.at l.count true) (range_with_len 0 l.piece);
  kept : KeepsFront l.at (g.F.SystemFile.calls l.initial.file) (g.F.SystemFile.calls l.file);
}
