use Rattle.std.proofs.Common.{sym, arith}
use Rattle.tp_disk.proofs.Lower.{append-nil, take-replicate, IfOk-from_err}
use Rattle.tp_disk.proofs.Pieces.{filled_by, keeps_more, keeps_none, on_err, piece_more}
use Rattle.tp_disk.proofs.filling.fill.Goals as goal

pub loop-piece-preserved : goal.loop-piece-preserved
loop-piece-preserved g c = record {
  calls =
      piece_more c.args.at c.args.count c.loop-piece.piece c.min-size.result _ (g.F.SystemFile.calls c.args.file.now) (g.F.SystemFile.calls c.loop-piece.file)
      (g.F.SystemFile.calls c.write_all.new.self) (omega arith) (take-replicate c.min-size.result 65536 0 (omega arith))
      c.loop-piece.invariant.calls c.in_ok-write_all.ensures;
  kept =
      keeps_more c.args.at (g.F.SystemFile.calls c.args.file.now) (g.F.SystemFile.calls c.loop-piece.file) (g.F.SystemFile.calls c.write_all.new.self) _
      c.loop-piece.invariant.kept (omega arith) c.in_ok-write_all.ensures;
}

pub loop-piece-init : goal.loop-piece-init
loop-piece-init g c = record {
  calls = sym (append-nil (g.F.SystemFile.calls c.args.file.now));
  kept = keeps_none c.args.at (g.F.SystemFile.calls c.args.file.now);
}

pub returns-in_err-write_all-clause-filled : goal.returns-in_err-write_all-clause-filled
returns-in_err-write_all-clause-filled g c = IfOk-from_err c.from_residual.result _ c.from_residual.ensures.0

pub returns-in_err-write_all-clause-kept : goal.returns-in_err-write_all-clause-kept
returns-in_err-write_all-clause-kept g c =
    let calls = g.F.SystemFile.calls in
    on_err c.from_residual.result _
    (keeps_more c.args.at (calls c.args.file.now) (calls c.loop-piece.file) (calls c.write_all.new.self) _ c.loop-piece.invariant.kept (omega arith)
    c.write_all.ensures)

pub returns-clause-filled : goal.returns-clause-filled
returns-clause-filled g c =
    let calls = g.F.SystemFile.calls in
    filled_by c.sync.result c.args.at c.args.count c.loop-piece.piece (calls c.args.file.now) (calls c.loop-piece.file) (calls c.sync.new.self) (omega arith)
    c.loop-piece.invariant.calls c.sync.ensures

pub returns-clause-kept : goal.returns-clause-kept
returns-clause-kept g c =
    let calls = g.F.SystemFile.calls in
    on_err c.sync.result _
    (keeps_more c.args.at (calls c.args.file.now) (calls c.loop-piece.file) (calls c.sync.new.self) _ c.loop-piece.invariant.kept tt c.sync.ensures)

pub overflow_mul-before : goal.overflow_mul-before
overflow_mul-before g c = omega arith

pub overflow_sub-count : goal.overflow_sub-count
overflow_sub-count g c = omega arith

pub overflow_add-at : goal.overflow_add-at
overflow_add-at g c = omega arith
