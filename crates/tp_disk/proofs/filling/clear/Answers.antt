use Rattle.std.proofs.Common.{arith}
use Rattle.std.proofs.lemmas.Result.{IfOk-from_err, on_err_weaker, on_ok_weaker}
use Rattle.tp_disk.proofs.Pieces.{cleared_by, goes_by_kept, goes_by_more, goes_by_one, on_err}
use Rattle.tp_disk.proofs.filling.clear.Goals as goal

pub returns-in_err-write_all-clause-cleared : goal.returns-in_err-write_all-clause-cleared
returns-in_err-write_all-clause-cleared g c = IfOk-from_err c.from_residual.result _ c.from_residual.ensures.0

pub returns-in_err-write_all-clause-failed : goal.returns-in_err-write_all-clause-failed
returns-in_err-write_all-clause-failed g c =
    let calls = g.F.SystemFile.calls in
    on_err c.from_residual.result _ (goes_by_one (calls c.args.file.now) (calls c.write_all.new.self) _ c.write_all.ensures)

pub returns-in_err-sync_data-clause-cleared : goal.returns-in_err-sync_data-clause-cleared
returns-in_err-sync_data-clause-cleared g c = IfOk-from_err c.from_residual-in_err-sync_data.result _ c.from_residual-in_err-sync_data.ensures.0

pub returns-in_err-sync_data-clause-failed : goal.returns-in_err-sync_data-clause-failed
returns-in_err-sync_data-clause-failed g c =
    let calls = g.F.SystemFile.calls in
    let wrote = goes_by_one (calls c.args.file.now) (calls c.write_all.new.self) _ c.write_all.ensures in
    on_err c.from_residual-in_err-sync_data.result _ (goes_by_more _ _ (calls c.sync_data.new.self) _ wrote c.sync_data.ensures)

pub returns-in_err-resize-clause-cleared : goal.returns-in_err-resize-clause-cleared
returns-in_err-resize-clause-cleared g c = IfOk-from_err c.from_residual-in_err-resize.result _ c.from_residual-in_err-resize.ensures.0

pub returns-in_err-resize-clause-failed : goal.returns-in_err-resize-clause-failed
returns-in_err-resize-clause-failed g c =
    let calls = g.F.SystemFile.calls in
    let wrote = goes_by_one (calls c.args.file.now) (calls c.write_all.new.self) _ c.write_all.ensures in
    let synced = goes_by_more _ _ (calls c.sync_data.new.self) _ wrote c.sync_data.ensures in
    on_err c.from_residual-in_err-resize.result _ (goes_by_more _ _ (calls c.resize.new.self) _ synced c.resize.ensures)

pub returns-clause-cleared : goal.returns-clause-cleared
returns-clause-cleared g c =
    let calls = g.F.SystemFile.calls in
    on_ok_weaker c.fill.result
    (cleared_by c.args.length c.args.size c.saturating_sub.result (calls c.args.file.now) (calls c.write_all.new.self) (calls c.sync_data.new.self)
    (calls c.resize.new.self) (calls c.fill.new.file) (omega arith) (omega arith) c.in_ok-write_all.ensures c.in_ok-sync_data.ensures c.in_ok-resize.ensures)
    c.fill.ensures.filled

pub returns-clause-failed : goal.returns-clause-failed
returns-clause-failed g c =
    let calls = g.F.SystemFile.calls in
    let wrote = goes_by_one (calls c.args.file.now) (calls c.write_all.new.self) _ c.write_all.ensures in
    let synced = goes_by_more _ _ (calls c.sync_data.new.self) _ wrote c.sync_data.ensures in
    let sized = goes_by_more _ _ (calls c.resize.new.self) _ synced c.resize.ensures in
    on_err_weaker c.fill.result (goes_by_kept 1 _ _ (calls c.fill.new.file) sized) c.fill.ensures.kept
