use Rattle.std.proofs.Common.{true, ap, [], ◌∷◌, ◌++◌, ◌∙◌, append_assoc}
use Rattle.std.proofs.lemmas.Result.{IfOk-from_err}
use Rattle.tp_disk.specs.History.{Resizes}
use Rattle.tp_disk.proofs.Pieces.{goes_by_more, goes_by_one, on_err, synced_more}
use Rattle.tp_disk.proofs.new_file.empty.Goals as goal

pub returns-in_err-resize-clause-made : goal.returns-in_err-resize-clause-made
returns-in_err-resize-clause-made g c = IfOk-from_err c.from_residual.result _ c.from_residual.ensures.0

pub returns-in_err-resize-clause-failed : goal.returns-in_err-resize-clause-failed
returns-in_err-resize-clause-failed g c =
    let calls = g.F.SystemFile.calls in
    on_err c.from_residual.result _ (goes_by_one (calls c.args.file.now) (calls c.resize.new.self) _ c.resize.ensures)

pub returns-in_err-resize-2-clause-made : goal.returns-in_err-resize-2-clause-made
returns-in_err-resize-2-clause-made g c = IfOk-from_err c.from_residual-in_err-resize-2.result _ c.from_residual-in_err-resize-2.ensures.0

pub returns-in_err-resize-2-clause-failed : goal.returns-in_err-resize-2-clause-failed
returns-in_err-resize-2-clause-failed g c =
    let calls = g.F.SystemFile.calls in
    let emptied = goes_by_one (calls c.args.file.now) (calls c.resize.new.self) _ c.resize.ensures in
    on_err c.from_residual-in_err-resize-2.result _ (goes_by_more _ _ (calls c.resize-2.new.self) _ emptied c.resize-2.ensures)

pub returns-clause-made : goal.returns-clause-made
returns-clause-made g c =
    let calls = g.F.SystemFile.calls in
    synced_more c.sync.result (calls c.args.file.now) (calls c.resize-2.new.self) (calls c.sync.new.self)
    (Resizes 0 true ∷ Resizes c.args.size true ∷ [])
    (c.in_ok-resize-2.ensures ∙ ap (λ made. made ++ Resizes c.args.size true ∷ []) c.in_ok-resize.ensures
    ∙ append_assoc (calls c.args.file.now) (Resizes 0 true ∷ []) (Resizes c.args.size true ∷ []))
    c.sync.ensures

pub returns-clause-failed : goal.returns-clause-failed
returns-clause-failed g c =
    let calls = g.F.SystemFile.calls in
    let emptied = goes_by_one (calls c.args.file.now) (calls c.resize.new.self) _ c.resize.ensures in
    let sized = goes_by_more _ _ (calls c.resize-2.new.self) _ emptied c.resize-2.ensures in
    on_err c.sync.result _ (goes_by_more _ _ (calls c.sync.new.self) _ sized c.sync.ensures)
