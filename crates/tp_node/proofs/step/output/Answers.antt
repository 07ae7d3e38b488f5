use Rattle.std.proofs.Common.{◌≡◌, length, get_or, ap, sym, ◌∙◌, arith}
use Rattle.tp_model.specs.SharedPages.{kept_behind}
use Rattle.tp_node.proofs.Asked.{slice_get-here, asks_output-past, Makes-output_did, output_did-ranges, Makes-output_failed, output_failed-ranges, Makes-output_no_frame}
use Rattle.tp_node.proofs.step.output.Goals as goal

pub returns-then-link-ge4-clause-makes : goal.returns-then-link-ge4-clause-makes
returns-then-link-ge4-clause-makes g c =
    let four : length c.args.head.now.outputs ≡ 4 = omega arith in
    asks_output-past c.args.request c.args.head.now (g.M.Mem.bytes c.args.mem.now) _ (omega (arith, four, c.if-link-ge4.true))

pub returns-in-Ok-clause-makes : goal.returns-in-Ok-clause-makes
returns-in-Ok-clause-makes g c =
    let four : length c.args.head.now.outputs ≡ 4 = omega arith in
    let end = get_or c.args.head.now.outputs c.args.request.link c.index-head-link.result in
    let get = slice_get-here c.args.head.now.outputs c.args.request.link c.index-head-link.result (omega (arith, four, c.if-link-ge4.false)) in
    Makes-output_did c.args.request c.args.head.now (g.M.Mem.bytes c.args.mem.now) end c.pass.new.cpu get c.pass.ensures
    c.begin_output.new.cpu (g.M.Mem.bytes c.begin_output.new.mem) c.begin_output.new.engine c.in-Ok.token c.in-Ok.ensures.does _ c.on_link.result c.on_link.ensures

pub returns-in-Ok-clause-kept : goal.returns-in-Ok-clause-kept
returns-in-Ok-clause-kept g c =
    let four : length c.args.head.now.outputs ≡ 4 = omega arith in
    let end = get_or c.args.head.now.outputs c.args.request.link c.index-head-link.result in
    let get = slice_get-here c.args.head.now.outputs c.args.request.link c.index-head-link.result (omega (arith, four, c.if-link-ge4.false)) in
    c.in-Ok.ensures.kept
    ∙ ap (kept_behind (g.M.Mem.kept c.args.mem.now)) (sym (output_did-ranges c.args.request c.args.head.now (g.M.Mem.bytes c.args.mem.now) end c.pass.new.cpu get c.pass.ensures
    c.begin_output.new.cpu (g.M.Mem.bytes c.begin_output.new.mem) c.begin_output.new.engine c.in-Ok.token c.in-Ok.ensures.does))

pub returns-in-Err-Faulty-clause-makes : goal.returns-in-Err-Faulty-clause-makes
returns-in-Err-Faulty-clause-makes g c =
    let four : length c.args.head.now.outputs ≡ 4 = omega arith in
    let end = get_or c.args.head.now.outputs c.args.request.link c.index-head-link.result in
    let get = slice_get-here c.args.head.now.outputs c.args.request.link c.index-head-link.result (omega (arith, four, c.if-link-ge4.false)) in
    let told = rw c.in-Err-Faulty.field-0-is at c.in-Err-Faulty.ensures.does in
    rw c.in-Err-Faulty.field-0-is (Makes-output_failed c.args.request c.args.head.now (g.M.Mem.bytes c.args.mem.now) end c.pass.new.cpu get c.pass.ensures
    c.in-Err-Faulty.fault told.0 _ (g.M.Mem.bytes c.begin_output.new.mem) told.2)

pub returns-in-Err-Faulty-clause-kept : goal.returns-in-Err-Faulty-clause-kept
returns-in-Err-Faulty-clause-kept g c =
    let four : length c.args.head.now.outputs ≡ 4 = omega arith in
    let end = get_or c.args.head.now.outputs c.args.request.link c.index-head-link.result in
    let get = slice_get-here c.args.head.now.outputs c.args.request.link c.index-head-link.result (omega (arith, four, c.if-link-ge4.false)) in
    let told = rw c.in-Err-Faulty.field-0-is at c.in-Err-Faulty.ensures.does in
    c.in-Err-Faulty.ensures.kept ∙ ap (kept_behind (g.M.Mem.kept c.args.mem.now)) (sym (output_failed-ranges c.args.request c.args.head.now (g.M.Mem.bytes c.args.mem.now) end c.pass.new.cpu get c.pass.ensures
    c.in-Err-Faulty.fault told.0))

pub returns-in-Err-NoFrame-clause-makes : goal.returns-in-Err-NoFrame-clause-makes
returns-in-Err-NoFrame-clause-makes g c =
    let four : length c.args.head.now.outputs ≡ 4 = omega arith in
    let end = get_or c.args.head.now.outputs c.args.request.link c.index-head-link.result in
    let get = slice_get-here c.args.head.now.outputs c.args.request.link c.index-head-link.result (omega (arith, four, c.if-link-ge4.false)) in
    let told = rw c.in-Err-NoFrame.field-0-is at c.in-Err-NoFrame.ensures.does in
    Makes-output_no_frame c.args.request c.args.head.now (g.M.Mem.bytes c.args.mem.now) end c.pass.new.cpu get c.pass.ensures
    (g.M.Mem.kept c.args.mem.now) (g.M.Mem.bytes c.begin_output.new.mem) told.0.0 told.0.1 told.2
