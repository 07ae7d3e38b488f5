use Rattle.std.proofs.Common.{◌≡◌, ◌<◌, Err, length, get_or, ◌∙◌, rules, arith}
use Rattle.tp_node.proofs.Lower.{slice_get-get_or, LacksFrames, took_ranges, Data}
use Rattle.tp_node.specs.StateWith.{state_with}
use Rattle.tp_node.proofs.Taken.{data_taken, not_taken, same_node, data_ranges}
use Rattle.tp_node.proofs.take.take_data.Goals as goal

pub returns-clause-takes : goal.returns-clause-takes
returns-clause-takes g c =
    let inputs = c.args.head.now.inputs in
    let memory = g.M.Mem.bytes c.args.mem.now in
    let inside : c.args.link < length inputs = omega arith in
    data_taken (state_with c.args.head.now memory) c.args.link c.args.byte (get_or inputs c.args.link c.index-head-link.result) c.on_data-arrival.new.self c.on_data-arrival.result
    (LacksFrames (g.M.Mem.kept c.args.mem.now) (took_ranges (state_with c.args.head.now (g.M.Mem.bytes c.args.mem.now)) c.args.link (Data c.args.byte))) c.tell.new.cpu (g.M.Mem.bytes c.tell.new.mem)
    (slice_get-get_or inputs c.args.link c.index-head-link.result inside)
    c.on_data-arrival.ensures
    c.requires.can
    (λ other m is. c.in_ok-tell.ensures.hears other m (c.placed.ensures.value memory ∙ is))

pub returns-in_err-tell-clause-takes : goal.returns-in_err-tell-clause-takes
returns-in_err-tell-clause-takes g c =
    let inputs = c.args.head.now.inputs in
    let memory = g.M.Mem.bytes c.args.mem.now in
    let node = state_with c.args.head.now memory in
    let inside : c.args.link < length inputs = omega arith in
    let there = slice_get-get_or inputs c.args.link c.index-head-link.result inside in
    let is : c.from_residual.result ≡ Err c.in_err-tell.field-0.0 = search rules in
    let hears = c.in_err-tell.ensures.hears in
    let lacks : LacksFrames (g.M.Mem.kept c.args.mem.now) (took_ranges node c.args.link (Data c.args.byte)) =
    rw (data_ranges node c.args.link c.args.byte _ _ c.on_data-arrival.result c.placed.result there c.on_data-arrival.ensures c.placed.ensures.value c.placed.ensures.ranges) hears.0 in
    rw is (not_taken _ _ c.args.link node _ c.in_err-tell.field-0.0 c.requires.can lacks (same_node node c.tell.new.cpu (g.M.Mem.bytes c.tell.new.mem) hears.1 hears.2))

pub returns-clause-kept : goal.returns-clause-kept
returns-clause-kept g c =
    let inputs = c.args.head.now.inputs in
    let node = state_with c.args.head.now (g.M.Mem.bytes c.args.mem.now) in
    let inside : c.args.link < length inputs = omega arith in
    let there = slice_get-get_or inputs c.args.link c.index-head-link.result inside in
    rw (data_ranges node c.args.link c.args.byte _ _ c.on_data-arrival.result c.placed.result there c.on_data-arrival.ensures c.placed.ensures.value c.placed.ensures.ranges) c.in_ok-tell.ensures.kept
