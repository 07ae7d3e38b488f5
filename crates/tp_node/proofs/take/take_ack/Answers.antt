use Rattle.std.proofs.Common.{◌≡◌, ◌<◌, Err, length, get_or, rules, arith}
use Rattle.tp_node.proofs.Lower.{slice_get-get_or, LacksFrames, took_ranges, Ack}
use Rattle.tp_node.specs.StateWith.{state_with}
use Rattle.tp_node.proofs.Taken.{ack_taken, not_taken, same_node, ack_ranges}
use Rattle.tp_node.proofs.take.take_ack.Goals as goal

pub returns-clause-takes : goal.returns-clause-takes
returns-clause-takes g c =
    let outputs = c.args.head.now.outputs in
    let inside : c.args.link < length outputs = omega arith in
    ack_taken (state_with c.args.head.now (g.M.Mem.bytes c.args.mem.now)) c.args.link (get_or outputs c.args.link c.index-head-link.result) c.on_ack-arrival.new.self c.on_ack-arrival.result
    (LacksFrames (g.M.Mem.kept c.args.mem.now) (took_ranges (state_with c.args.head.now (g.M.Mem.bytes c.args.mem.now)) c.args.link Ack)) c.tell.new.cpu (g.M.Mem.bytes c.tell.new.mem)
    (slice_get-get_or outputs c.args.link c.index-head-link.result inside)
    (rw c.next_byte-next.ensures at c.on_ack-arrival.ensures)
    c.in_ok-tell.ensures.hears

pub returns-in_err-tell-clause-takes : goal.returns-in_err-tell-clause-takes
returns-in_err-tell-clause-takes g c =
    let outputs = c.args.head.now.outputs in
    let node = state_with c.args.head.now (g.M.Mem.bytes c.args.mem.now) in
    let inside : c.args.link < length outputs = omega arith in
    let there = slice_get-get_or outputs c.args.link c.index-head-link.result inside in
    let is : c.from_residual.result ≡ Err c.in_err-tell.field-0.0 = search rules in
    let hears = c.in_err-tell.ensures.hears in
    let lacks : LacksFrames (g.M.Mem.kept c.args.mem.now) (took_ranges node c.args.link Ack) =
    rw (ack_ranges node c.args.link _ _ c.on_ack-arrival.result there (rw c.next_byte-next.ensures at c.on_ack-arrival.ensures)) hears.0 in
    rw is (not_taken _ _ c.args.link node _ c.in_err-tell.field-0.0 c.requires.can lacks (same_node node c.tell.new.cpu (g.M.Mem.bytes c.tell.new.mem) hears.1 hears.2))

pub returns-clause-kept : goal.returns-clause-kept
returns-clause-kept g c =
    let outputs = c.args.head.now.outputs in
    let node = state_with c.args.head.now (g.M.Mem.bytes c.args.mem.now) in
    let inside : c.args.link < length outputs = omega arith in
    let there = slice_get-get_or outputs c.args.link c.index-head-link.result inside in
    rw (ack_ranges node c.args.link _ _ c.on_ack-arrival.result there (rw c.next_byte-next.ensures at c.on_ack-arrival.ensures)) c.in_ok-tell.ensures.kept
