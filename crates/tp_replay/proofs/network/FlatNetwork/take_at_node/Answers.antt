use Rattle.std.proofs.Common.{◌≡◌, ◌+◌, ◌*◌, ◌<◌, length, arith, sym, refl, ap, ◌∙◌}
use Rattle.std.specs.Prelude.{is_some}
use Rattle.tp_replay.proofs.Lower.{true≢false, slice_get_read, Take, on_link, carries, takes_ok, takes_err, lacking_frozen, answer_on}
use Rattle.tp_replay.specs.Inside.{replay_state}
use Rattle.tp_replay.proofs.Applied.{node_count, node_at, room, node_inside, node_next}
use Rattle.tp_replay.proofs.Fronts.{front_taken}
use Rattle.tp_replay.proofs.Steps.{without_front, node_takes}
use Rattle.tp_replay.proofs.network.FlatNetwork.take_at_node.Goals as goal

pub take-requires : goal.take-requires
take-requires c =
    let n = c.self.inside in
    let to = rw (← c.self.view_is) at c.requires.goes in
    let front = rw (← c.self.view_is) at c.requires.front in
    let below : c.args.node < length n.nodes.items = omega (arith, node_count n c.self.invariant, (c.self.invariant.flat.sound.wires.links c.args.line c.args.node c.args.link to).0) in
    let at = node_at n c.self.invariant c.args.node c.index_mut.result.now below c.index_mut.ensures.value in
    front_taken (replay_state n) c.self.invariant.flat c.args.line c.args.node c.args.link c.index_mut.result.now.live to at c.args.token c.requires.plain front

pub unreachable-requires : goal.unreachable-requires
unreachable-requires c =
    let n = c.self.inside in
    let to = rw (← c.self.view_is) at c.requires.goes in
    let front = rw (← c.self.view_is) at c.requires.front in
    let below : c.args.node < length n.nodes.items = omega (arith, node_count n c.self.invariant, (c.self.invariant.flat.sound.wires.links c.args.line c.args.node c.args.link to).0) in
    let at = node_at n c.self.invariant c.args.node c.index_mut.result.now below c.index_mut.ensures.value in
    let there = slice_get_read n.nodes.items (length n.nodes.items) c.args.node c.index_mut.result.now refl below c.index_mut.ensures.value in
    let frozen = lacking_frozen c.index_mut.result.now _ (takes_err _ _ c.args.link c.index_mut.result.now.live c.take.new.self.live c.in-Err.field-0 c.in-Err.ensures.takes) in
    absurd (true≢false (sym frozen ∙ ap is_some (c.self.invariant.thawed c.args.node c.index_mut.result.now there)))

pub send_some-requires-clause-room : goal.send_some-requires-clause-room
send_some-requires-clause-room c =
    let n = c.self.inside in
    let to = rw (← c.self.view_is) at c.requires.goes in
    let front = rw (← c.self.view_is) at c.requires.front in
    let below : c.args.node < length n.nodes.items = omega (arith, node_count n c.self.invariant, (c.self.invariant.flat.sound.wires.links c.args.line c.args.node c.args.link to).0) in
    let at = node_at n c.self.invariant c.args.node c.index_mut.result.now below c.index_mut.ensures.value in
    let there = slice_get_read n.nodes.items (length n.nodes.items) c.args.node c.index_mut.result.now refl below c.index_mut.ensures.value in
    let did = takes_ok _ _ c.args.link c.index_mut.result.now.live c.take.new.self.live c.in-Ok.answer c.in-Ok.ensures.takes in
    let M = node_takes (replay_state n) c.args.line c.args.node c.args.link c.args.token c.index_mut.result.now.live c.take.new.self.live (on_link c.args.link c.in-Ok.answer) to front at did in
    let back : c.link_line-reply.result ≡ 4 * c.args.node + c.args.link = omega (arith, c.link_line-reply.ensures, c.from.ensures) in
    rw (back, c.deref.ensures.value, c.pop.ensures.after, answer_on c.args.node c.args.link c.in-Ok.answer) (room n c.self.invariant (Take c.args.line c.args.token) (without_front n.lines c.args.line) _ _ M)

pub invariant_of-self : goal.invariant_of-self
invariant_of-self c =
    let n = c.self.inside in
    let to = rw (← c.self.view_is) at c.requires.goes in
    let front = rw (← c.self.view_is) at c.requires.front in
    let below : c.args.node < length n.nodes.items = omega (arith, node_count n c.self.invariant, (c.self.invariant.flat.sound.wires.links c.args.line c.args.node c.args.link to).0) in
    let at = node_at n c.self.invariant c.args.node c.index_mut.result.now below c.index_mut.ensures.value in
    let there = slice_get_read n.nodes.items (length n.nodes.items) c.args.node c.index_mut.result.now refl below c.index_mut.ensures.value in
    let did = takes_ok _ _ c.args.link c.index_mut.result.now.live c.take.new.self.live c.in-Ok.answer c.in-Ok.ensures.takes in
    let M = node_takes (replay_state n) c.args.line c.args.node c.args.link c.args.token c.index_mut.result.now.live c.take.new.self.live (on_link c.args.link c.in-Ok.answer) to front at did in
    let back : c.link_line-reply.result ≡ 4 * c.args.node + c.args.link = omega (arith, c.link_line-reply.ensures, c.from.ensures) in
    let on = rw (back, c.deref.ensures.value, c.pop.ensures.after, answer_on c.args.node c.args.link c.in-Ok.answer) at c.send_some.ensures in
    node_inside n c.self.invariant (Take c.args.line c.args.token) (without_front n.lines c.args.line) c.args.node c.index_mut.result.now c.take.new.self there c.in-Ok.ensures.kept (on_link c.args.link c.in-Ok.answer) M c.send_some.new.lines on
    (carries c.args.token c.requires.byte)

pub returns : goal.returns
returns c =
    let n = c.self.inside in
    let to = rw (← c.self.view_is) at c.requires.goes in
    let front = rw (← c.self.view_is) at c.requires.front in
    let below : c.args.node < length n.nodes.items = omega (arith, node_count n c.self.invariant, (c.self.invariant.flat.sound.wires.links c.args.line c.args.node c.args.link to).0) in
    let at = node_at n c.self.invariant c.args.node c.index_mut.result.now below c.index_mut.ensures.value in
    let there = slice_get_read n.nodes.items (length n.nodes.items) c.args.node c.index_mut.result.now refl below c.index_mut.ensures.value in
    let did = takes_ok _ _ c.args.link c.index_mut.result.now.live c.take.new.self.live c.in-Ok.answer c.in-Ok.ensures.takes in
    let M = node_takes (replay_state n) c.args.line c.args.node c.args.link c.args.token c.index_mut.result.now.live c.take.new.self.live (on_link c.args.link c.in-Ok.answer) to front at did in
    let back : c.link_line-reply.result ≡ 4 * c.args.node + c.args.link = omega (arith, c.link_line-reply.ensures, c.from.ensures) in
    let on = rw (back, c.deref.ensures.value, c.pop.ensures.after, answer_on c.args.node c.args.link c.in-Ok.answer) at c.send_some.ensures in
    rw (← c.self.view_is) (node_next n c.self.invariant (Take c.args.line c.args.token) (without_front n.lines c.args.line) c.args.node c.index_mut.result.now c.take.new.self there c.in-Ok.ensures.kept (on_link c.args.link c.in-Ok.answer) M c.send_some.new.lines on)
