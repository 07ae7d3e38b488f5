use Rattle.std.proofs.Common.{◌≡◌, ◌*◌, ◌<◌, length, arith, sym, refl, ap, subst, ◌∙◌}
use Rattle.std.specs.Prelude.{is_some}
use Rattle.tp_replay.proofs.Lower.{true≢false, slice_get_read, has_wire, by_link, by_line, IsFront, length_taken, length_sent, CarryBytes, why_most, why_fewer, lacking_frozen, from_line}
use Rattle.tp_replay.proofs.Turned.{node_there, off_lines, out_is, node_can, answers_known, tokens_known, answers_room, tokens_room, turned_inside, turned_upto}
use Rattle.tp_replay.proofs.network.FlatNetwork.turn_upto.Goals as goal

pub take_off-requires-clause-front : goal.take_off-requires-clause-front
take_off-requires-clause-front c =
    let n = c.self.inside in
    let F = subst (λ s. IsFront s c.args.node c.args.takes.now c.args.most) (sym c.self.view_is) c.requires in
    let size : c.len.result ≡ length n.nodes.items = omega (arith, c.len.ensures, n.nodes.ok.0) in
    rw (c.deref.ensures.value, size, c.deref-2.ensures.0, c.tokens_of-tokens.ensures.tokens) (off_lines n c.self.invariant c.args.node c.args.takes.now c.args.most F)

pub index_mut-at-requires : goal.index_mut-at-requires
index_mut-at-requires c =
    let n = c.self.inside in
    let F = subst (λ s. IsFront s c.args.node c.args.takes.now c.args.most) (sym c.self.view_is) c.requires in
    omega (arith, node_there n c.self.invariant c.args.node c.args.takes.now c.args.most F, n.nodes.ok.0)

pub take_all-requires-clause-thawed : goal.take_all-requires-clause-thawed
take_all-requires-clause-thawed c =
    let n = c.self.inside in
    let F = subst (λ s. IsFront s c.args.node c.args.takes.now c.args.most) (sym c.self.view_is) c.requires in
    let below = node_there n c.self.invariant c.args.node c.args.takes.now c.args.most F in
    let there = slice_get_read n.nodes.items (length n.nodes.items) c.args.node c.index_mut-at.result.now refl below c.index_mut-at.ensures.value in
    c.self.invariant.thawed c.args.node c.index_mut-at.result.now there

pub take_all-requires-clause-possible : goal.take_all-requires-clause-possible
take_all-requires-clause-possible c =
    let n = c.self.inside in
    let F = subst (λ s. IsFront s c.args.node c.args.takes.now c.args.most) (sym c.self.view_is) c.requires in
    let low = subst CarryBytes c.tokens_of-tokens.ensures.tokens c.tokens_of-tokens.ensures.bytes in
    let below = node_there n c.self.invariant c.args.node c.args.takes.now c.args.most F in
    let there = slice_get_read n.nodes.items (length n.nodes.items) c.args.node c.index_mut-at.result.now refl below c.index_mut-at.ensures.value in
    rw (c.deref-3.ensures.0, c.tokens_of-tokens.ensures.tokens) (node_can n c.self.invariant c.args.node c.args.takes.now c.args.most F low c.index_mut-at.result.now there)

pub send_all-requires-clause-known : goal.send_all-requires-clause-known
send_all-requires-clause-known c =
    let n = c.self.inside in
    let F = subst (λ s. IsFront s c.args.node c.args.takes.now c.args.most) (sym c.self.view_is) c.requires in
    let low = subst CarryBytes c.tokens_of-tokens.ensures.tokens c.tokens_of-tokens.ensures.bytes in
    let below = node_there n c.self.invariant c.args.node c.args.takes.now c.args.most F in
    let there = slice_get_read n.nodes.items (length n.nodes.items) c.args.node c.index_mut-at.result.now refl below c.index_mut-at.ensures.value in
    let took = rw (c.deref-3.ensures.0, c.tokens_of-tokens.ensures.tokens) at c.take_all.ensures.took in
    let kept = c.run-ran.ensures.kept ∙ c.take_all.ensures.thawed ∙ sym (c.self.invariant.thawed c.args.node c.index_mut-at.result.now there) in
    let few = why_most c.run-ran.result.why c.args.most c.run-ran.result.count _ c.run-ran.new.self.live c.run-ran.ensures.why in
    let first : c.link_line.result ≡ 4 * c.args.node = omega (arith, c.link_line.ensures) in
    rw (first, c.deref-4.ensures.value, c.deref-5.ensures.0) (answers_known n c.self.invariant c.args.node c.args.takes.now c.args.most F low c.index_mut-at.result.now there c.take_all.new.node.live c.take_all.new.answers.items took c.run-ran.new.self kept c.run-ran.result.count c.run-ran.new.out.items c.run-ran.ensures.steps few)

pub send_all-requires-clause-there : goal.send_all-requires-clause-there
send_all-requires-clause-there c =
    let n = c.self.inside in
    let size : c.len.result ≡ length n.nodes.items = omega (arith, c.len.ensures, n.nodes.ok.0) in
    let off = rw (c.deref.ensures.value, size, c.deref-2.ensures.0, c.tokens_of-tokens.ensures.tokens) at c.take_off.ensures in
    let wide = length_taken n.lines (by_line n.wires.items (length n.nodes.items) c.args.node (by_link 0 c.args.takes.now)) c.take_off.new.lines off in
    omega (arith, wide, ap length c.deref-4.ensures.value, c.self.invariant.flat.shaped.wires, c.self.invariant.flat.shaped.lines)

pub send_all-requires-clause-room : goal.send_all-requires-clause-room
send_all-requires-clause-room c =
    let n = c.self.inside in
    let F = subst (λ s. IsFront s c.args.node c.args.takes.now c.args.most) (sym c.self.view_is) c.requires in
    let low = subst CarryBytes c.tokens_of-tokens.ensures.tokens c.tokens_of-tokens.ensures.bytes in
    let below = node_there n c.self.invariant c.args.node c.args.takes.now c.args.most F in
    let there = slice_get_read n.nodes.items (length n.nodes.items) c.args.node c.index_mut-at.result.now refl below c.index_mut-at.ensures.value in
    let size : c.len.result ≡ length n.nodes.items = omega (arith, c.len.ensures, n.nodes.ok.0) in
    let off = rw (c.deref.ensures.value, size, c.deref-2.ensures.0, c.tokens_of-tokens.ensures.tokens) at c.take_off.ensures in
    let out = out_is n c.self.invariant c.args.node c.args.takes.now c.args.most F c.take_off.new.lines off in
    let took = rw (c.deref-3.ensures.0, c.tokens_of-tokens.ensures.tokens) at c.take_all.ensures.took in
    let kept = c.run-ran.ensures.kept ∙ c.take_all.ensures.thawed ∙ sym (c.self.invariant.thawed c.args.node c.index_mut-at.result.now there) in
    let few = why_most c.run-ran.result.why c.args.most c.run-ran.result.count _ c.run-ran.new.self.live c.run-ran.ensures.why in
    let first : c.link_line.result ≡ 4 * c.args.node = omega (arith, c.link_line.ensures) in
    rw (first, c.deref-4.ensures.value, c.deref-5.ensures.0) (answers_room n c.self.invariant c.args.node c.args.takes.now c.args.most F low c.index_mut-at.result.now there c.take_all.new.node.live c.take_all.new.answers.items took c.run-ran.new.self kept c.run-ran.result.count c.run-ran.new.out.items c.run-ran.ensures.steps few c.take_off.new.lines out)

pub send_all-requires-2-clause-known : goal.send_all-requires-2-clause-known
send_all-requires-2-clause-known c =
    let n = c.self.inside in
    let F = subst (λ s. IsFront s c.args.node c.args.takes.now c.args.most) (sym c.self.view_is) c.requires in
    let low = subst CarryBytes c.tokens_of-tokens.ensures.tokens c.tokens_of-tokens.ensures.bytes in
    let below = node_there n c.self.invariant c.args.node c.args.takes.now c.args.most F in
    let there = slice_get_read n.nodes.items (length n.nodes.items) c.args.node c.index_mut-at.result.now refl below c.index_mut-at.ensures.value in
    let took = rw (c.deref-3.ensures.0, c.tokens_of-tokens.ensures.tokens) at c.take_all.ensures.took in
    let kept = c.run-ran.ensures.kept ∙ c.take_all.ensures.thawed ∙ sym (c.self.invariant.thawed c.args.node c.index_mut-at.result.now there) in
    let few = why_most c.run-ran.result.why c.args.most c.run-ran.result.count _ c.run-ran.new.self.live c.run-ran.ensures.why in
    let first : c.link_line-2.result ≡ 4 * c.args.node = omega (arith, c.link_line-2.ensures) in
    rw (first, c.deref-6.ensures.value, c.deref-7.ensures.0) (tokens_known n c.self.invariant c.args.node c.args.takes.now c.args.most F low c.index_mut-at.result.now there c.take_all.new.node.live c.take_all.new.answers.items took c.run-ran.new.self kept c.run-ran.result.count c.run-ran.new.out.items c.run-ran.ensures.steps few)

pub send_all-requires-2-clause-there : goal.send_all-requires-2-clause-there
send_all-requires-2-clause-there c =
    let n = c.self.inside in
    let size : c.len.result ≡ length n.nodes.items = omega (arith, c.len.ensures, n.nodes.ok.0) in
    let off = rw (c.deref.ensures.value, size, c.deref-2.ensures.0, c.tokens_of-tokens.ensures.tokens) at c.take_off.ensures in
    let wide = length_taken n.lines (by_line n.wires.items (length n.nodes.items) c.args.node (by_link 0 c.args.takes.now)) c.take_off.new.lines off in
    omega (arith, wide, ap length c.send_all.ensures, length_sent (has_wire c.deref-4.result.now) c.take_off.new.lines (from_line c.link_line.result c.deref-5.result.now), ap length c.deref-6.ensures.value, c.self.invariant.flat.shaped.wires, c.self.invariant.flat.shaped.lines)

pub send_all-requires-2-clause-room : goal.send_all-requires-2-clause-room
send_all-requires-2-clause-room c =
    let n = c.self.inside in
    let F = subst (λ s. IsFront s c.args.node c.args.takes.now c.args.most) (sym c.self.view_is) c.requires in
    let low = subst CarryBytes c.tokens_of-tokens.ensures.tokens c.tokens_of-tokens.ensures.bytes in
    let below = node_there n c.self.invariant c.args.node c.args.takes.now c.args.most F in
    let there = slice_get_read n.nodes.items (length n.nodes.items) c.args.node c.index_mut-at.result.now refl below c.index_mut-at.ensures.value in
    let size : c.len.result ≡ length n.nodes.items = omega (arith, c.len.ensures, n.nodes.ok.0) in
    let off = rw (c.deref.ensures.value, size, c.deref-2.ensures.0, c.tokens_of-tokens.ensures.tokens) at c.take_off.ensures in
    let out = out_is n c.self.invariant c.args.node c.args.takes.now c.args.most F c.take_off.new.lines off in
    let took = rw (c.deref-3.ensures.0, c.tokens_of-tokens.ensures.tokens) at c.take_all.ensures.took in
    let kept = c.run-ran.ensures.kept ∙ c.take_all.ensures.thawed ∙ sym (c.self.invariant.thawed c.args.node c.index_mut-at.result.now there) in
    let few = why_most c.run-ran.result.why c.args.most c.run-ran.result.count _ c.run-ran.new.self.live c.run-ran.ensures.why in
    let line : c.link_line.result ≡ 4 * c.args.node = omega (arith, c.link_line.ensures) in
    let sent = rw (line, c.deref-4.ensures.value, c.deref-5.ensures.0) at c.send_all.ensures in
    let first : c.link_line-2.result ≡ 4 * c.args.node = omega (arith, c.link_line-2.ensures) in
    rw (first, c.deref-6.ensures.value, c.deref-7.ensures.0, sent) (tokens_room n c.self.invariant c.args.node c.args.takes.now c.args.most F low c.index_mut-at.result.now there c.take_all.new.node.live c.take_all.new.answers.items took c.run-ran.new.self kept c.run-ran.result.count c.run-ran.new.out.items c.run-ran.ensures.steps few c.take_off.new.lines out)

pub invariant_of-self : goal.invariant_of-self
invariant_of-self c =
    let n = c.self.inside in
    let F = subst (λ s. IsFront s c.args.node c.args.takes.now c.args.most) (sym c.self.view_is) c.requires in
    let low = subst CarryBytes c.tokens_of-tokens.ensures.tokens c.tokens_of-tokens.ensures.bytes in
    let below = node_there n c.self.invariant c.args.node c.args.takes.now c.args.most F in
    let there = slice_get_read n.nodes.items (length n.nodes.items) c.args.node c.index_mut-at.result.now refl below c.index_mut-at.ensures.value in
    let size : c.len.result ≡ length n.nodes.items = omega (arith, c.len.ensures, n.nodes.ok.0) in
    let off = rw (c.deref.ensures.value, size, c.deref-2.ensures.0, c.tokens_of-tokens.ensures.tokens) at c.take_off.ensures in
    let out = out_is n c.self.invariant c.args.node c.args.takes.now c.args.most F c.take_off.new.lines off in
    let took = rw (c.deref-3.ensures.0, c.tokens_of-tokens.ensures.tokens) at c.take_all.ensures.took in
    let kept = c.run-ran.ensures.kept ∙ c.take_all.ensures.thawed ∙ sym (c.self.invariant.thawed c.args.node c.index_mut-at.result.now there) in
    let few = why_most c.run-ran.result.why c.args.most c.run-ran.result.count _ c.run-ran.new.self.live c.run-ran.ensures.why in
    let line : c.link_line.result ≡ 4 * c.args.node = omega (arith, c.link_line.ensures) in
    let again : c.link_line-2.result ≡ 4 * c.args.node = omega (arith, c.link_line-2.ensures) in
    let first = rw (line, c.deref-4.ensures.value, c.deref-5.ensures.0) at c.send_all.ensures in
    let on = rw (again, c.deref-6.ensures.value, c.deref-7.ensures.0, first) at c.send_all-2.ensures in
    turned_inside n c.self.invariant c.args.node c.args.takes.now c.args.most F low c.index_mut-at.result.now there c.take_all.new.node.live c.take_all.new.answers.items took c.run-ran.new.self kept c.run-ran.result.count c.run-ran.new.out.items c.run-ran.ensures.steps few c.take_off.new.lines c.send_all-2.new.lines out on

pub returns : goal.returns
returns c =
    let n = c.self.inside in
    let F = subst (λ s. IsFront s c.args.node c.args.takes.now c.args.most) (sym c.self.view_is) c.requires in
    let low = subst CarryBytes c.tokens_of-tokens.ensures.tokens c.tokens_of-tokens.ensures.bytes in
    let below = node_there n c.self.invariant c.args.node c.args.takes.now c.args.most F in
    let there = slice_get_read n.nodes.items (length n.nodes.items) c.args.node c.index_mut-at.result.now refl below c.index_mut-at.ensures.value in
    let size : c.len.result ≡ length n.nodes.items = omega (arith, c.len.ensures, n.nodes.ok.0) in
    let off = rw (c.deref.ensures.value, size, c.deref-2.ensures.0, c.tokens_of-tokens.ensures.tokens) at c.take_off.ensures in
    let out = out_is n c.self.invariant c.args.node c.args.takes.now c.args.most F c.take_off.new.lines off in
    let took = rw (c.deref-3.ensures.0, c.tokens_of-tokens.ensures.tokens) at c.take_all.ensures.took in
    let kept = c.run-ran.ensures.kept ∙ c.take_all.ensures.thawed ∙ sym (c.self.invariant.thawed c.args.node c.index_mut-at.result.now there) in
    let few = why_most c.run-ran.result.why c.args.most c.run-ran.result.count _ c.run-ran.new.self.live c.run-ran.ensures.why in
    let line : c.link_line.result ≡ 4 * c.args.node = omega (arith, c.link_line.ensures) in
    let again : c.link_line-2.result ≡ 4 * c.args.node = omega (arith, c.link_line-2.ensures) in
    let first = rw (line, c.deref-4.ensures.value, c.deref-5.ensures.0) at c.send_all.ensures in
    let on = rw (again, c.deref-6.ensures.value, c.deref-7.ensures.0, first) at c.send_all-2.ensures in
    let all : c.run-ran.result.count < c.args.most → _ = λ fewer. why_fewer c.run-ran.result.why c.args.most c.run-ran.result.count _ c.run-ran.new.self.live c.run-ran.ensures.why (λ lacks. true≢false (sym (lacking_frozen c.run-ran.new.self _ lacks) ∙ ap is_some (c.run-ran.ensures.kept ∙ c.take_all.ensures.thawed))) fewer in
    rw (c.count.ensures, ← c.self.view_is) (turned_upto n c.self.invariant c.args.node c.args.takes.now c.args.most F low c.index_mut-at.result.now there c.take_all.new.node.live c.take_all.new.answers.items took c.run-ran.new.self kept c.run-ran.result.count c.run-ran.new.out.items c.run-ran.ensures.steps few c.take_off.new.lines c.send_all-2.new.lines out on all)
