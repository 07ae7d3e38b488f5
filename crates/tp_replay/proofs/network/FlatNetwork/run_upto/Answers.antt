use Rattle.std.proofs.Common.{◌≡◌, ◌*◌, ◌<◌, ◌≤◌, length, arith, sym, refl, ap, ◌∙◌}
use Rattle.std.specs.Prelude.{is_some}
use Rattle.tp_replay.proofs.Lower.{true≢false, slice_get_read, MAX_STEPS, why_most, why_fewer, lacking_frozen}
use Rattle.tp_replay.proofs.Applied.{node_count}
use Rattle.tp_replay.proofs.Ran.{ran_known, ran_room, ran_inside, ran_upto}
use Rattle.tp_replay.proofs.network.FlatNetwork.run_upto.Goals as goal

pub send_all-requires-clause-known : goal.send_all-requires-clause-known
send_all-requires-clause-known c =
    let n = c.self.inside in
    let below : c.args.node < length n.nodes.items = omega (arith, node_count n c.self.invariant, c.requires.there, ap (λ s. length s.nodes) c.self.view_is) in
    let there = slice_get_read n.nodes.items (length n.nodes.items) c.args.node c.index_mut.result.now refl below c.index_mut.ensures.value in
    let most : c.run-ran.result.count ≤ MAX_STEPS = omega (arith, c.requires.bound, c.run-ran.ensures.asked, why_most c.run-ran.result.why c.args.most c.run-ran.result.count _ c.run-ran.new.self.live c.run-ran.ensures.why) in
    let first : c.link_line.result ≡ 4 * c.args.node = omega (arith, c.link_line.ensures) in
    rw (first, c.deref.ensures.value, c.deref-2.ensures.0) (ran_known n c.self.invariant c.args.node c.index_mut.result.now c.run-ran.new.self there c.run-ran.ensures.kept c.run-ran.result.count c.run-ran.new.out.items c.run-ran.ensures.steps most)

pub send_all-requires-clause-room : goal.send_all-requires-clause-room
send_all-requires-clause-room c =
    let n = c.self.inside in
    let below : c.args.node < length n.nodes.items = omega (arith, node_count n c.self.invariant, c.requires.there, ap (λ s. length s.nodes) c.self.view_is) in
    let there = slice_get_read n.nodes.items (length n.nodes.items) c.args.node c.index_mut.result.now refl below c.index_mut.ensures.value in
    let most : c.run-ran.result.count ≤ MAX_STEPS = omega (arith, c.requires.bound, c.run-ran.ensures.asked, why_most c.run-ran.result.why c.args.most c.run-ran.result.count _ c.run-ran.new.self.live c.run-ran.ensures.why) in
    let first : c.link_line.result ≡ 4 * c.args.node = omega (arith, c.link_line.ensures) in
    rw (first, c.deref.ensures.value, c.deref-2.ensures.0) (ran_room n c.self.invariant c.args.node c.index_mut.result.now c.run-ran.new.self there c.run-ran.ensures.kept c.run-ran.result.count c.run-ran.new.out.items c.run-ran.ensures.steps most)

pub invariant_of-self : goal.invariant_of-self
invariant_of-self c =
    let n = c.self.inside in
    let below : c.args.node < length n.nodes.items = omega (arith, node_count n c.self.invariant, c.requires.there, ap (λ s. length s.nodes) c.self.view_is) in
    let there = slice_get_read n.nodes.items (length n.nodes.items) c.args.node c.index_mut.result.now refl below c.index_mut.ensures.value in
    let most : c.run-ran.result.count ≤ MAX_STEPS = omega (arith, c.requires.bound, c.run-ran.ensures.asked, why_most c.run-ran.result.why c.args.most c.run-ran.result.count _ c.run-ran.new.self.live c.run-ran.ensures.why) in
    let first : c.link_line.result ≡ 4 * c.args.node = omega (arith, c.link_line.ensures) in
    let on = rw (first, c.deref.ensures.value, c.deref-2.ensures.0) at c.send_all.ensures in
    ran_inside n c.self.invariant c.args.node c.index_mut.result.now c.run-ran.new.self there c.run-ran.ensures.kept c.run-ran.result.count c.run-ran.new.out.items c.run-ran.ensures.steps most c.send_all.new.lines on

pub returns : goal.returns
returns c =
    let n = c.self.inside in
    let below : c.args.node < length n.nodes.items = omega (arith, node_count n c.self.invariant, c.requires.there, ap (λ s. length s.nodes) c.self.view_is) in
    let there = slice_get_read n.nodes.items (length n.nodes.items) c.args.node c.index_mut.result.now refl below c.index_mut.ensures.value in
    let few = why_most c.run-ran.result.why c.args.most c.run-ran.result.count _ c.run-ran.new.self.live c.run-ran.ensures.why in
    let most : c.run-ran.result.count ≤ MAX_STEPS = omega (arith, c.requires.bound, c.run-ran.ensures.asked, few) in
    let first : c.link_line.result ≡ 4 * c.args.node = omega (arith, c.link_line.ensures) in
    let on = rw (first, c.deref.ensures.value, c.deref-2.ensures.0) at c.send_all.ensures in
    let all : c.run-ran.result.count < c.args.most → _ = λ fewer. why_fewer c.run-ran.result.why c.args.most c.run-ran.result.count _ c.run-ran.new.self.live c.run-ran.ensures.why (λ lacks. true≢false (sym (lacking_frozen c.run-ran.new.self _ lacks) ∙ ap is_some (c.run-ran.ensures.kept ∙ c.self.invariant.thawed c.args.node c.index_mut.result.now there))) fewer in
    rw (c.count.ensures, ← c.self.view_is) (record { ran = ran_upto n c.self.invariant c.args.node c.index_mut.result.now c.run-ran.new.self there c.run-ran.ensures.kept c.run-ran.result.count c.run-ran.new.out.items c.run-ran.ensures.steps most c.send_all.new.lines on c.args.most few all })
