use Rattle.std.proofs.Common.{◌≡◌, ◌+◌, ◌*◌, ◌<◌, ◌≤◌, false, length, refl, sym, ap, subst, ◌∙◌, arith, Some, None}
use Rattle.std.specs.Prelude.{is_some}
use Rattle.tp_replay.proofs.Lower.{true≢false, slice_get_read, Run, t414, node_step, OfNode, steps, process, does, of_node, node_steps, node_there, why_most, why_fewer, lacking_frozen}
use Rattle.tp_replay.specs.Whose.{whose}
use Rattle.tp_replay.specs.Held.{has}
use Rattle.tp_replay.specs.NodesInside.{IsLive, nodes_held}
use Rattle.tp_replay.proofs.Acts.{other_rests, run_does, run_short, run_uncounted}
use Rattle.tp_replay.proofs.Changed.{node_cannot, node_did, changed_inside, changed_processes, same_inside}
use Rattle.tp_replay.proofs.Fewer.{steps_fewer}
use Rattle.tp_replay.proofs.pieces.nodes_part.NodesPart.run.Goals as goal

pub returns-in_default : goal.returns-in_default
unfolding process
returns-in_default c =
    let n = c.self.inside in
    let len : c.len.result ≡ length n.nodes.items = omega (arith, c.len.ensures, n.nodes.ok.0) in
    let other : has (nodes_held n) c.args.node ≡ false = subst (λ k. whose n.before (Some (n.before + k)) c.args.node ≡ false) len c.in_default.ensures in
    rw (← c.self.view_is) (other_rests (nodes_held n) (Run c.args.node c.args.count) other)

pub returns-then-not-is_count : goal.returns-then-not-is_count
unfolding process
returns-then-not-is_count c =
    let n = c.self.inside in
    let below : c.in-Some.i < length n.nodes.items = omega (arith, c.len.ensures, n.nodes.ok.0, c.in-Some.ensures.1) in
    let node = node_there n.nodes.items c.in-Some.i below in
    rw (← c.self.view_is) (node_cannot n c.self.invariant (nodes_held n) (Run c.args.node c.args.count) c.in-Some.i node.0 (record { first = refl; past = refl }) c.in-Some.ensures.0 node.1
    (run_uncounted n.lanes.wires _ c.args.node c.args.count node.0.live (sym c.is_count.ensures.value ∙ c.if-not-is_count.true)))

pub invariant_of-self : goal.invariant_of-self
invariant_of-self c =
    let n = c.self.inside in
    let old = c.index_mut.result.now in
    let new = c.run-ran.new.self in
    let below : c.in-Some.i < length n.nodes.items = omega (arith, c.len.ensures, n.nodes.ok.0, c.in-Some.ensures.1) in
    let there = slice_get_read n.nodes.items (length n.nodes.items) c.in-Some.i old refl below c.index_mut.ensures.value in
    let was = c.self.invariant.live c.in-Some.i old there in
    let live : IsLive new = record { bytes = (node_steps c.run-ran.result.count old.live (new.live, c.run-ran.new.out.items) was.bytes c.run-ran.ensures.steps).0; thawed = c.run-ran.ensures.kept ∙ was.thawed } in
    same_inside _ (changed_inside n c.self.invariant n.lanes (record { wires = refl; count = refl }) c.in-Some.i old new there live) _ refl refl refl refl refl

pub returns-then-count : goal.returns-then-count
unfolding process
returns-then-count c =
    let n = c.self.inside in
    let old = c.index_mut.result.now in
    let new = c.run-ran.new.self in
    let below : c.in-Some.i < length n.nodes.items = omega (arith, c.len.ensures, n.nodes.ok.0, c.in-Some.ensures.1) in
    let there = slice_get_read n.nodes.items (length n.nodes.items) c.in-Some.i old refl below c.index_mut.ensures.value in
    let was = c.self.invariant.live c.in-Some.i old there in
    let live : IsLive new = record { bytes = (node_steps c.run-ran.result.count old.live (new.live, c.run-ran.new.out.items) was.bytes c.run-ran.ensures.steps).0; thawed = c.run-ran.ensures.kept ∙ was.thawed } in
    let most : c.run-ran.result.count ≤ c.args.count = why_most c.run-ran.result.why c.args.count c.run-ran.result.count _ new.live c.run-ran.ensures.why in
    let fewer : c.run-ran.result.count < c.args.count = omega (arith, most, c.count.ensures, c.if-count.true) in
    let none : node_step new.live ≡ None =
    why_fewer c.run-ran.result.why c.args.count c.run-ran.result.count _ new.live c.run-ran.ensures.why (λ lacks. true≢false (sym (lacking_frozen new _ lacks) ∙ ap is_some live.thawed)) fewer in
    let short : steps t414 c.args.count old.live ≡ None = steps_fewer t414 c.run-ran.result.count c.args.count old.live (new.live, c.run-ran.new.out.items) c.run-ran.ensures.steps none fewer in
    rw (← c.self.view_is) (node_cannot n c.self.invariant _ (Run c.args.node c.args.count) c.in-Some.i old
    (changed_processes n c.self.invariant n.lanes (record { wires = refl; count = refl }) c.in-Some.i old new there live) c.in-Some.ensures.0 there
    (run_short n.lanes.wires _ c.args.node c.args.count old.live (sym c.is_count.ensures.value ∙ c.if-not-is_count.false) short))

pub invariant_of-self-2 : goal.invariant_of-self-2
invariant_of-self-2 c =
    let n = c.self.inside in
    let old = c.index_mut.result.now in
    let new = c.run-ran.new.self in
    let below : c.in-Some.i < length n.nodes.items = omega (arith, c.len.ensures, n.nodes.ok.0, c.in-Some.ensures.1) in
    let there = slice_get_read n.nodes.items (length n.nodes.items) c.in-Some.i old refl below c.index_mut.ensures.value in
    let was = c.self.invariant.live c.in-Some.i old there in
    let live : IsLive new = record { bytes = (node_steps c.run-ran.result.count old.live (new.live, c.run-ran.new.out.items) was.bytes c.run-ran.ensures.steps).0; thawed = c.run-ran.ensures.kept ∙ was.thawed } in
    same_inside _ (changed_inside n c.self.invariant c.send_all.new.self c.send_all.ensures.same c.in-Some.i old new there live) _ refl refl refl refl refl

pub returns : goal.returns
unfolding process
returns c =
    let n = c.self.inside in
    let i = c.in-Some.i in
    let old = c.index_mut.result.now in
    let new = c.run-ran.new.self in
    let below : i < length n.nodes.items = omega (arith, c.len.ensures, n.nodes.ok.0, c.in-Some.ensures.1) in
    let there = slice_get_read n.nodes.items (length n.nodes.items) i old refl below c.index_mut.ensures.value in
    let was = c.self.invariant.live i old there in
    let live : IsLive new = record { bytes = (node_steps c.run-ran.result.count old.live (new.live, c.run-ran.new.out.items) was.bytes c.run-ran.ensures.steps).0; thawed = c.run-ran.ensures.kept ∙ was.thawed } in
    let all : c.run-ran.result.count ≡ c.args.count = sym c.count.ensures ∙ c.if-count.false in
    let ran : steps t414 c.args.count old.live ≡ Some (new.live, c.run-ran.new.out.items) = subst (λ k. steps t414 k old.live ≡ Some (new.live, c.run-ran.new.out.items)) all c.run-ran.ensures.steps in
    let did = run_does n.lanes.wires (length (nodes_held n).network.nodes) c.args.node c.args.count old.live new.live c.run-ran.new.out.items (sym c.is_count.ensures.value ∙ c.if-not-is_count.false) ran in
    let first : c.link_line.result ≡ 4 * (n.before + i) = omega (arith, c.link_line.ensures, c.from.ensures, c.in-Some.ensures.0) in
    rw (← c.self.view_is) (node_did n c.self.invariant c.send_all.new.self c.send_all.ensures.same i old new there live (Run c.args.node c.args.count) c.send_all.result c.run-ran.new.out.items c.in-Some.ensures.0
    (subst (λ k. does t414 n.lanes.wires (length (nodes_held n).network.nodes) (Run c.args.node c.args.count) (OfNode old.live) ≡ Some (of_node k (new.live, c.run-ran.new.out.items))) c.in-Some.ensures.0 did)
    (rw (first, c.deref.ensures.0) at c.send_all.ensures.sends))
