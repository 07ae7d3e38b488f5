use Rattle.std.proofs.Common.{◌≡◌, ◌+◌, ◌*◌, ◌++◌, ◌<◌, ◌≤◌, true, false, length, refl, sym, ap, subst, ◌∙◌, arith, Some, None, nat_lt, nat_le}
use Rattle.std.specs.Prelude.{◌&&◌}
use Rattle.tp_replay.proofs.Lower.{slice_get_read, Turn, MAX_STEPS, OfNode, t414, by_link, comes_in, turned, process, does, of_node, node_there}
use Rattle.tp_replay.specs.Whose.{whose}
use Rattle.tp_replay.specs.Held.{has}
use Rattle.tp_replay.specs.NodesInside.{nodes_held}
use Rattle.tp_replay.proofs.Acts.{other_rests, turn_does, turn_refused, turn_short}
use Rattle.tp_replay.proofs.Changed.{node_cannot, node_did, changed_inside, changed_processes, same_inside}
use Rattle.tp_replay.proofs.pieces.nodes_part.NodesPart.turn.Goals as goal

pub returns-in_default : goal.returns-in_default
unfolding process
returns-in_default c =
    let n = c.self.inside in
    let len : c.len.result ≡ length n.nodes.items = omega (arith, c.len.ensures, n.nodes.ok.0) in
    let other : has (nodes_held n) c.args.node ≡ false = subst (λ k. whose n.before (Some (n.before + k)) c.args.node ≡ false) len c.in_default.ensures in
    rw (← c.self.view_is) (other_rests (nodes_held n) (Turn c.args.node c.args.takes.now c.args.count) other)

pub returns-then-not-is_turn : goal.returns-then-not-is_turn
unfolding process
returns-then-not-is_turn c =
    let n = c.self.inside in
    let below : c.in-Some.i < length n.nodes.items = omega (arith, c.len.ensures, n.nodes.ok.0, c.in-Some.ensures.1) in
    let node = node_there n.nodes.items c.in-Some.i below in
    let nodes : c.count-nodes.result ≡ length (nodes_held n).network.nodes = rw (← c.self.view_is) at c.count-nodes.ensures.value in
    let may = rw (nodes, c.deref.ensures.0, c.tokens_of-tokens.ensures.tokens) at c.is_turn.ensures in
    rw (← c.self.view_is) (node_cannot n c.self.invariant (nodes_held n) (Turn c.args.node c.args.takes.now c.args.count) c.in-Some.i node.0 (record { first = refl; past = refl }) c.in-Some.ensures.0 node.1
    (turn_refused n.lanes.wires _ c.args.node c.args.count c.args.takes.now node.0.live (sym may ∙ c.if-not-is_turn.true)))

pub invariant_of-self-2 : goal.invariant_of-self-2
invariant_of-self-2 c =
    let n = c.self.inside in
    let below : c.in-Some.i < length n.nodes.items = omega (arith, c.len.ensures, n.nodes.ok.0, c.in-Some.ensures.1) in
    let there = slice_get_read n.nodes.items (length n.nodes.items) c.in-Some.i c.index_mut.result.now refl below c.index_mut.ensures.value in
    same_inside _ (changed_inside n c.self.invariant c.send_turn.new.self c.send_turn.ensures.same c.in-Some.i c.index_mut.result.now c.make_turn.new.node there c.make_turn.ensures.live) _ refl refl refl refl refl

pub returns : goal.returns
unfolding process
returns c =
    let n = c.self.inside in
    let i = c.in-Some.i in
    let N = length (nodes_held n).network.nodes in
    let old = c.index_mut.result.now in
    let new = c.make_turn.new.node in
    let below : i < length n.nodes.items = omega (arith, c.len.ensures, n.nodes.ok.0, c.in-Some.ensures.1) in
    let there = slice_get_read n.nodes.items (length n.nodes.items) i old refl below c.index_mut.ensures.value in
    let nodes : c.count-nodes.result ≡ N = rw (← c.self.view_is) at c.count-nodes.ensures.value in
    let may = rw (nodes, c.deref.ensures.0, c.tokens_of-tokens.ensures.tokens) at c.is_turn.ensures in
    let tokens = c.in-Some-make_turn.sent.for_tokens.items ++ c.in-Some-make_turn.sent.in_steps.items in
    let made : turned t414 (by_link 0 c.args.takes.now) c.args.count old.live ≡ Some (new.live, tokens) = rw (c.deref-2.ensures.0, c.tokens_of-tokens.ensures.tokens) at c.in-Some-make_turn.ensures.turns in
    let did = turn_does n.lanes.wires N c.args.node c.args.count c.args.takes.now old.live new.live tokens (sym may ∙ c.if-not-is_turn.false) made in
    let first : c.link_line.result ≡ 4 * (n.before + i) = omega (arith, c.link_line.ensures, c.from.ensures, c.in-Some.ensures.0) in
    rw (← c.self.view_is) (node_did n c.self.invariant c.send_turn.new.self c.send_turn.ensures.same i old new there c.make_turn.ensures.live (Turn c.args.node c.args.takes.now c.args.count) c.send_turn.result tokens c.in-Some.ensures.0
    (subst (λ k. does t414 n.lanes.wires N (Turn c.args.node c.args.takes.now c.args.count) (OfNode old.live) ≡ Some (of_node k (new.live, tokens))) c.in-Some.ensures.0 did)
    (rw first at c.send_turn.ensures.sends))

pub invariant_of-self : goal.invariant_of-self
invariant_of-self c =
    let n = c.self.inside in
    let below : c.in-Some.i < length n.nodes.items = omega (arith, c.len.ensures, n.nodes.ok.0, c.in-Some.ensures.1) in
    let there = slice_get_read n.nodes.items (length n.nodes.items) c.in-Some.i c.index_mut.result.now refl below c.index_mut.ensures.value in
    same_inside _ (changed_inside n c.self.invariant n.lanes (record { wires = refl; count = refl }) c.in-Some.i c.index_mut.result.now c.make_turn.new.node there c.make_turn.ensures.live) _ refl refl refl refl refl

pub returns-in_default-make_turn : goal.returns-in_default-make_turn
unfolding process
returns-in_default-make_turn c =
    let n = c.self.inside in
    let i = c.in-Some.i in
    let N = length (nodes_held n).network.nodes in
    let old = c.index_mut.result.now in
    let new = c.make_turn.new.node in
    let below : i < length n.nodes.items = omega (arith, c.len.ensures, n.nodes.ok.0, c.in-Some.ensures.1) in
    let there = slice_get_read n.nodes.items (length n.nodes.items) i old refl below c.index_mut.ensures.value in
    let nodes : c.count-nodes.result ≡ N = rw (← c.self.view_is) at c.count-nodes.ensures.value in
    let may = rw (nodes, c.deref.ensures.0, c.tokens_of-tokens.ensures.tokens) at c.is_turn.ensures in
    let none : turned t414 (by_link 0 c.args.takes.now) c.args.count old.live ≡ None = rw (c.deref-2.ensures.0, c.tokens_of-tokens.ensures.tokens) at c.in_default-make_turn.ensures.turns in
    rw (← c.self.view_is) (node_cannot n c.self.invariant _ (Turn c.args.node c.args.takes.now c.args.count) i old
    (changed_processes n c.self.invariant n.lanes (record { wires = refl; count = refl }) i old new there c.make_turn.ensures.live) c.in-Some.ensures.0 there
    (turn_short n.lanes.wires N c.args.node c.args.count c.args.takes.now old.live (sym may ∙ c.if-not-is_turn.false) none))

pub make_turn-requires-clause-live : goal.make_turn-requires-clause-live
make_turn-requires-clause-live c =
    let n = c.self.inside in
    let below : c.in-Some.i < length n.nodes.items = omega (arith, c.len.ensures, n.nodes.ok.0, c.in-Some.ensures.1) in
    c.self.invariant.live c.in-Some.i c.index_mut.result.now (slice_get_read n.nodes.items (length n.nodes.items) c.in-Some.i c.index_mut.result.now refl below c.index_mut.ensures.value)
