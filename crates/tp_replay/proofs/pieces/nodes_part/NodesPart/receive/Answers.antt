use Rattle.std.proofs.Common.{◌≡◌, ◌+◌, ◌*◌, ◌<◌, true, false, length, refl, sym, ap, subst, ◌∙◌, arith, Some, None, IsSome}
use Rattle.std.specs.Prelude.{is_some}
use Rattle.tp_replay.proofs.Lower.{true≢false, slice_get_read, Take, Link, t414, took, on_link, OfNode, receiver, process_at, process, does, of_node, carries, node_took, takes_ok, takes_err, lacking_frozen, answer_on}
use Rattle.tp_replay.specs.Whose.{whose}
use Rattle.tp_replay.specs.Held.{has}
use Rattle.tp_replay.specs.NodesInside.{IsLive, nodes_held}
use Rattle.tp_replay.proofs.Acts.{other_rests, node_takes, node_refuses, none_is, same_item}
use Rattle.tp_replay.proofs.Changed.{node_cannot, node_did, changed_inside}
use Rattle.tp_replay.proofs.pieces.nodes_part.NodesPart.receive.Goals as goal

pub returns-in_default : goal.returns-in_default
unfolding process
returns-in_default c =
    let n = c.self.inside in
    let len : c.len.result ≡ length n.nodes.items = omega (arith, c.len.ensures, n.nodes.ok.0) in
    let other : has (nodes_held n) c.args.node ≡ false = subst (λ k. whose n.before (Some (n.before + k)) c.args.node ≡ false) len c.in_default.ensures in
    let to : receiver n.lanes.wires c.args.line ≡ Some (Link c.args.node c.args.link) = rw (← c.self.view_is) at c.requires in
    rw (← c.self.view_is) (other_rests (nodes_held n) (Take c.args.line c.args.token) (ap (λ end. has (nodes_held n) (process_at (length (nodes_held n).network.nodes) end)) to ∙ other))

pub returns-then-not-can_take : goal.returns-then-not-can_take
unfolding process
returns-then-not-can_take c =
    let n = c.self.inside in
    let i = c.in-Some.i in
    let old = c.index.result.now in
    let to : receiver n.lanes.wires c.args.line ≡ Some (Link c.args.node c.args.link) = rw (← c.self.view_is) at c.requires in
    let below : i < length n.nodes.items = omega (arith, c.len.ensures, n.nodes.ok.0, c.in-Some.ensures.1) in
    let there = slice_get_read n.nodes.items (length n.nodes.items) i old refl below c.index.ensures in
    let was = c.self.invariant.live i old there in
    let none : took old.live c.args.link c.args.token ≡ None = none_is (took old.live c.args.link c.args.token) (sym (c.can_take.ensures was.bytes.image) ∙ c.if-not-can_take.true) in
    rw (← c.self.view_is) (node_cannot n c.self.invariant (nodes_held n) (Take c.args.line c.args.token) i old (record { first = refl; past = refl })
    (ap (process_at (length (nodes_held n).network.nodes)) to ∙ c.in-Some.ensures.0) there
    (node_refuses n.lanes.wires (length (nodes_held n).network.nodes) c.args.line c.args.node c.args.link c.args.token old.live to none))

pub take-requires : goal.take-requires
take-requires c =
    let n = c.self.inside in
    let i = c.in-Some.i in
    let below : i < length n.nodes.items = omega (arith, c.len.ensures, n.nodes.ok.0, c.in-Some.ensures.1) in
    let read = slice_get_read n.nodes.items (length n.nodes.items) i c.index.result.now refl below c.index.ensures in
    let there = slice_get_read n.nodes.items (length n.nodes.items) i c.index_mut.result.now refl below c.index_mut.ensures.value in
    let was = c.self.invariant.live i c.index.result.now read in
    let can : is_some (took c.index.result.now.live c.args.link c.args.token) ≡ true = sym (c.can_take.ensures was.bytes.image) ∙ c.if-not-can_take.false in
    subst (λ node. IsSome (took node.live c.args.link c.args.token)) (same_item n.nodes.items i c.index.result.now c.index_mut.result.now read there) can

pub unreachable-requires : goal.unreachable-requires
unreachable-requires c =
    let n = c.self.inside in
    let i = c.in-Some.i in
    let old = c.index_mut.result.now in
    let below : i < length n.nodes.items = omega (arith, c.len.ensures, n.nodes.ok.0, c.in-Some.ensures.1) in
    let there = slice_get_read n.nodes.items (length n.nodes.items) i old refl below c.index_mut.ensures.value in
    let was = c.self.invariant.live i old there in
    let frozen = lacking_frozen old _ (takes_err _ _ c.args.link old.live c.take.new.self.live c.in-Err.field-0 c.in-Err.ensures.takes) in
    absurd (true≢false (sym frozen ∙ ap is_some was.thawed))

pub invariant_of-self : goal.invariant_of-self
invariant_of-self c =
    let n = c.self.inside in
    let i = c.in-Some.i in
    let old = c.index_mut.result.now in
    let new = c.take.new.self in
    let below : i < length n.nodes.items = omega (arith, c.len.ensures, n.nodes.ok.0, c.in-Some.ensures.1) in
    let there = slice_get_read n.nodes.items (length n.nodes.items) i old refl below c.index_mut.ensures.value in
    let was = c.self.invariant.live i old there in
    let did = takes_ok _ _ c.args.link old.live new.live c.in-Ok.answer c.in-Ok.ensures.takes in
    let live : IsLive new = record { bytes = (node_took old.live c.args.link c.args.token (new.live, on_link c.args.link c.in-Ok.answer) was.bytes (carries c.args.token c.carries_byte.ensures) did).0; thawed = c.in-Ok.ensures.kept ∙ was.thawed } in
    changed_inside n c.self.invariant c.send_some.new.self c.send_some.ensures.same i old new there live

pub returns : goal.returns
unfolding process
returns c =
    let n = c.self.inside in
    let i = c.in-Some.i in
    let old = c.index_mut.result.now in
    let new = c.take.new.self in
    let N = length (nodes_held n).network.nodes in
    let to : receiver n.lanes.wires c.args.line ≡ Some (Link c.args.node c.args.link) = rw (← c.self.view_is) at c.requires in
    let below : i < length n.nodes.items = omega (arith, c.len.ensures, n.nodes.ok.0, c.in-Some.ensures.1) in
    let there = slice_get_read n.nodes.items (length n.nodes.items) i old refl below c.index_mut.ensures.value in
    let was = c.self.invariant.live i old there in
    let tokens = on_link c.args.link c.in-Ok.answer in
    let did = takes_ok _ _ c.args.link old.live new.live c.in-Ok.answer c.in-Ok.ensures.takes in
    let live : IsLive new = record { bytes = (node_took old.live c.args.link c.args.token (new.live, tokens) was.bytes (carries c.args.token c.carries_byte.ensures) did).0; thawed = c.in-Ok.ensures.kept ∙ was.thawed } in
    let change = node_takes n.lanes.wires N c.args.line c.args.node c.args.link c.args.token old.live new.live tokens to did in
    let back : c.link_line.result ≡ 4 * (n.before + i) + c.args.link = omega (arith, c.link_line.ensures, c.from.ensures, c.from-2.ensures, c.in-Some.ensures.0) in
    rw (← c.self.view_is) (node_did n c.self.invariant c.send_some.new.self c.send_some.ensures.same i old new there live (Take c.args.line c.args.token) c.send_some.result tokens
    (ap (process_at N) to ∙ c.in-Some.ensures.0)
    (subst (λ k. does t414 n.lanes.wires N (Take c.args.line c.args.token) (OfNode old.live) ≡ Some (of_node k (new.live, tokens))) c.in-Some.ensures.0 change)
    (rw (back, answer_on (n.before + i) c.args.link c.in-Ok.answer) at c.send_some.ensures.sends))
