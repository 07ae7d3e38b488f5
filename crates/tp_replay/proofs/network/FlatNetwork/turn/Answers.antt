use Rattle.std.proofs.Common.{◌≡◌, ◌<◌, length, arith, sym, subst, ◌∙◌}
use Rattle.tp_replay.proofs.Lower.{slice_get_past, IsFront}
use Rattle.tp_replay.specs.Inside.{replay_state}
use Rattle.tp_replay.proofs.Applied.{refused, node_count}
use Rattle.tp_replay.proofs.Impossible.{turn_nowhere, turn_uncounted, turn_behind}
use Rattle.tp_replay.proofs.Turned.{front_there}
use Rattle.tp_replay.proofs.network.FlatNetwork.turn.Goals as goal

pub returns-then-i-len-clause-applies : goal.returns-then-i-len-clause-applies
returns-then-i-len-clause-applies c =
    let n = c.self.inside in
    rw (← c.self.view_is) (refused _ _ _ (turn_nowhere (replay_state n) c.args.node c.args.takes.now c.args.count
    (slice_get_past (replay_state n).nodes c.args.node (omega (arith, node_count n c.self.invariant, n.nodes.ok.0)))))

pub returns-then-not-is_turn-clause-applies : goal.returns-then-not-is_turn-clause-applies
returns-then-not-is_turn-clause-applies c =
    rw (← c.self.view_is) (refused _ _ _ (turn_uncounted (replay_state c.self.inside) c.args.node c.args.takes.now c.args.count (sym c.is_turn.ensures ∙ c.if-not-is_turn.true)))

pub returns-then-not-are_there-clause-applies : goal.returns-then-not-are_there-clause-applies
returns-then-not-are_there-clause-applies c =
    let n = c.self.inside in
    let size : c.len-2.result ≡ length (replay_state n).nodes = omega (arith, c.len-2.ensures, node_count n c.self.invariant, n.nodes.ok.0) in
    let behind = rw (c.deref.ensures.value, size) at (sym c.are_there.ensures ∙ c.if-not-are_there.true) in
    rw (← c.self.view_is) (refused _ _ _ (turn_behind (replay_state n) c.args.node c.args.takes.now c.args.count behind))

pub turn_upto-requires : goal.turn_upto-requires
turn_upto-requires c =
    let n = c.self.inside in
    let size : c.len-2.result ≡ length (replay_state n).nodes = omega (arith, c.len-2.ensures, node_count n c.self.invariant, n.nodes.ok.0) in
    let stands = rw (c.deref.ensures.value, size) at (sym c.are_there.ensures ∙ c.if-not-are_there.false) in
    let below : c.args.node < length (replay_state n).nodes = omega (arith, node_count n c.self.invariant, n.nodes.ok.0) in
    subst (λ s. IsFront s c.args.node c.args.takes.now c.args.count) c.self.view_is
    (front_there (replay_state n) c.args.node c.args.takes.now c.args.count below (sym c.is_turn.ensures ∙ c.if-not-is_turn.false) stands)
