use Rattle.std.proofs.Common.{arith, sym, refl, ◌∙◌, []}
use Rattle.tp_replay.proofs.Lower.{Confirm, confirmed, sent}
use Rattle.tp_replay.specs.Inside.{replay_state}
use Rattle.tp_replay.proofs.Applied.{refused, applied, nowhere, cannot, port_count, port_at, port_inside, port_next}
use Rattle.tp_replay.proofs.Impossible.{confirm_none}
use Rattle.tp_replay.proofs.Steps.{confirm_step}
use Rattle.tp_replay.proofs.network.FlatNetwork.confirm.Goals as goal

pub returns-then-i-len-clause-applies : goal.returns-then-i-len-clause-applies
returns-then-i-len-clause-applies c =
    let n = c.self.inside in
    rw (← c.self.view_is) (refused _ _ _ (confirm_none (replay_state n) c.args.port c.args.upto
    (nowhere (replay_state n).ports c.args.port (confirmed c.args.upto) (omega (arith, port_count n c.self.invariant, n.ports.ok.0)))))

pub returns-then-not-can_confirm-clause-applies : goal.returns-then-not-can_confirm-clause-applies
returns-then-not-can_confirm-clause-applies c =
    let n = c.self.inside in
    let at = port_at n c.self.invariant c.args.port c.index.result.now (omega (arith, n.ports.ok.0)) c.index.ensures in
    rw (← c.self.view_is) (refused _ _ _ (confirm_none (replay_state n) c.args.port c.args.upto
    (cannot (replay_state n).ports c.args.port c.index.result.now.port (confirmed c.args.upto) at (sym c.can_confirm.ensures ∙ c.if-not-can_confirm.true))))

pub invariant_of-self : goal.invariant_of-self
unfolding sent
invariant_of-self c =
    let n = c.self.inside in
    let at = port_at n c.self.invariant c.args.port c.index_mut.result.now (omega (arith, n.ports.ok.0)) c.index_mut.ensures.value in
    let S = confirm_step (replay_state n) c.args.port c.args.upto c.index_mut.result.now.port c.confirm.new.self.port [] at c.confirm.ensures.confirmed in
    port_inside n c.self.invariant (Confirm c.args.port c.args.upto) n.lines c.args.port c.confirm.new.self [] S n.lines refl tt

pub returns-clause-applies : goal.returns-clause-applies
unfolding sent
returns-clause-applies c =
    let n = c.self.inside in
    let at = port_at n c.self.invariant c.args.port c.index_mut.result.now (omega (arith, n.ports.ok.0)) c.index_mut.ensures.value in
    let S = confirm_step (replay_state n) c.args.port c.args.upto c.index_mut.result.now.port c.confirm.new.self.port [] at c.confirm.ensures.confirmed in
    rw (← c.self.view_is) (applied _ _ (port_next n c.self.invariant (Confirm c.args.port c.args.upto) n.lines c.args.port c.confirm.new.self [] S n.lines refl))
