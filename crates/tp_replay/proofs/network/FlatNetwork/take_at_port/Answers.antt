use Rattle.std.proofs.Common.{◌≡◌, ◌+◌, ◌*◌, ◌<◌, length, option_to_list, arith, sym, ◌∙◌}
use Rattle.tp_replay.proofs.Lower.{Take, port_took, sends_on-tokens, carries}
use Rattle.tp_replay.specs.Inside.{replay_state}
use Rattle.tp_replay.proofs.Applied.{refused, applied, nowhere, cannot, there_is, same_item, port_count, port_at, room, port_inside, port_next}
use Rattle.tp_replay.proofs.Impossible.{port_takes_none}
use Rattle.tp_replay.proofs.Steps.{without_front, port_takes}
use Rattle.tp_replay.proofs.network.FlatNetwork.take_at_port.Goals as goal

pub returns-then-i-len-clause-applies : goal.returns-then-i-len-clause-applies
returns-then-i-len-clause-applies c =
    let n = c.self.inside in
    let to = rw (← c.self.view_is) at c.requires.goes in
    rw (← c.self.view_is) (refused _ _ _ (port_takes_none (replay_state n) c.args.line c.args.port c.args.token to
    (nowhere (replay_state n).ports c.args.port (port_took c.args.token) (omega (arith, port_count n c.self.invariant, n.ports.ok.0)))))

pub returns-then-not-can_take-clause-applies : goal.returns-then-not-can_take-clause-applies
returns-then-not-can_take-clause-applies c =
    let n = c.self.inside in
    let to = rw (← c.self.view_is) at c.requires.goes in
    let at = port_at n c.self.invariant c.args.port c.index.result.now (omega (arith, n.ports.ok.0)) c.index.ensures in
    rw (← c.self.view_is) (refused _ _ _ (port_takes_none (replay_state n) c.args.line c.args.port c.args.token to
    (cannot (replay_state n).ports c.args.port c.index.result.now.port (port_took c.args.token) at (sym c.can_take.ensures ∙ c.if-not-can_take.true))))

pub take-answer-requires-clause-possible : goal.take-answer-requires-clause-possible
take-answer-requires-clause-possible c =
    let n = c.self.inside in
    let same = same_item n.ports.items c.args.port c.index.result.now c.index_mut.result.now (omega (arith, n.ports.ok.0)) c.index.ensures c.index_mut.ensures.value in
    let can = there_is (port_took c.args.token c.index.result.now.port) (sym c.can_take.ensures ∙ c.if-not-can_take.false) in
    rw (← same) (record { after = can.0; is = can.1 })

pub take-answer-requires-clause-counted : goal.take-answer-requires-clause-counted
take-answer-requires-clause-counted c =
    let n = c.self.inside in
    let at = port_at n c.self.invariant c.args.port c.index_mut.result.now (omega (arith, n.ports.ok.0)) c.index_mut.ensures.value in
    let counted = rw (← c.self.view_is) at c.requires.counted in
    counted c.args.port c.index_mut.result.now.port at

pub send_some-requires-clause-room : goal.send_some-requires-clause-room
send_some-requires-clause-room c =
    let n = c.self.inside in
    let below : c.args.port < length n.ports.items = omega (arith, n.ports.ok.0) in
    let at = port_at n c.self.invariant c.args.port c.index_mut.result.now below c.index_mut.ensures.value in
    let to = rw (← c.self.view_is) at c.requires.goes in
    let front = rw (← c.self.view_is) at c.requires.front in
    let M = port_takes (replay_state n) c.args.line c.args.port c.args.token c.index_mut.result.now.port c.take-answer.new.self.port (option_to_list c.take-answer.result) to front at c.take-answer.ensures.took in
    let line : c.port_line-back.result ≡ 4 * length (replay_state n).nodes + c.args.port = rw (← c.self.view_is) at c.port_line-back.ensures in
    rw (c.deref.ensures.value, c.pop.ensures.after, line, sends_on-tokens _ c.take-answer.result) (room n c.self.invariant (Take c.args.line c.args.token) (without_front n.lines c.args.line) _ _ M)

pub invariant_of-self : goal.invariant_of-self
invariant_of-self c =
    let n = c.self.inside in
    let below : c.args.port < length n.ports.items = omega (arith, n.ports.ok.0) in
    let at = port_at n c.self.invariant c.args.port c.index_mut.result.now below c.index_mut.ensures.value in
    let to = rw (← c.self.view_is) at c.requires.goes in
    let front = rw (← c.self.view_is) at c.requires.front in
    let M = port_takes (replay_state n) c.args.line c.args.port c.args.token c.index_mut.result.now.port c.take-answer.new.self.port (option_to_list c.take-answer.result) to front at c.take-answer.ensures.took in
    let line : c.port_line-back.result ≡ 4 * length (replay_state n).nodes + c.args.port = rw (← c.self.view_is) at c.port_line-back.ensures in
    let on = rw (c.deref.ensures.value, c.pop.ensures.after, line, sends_on-tokens _ c.take-answer.result) at c.send_some.ensures in
    port_inside n c.self.invariant (Take c.args.line c.args.token) (without_front n.lines c.args.line) c.args.port c.take-answer.new.self (option_to_list c.take-answer.result) M c.send_some.new.lines on
    (carries c.args.token c.requires.byte)

pub returns-clause-applies : goal.returns-clause-applies
returns-clause-applies c =
    let n = c.self.inside in
    let below : c.args.port < length n.ports.items = omega (arith, n.ports.ok.0) in
    let at = port_at n c.self.invariant c.args.port c.index_mut.result.now below c.index_mut.ensures.value in
    let to = rw (← c.self.view_is) at c.requires.goes in
    let front = rw (← c.self.view_is) at c.requires.front in
    let M = port_takes (replay_state n) c.args.line c.args.port c.args.token c.index_mut.result.now.port c.take-answer.new.self.port (option_to_list c.take-answer.result) to front at c.take-answer.ensures.took in
    let line : c.port_line-back.result ≡ 4 * length (replay_state n).nodes + c.args.port = rw (← c.self.view_is) at c.port_line-back.ensures in
    let on = rw (c.deref.ensures.value, c.pop.ensures.after, line, sends_on-tokens _ c.take-answer.result) at c.send_some.ensures in
    rw (← c.self.view_is) (applied _ _ (port_next n c.self.invariant (Take c.args.line c.args.token) (without_front n.lines c.args.line) c.args.port c.take-answer.new.self (option_to_list c.take-answer.result) M c.send_some.new.lines on))
