use Rattle.std.proofs.Common.{◌≡◌, ◌+◌, ◌*◌, ◌<◌, length, option_to_list, arith, sym, ◌∙◌}
use Rattle.tp_replay.proofs.Lower.{HostIn, handed_in, sends_on-tokens}
use Rattle.tp_replay.specs.Inside.{replay_state}
use Rattle.tp_replay.proofs.Applied.{refused, applied, nowhere, cannot, port_count, port_at, line_known, line_there, same_item, room, port_inside, port_next}
use Rattle.tp_replay.proofs.Impossible.{hand_in_none}
use Rattle.tp_replay.proofs.Steps.{hand_in_step}
use Rattle.tp_replay.proofs.network.FlatNetwork.hand_in.Goals as goal

pub returns-then-i-len-clause-applies : goal.returns-then-i-len-clause-applies
returns-then-i-len-clause-applies c =
    let n = c.self.inside in
    rw (← c.self.view_is) (refused _ _ _ (hand_in_none (replay_state n) c.args.port c.args.byte
    (nowhere (replay_state n).ports c.args.port (handed_in c.args.byte) (omega (arith, port_count n c.self.invariant, n.ports.ok.0)))))

pub returns-then-not-has_room-clause-applies : goal.returns-then-not-has_room-clause-applies
returns-then-not-has_room-clause-applies c =
    let n = c.self.inside in
    let at = port_at n c.self.invariant c.args.port c.index.result.now (omega (arith, n.ports.ok.0)) c.index.ensures in
    rw (← c.self.view_is) (refused _ _ _ (hand_in_none (replay_state n) c.args.port c.args.byte
    (cannot (replay_state n).ports c.args.port c.index.result.now.port (handed_in c.args.byte) at (sym (c.has_room.ensures.value c.args.byte) ∙ c.if-not-has_room.true))))

pub hand_in-token-requires : goal.hand_in-token-requires
hand_in-token-requires c =
    let n = c.self.inside in
    let same = same_item n.ports.items c.args.port c.index.result.now c.index_mut.result.now (omega (arith, n.ports.ok.0)) c.index.ensures c.index_mut.ensures.value in
    rw (← same) (record { room = c.has_room.ensures.room c.if-not-has_room.false })

pub send_some-requires : goal.send_some-requires
send_some-requires c =
    let n = c.self.inside in
    let below : c.args.port < length n.ports.items = omega (arith, n.ports.ok.0) in
    let at = port_at n c.self.invariant c.args.port c.index_mut.result.now below c.index_mut.ensures.value in
    let S = hand_in_step (replay_state n) c.args.port c.args.byte c.index_mut.result.now.port c.hand_in-token.new.self.port (option_to_list c.hand_in-token.result) at c.hand_in-token.ensures.handed in
    let line : c.port_line-line.result ≡ 4 * length (replay_state n).nodes + c.args.port = rw (← c.self.view_is) at c.port_line-line.ensures in
    record {
      wired = rw c.deref.ensures.value (line_known n c.self.invariant c.args.port _ below line);
      there = line_there n c.self.invariant c.args.port _ below line;
      room = rw (c.deref.ensures.value, line, sends_on-tokens _ c.hand_in-token.result) (room n c.self.invariant (HostIn c.args.port c.args.byte) n.lines _ _ S);
    }

pub invariant_of-self : goal.invariant_of-self
invariant_of-self c =
    let n = c.self.inside in
    let below : c.args.port < length n.ports.items = omega (arith, n.ports.ok.0) in
    let at = port_at n c.self.invariant c.args.port c.index_mut.result.now below c.index_mut.ensures.value in
    let S = hand_in_step (replay_state n) c.args.port c.args.byte c.index_mut.result.now.port c.hand_in-token.new.self.port (option_to_list c.hand_in-token.result) at c.hand_in-token.ensures.handed in
    let line : c.port_line-line.result ≡ 4 * length (replay_state n).nodes + c.args.port = rw (← c.self.view_is) at c.port_line-line.ensures in
    let on = rw (c.deref.ensures.value, line, sends_on-tokens _ c.hand_in-token.result) at c.send_some.ensures in
    port_inside n c.self.invariant (HostIn c.args.port c.args.byte) n.lines c.args.port c.hand_in-token.new.self (option_to_list c.hand_in-token.result) S c.send_some.new.lines on tt

pub returns-clause-applies : goal.returns-clause-applies
returns-clause-applies c =
    let n = c.self.inside in
    let below : c.args.port < length n.ports.items = omega (arith, n.ports.ok.0) in
    let at = port_at n c.self.invariant c.args.port c.index_mut.result.now below c.index_mut.ensures.value in
    let S = hand_in_step (replay_state n) c.args.port c.args.byte c.index_mut.result.now.port c.hand_in-token.new.self.port (option_to_list c.hand_in-token.result) at c.hand_in-token.ensures.handed in
    let line : c.port_line-line.result ≡ 4 * length (replay_state n).nodes + c.args.port = rw (← c.self.view_is) at c.port_line-line.ensures in
    let on = rw (c.deref.ensures.value, line, sends_on-tokens _ c.hand_in-token.result) at c.send_some.ensures in
    rw (← c.self.view_is) (applied _ _ (port_next n c.self.invariant (HostIn c.args.port c.args.byte) n.lines c.args.port c.hand_in-token.new.self (option_to_list c.hand_in-token.result) S c.send_some.new.lines on))
