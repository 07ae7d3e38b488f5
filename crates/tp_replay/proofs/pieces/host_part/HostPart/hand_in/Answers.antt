use Rattle.std.proofs.Common.{◌≡◌, ◌+◌, ◌*◌, ◌<◌, length, refl, sym, ◌∙◌, arith}
use Rattle.tp_replay.proofs.Lower.{slice_get_read, HostIn, process, handed_in}
use Rattle.tp_replay.specs.HostInside.{host_held}
use Rattle.tp_replay.proofs.Acts.{port_hands, same_item}
use Rattle.tp_replay.proofs.AtPorts.{port_nowhere, port_cannot, port_did, changed_inside}
use Rattle.tp_replay.proofs.pieces.host_part.HostPart.hand_in.Goals as goal

pub returns-then-i-len : goal.returns-then-i-len
unfolding process
returns-then-i-len c =
    let h = c.self.inside in
    let N = length (host_held h).network.nodes in
    rw (← c.self.view_is) (port_nowhere h c.self.invariant (HostIn c.args.port c.args.byte) c.args.port (handed_in c.args.byte) refl
    (port_hands h.lanes.wires N c.args.port c.args.byte (host_held h).network.ports) (omega (arith, h.ports.ok.0)))

pub returns-then-not-has_room : goal.returns-then-not-has_room
unfolding process
returns-then-not-has_room c =
    let h = c.self.inside in
    let N = length (host_held h).network.nodes in
    let below : c.args.port < length h.ports.items = omega (arith, h.ports.ok.0) in
    let at = slice_get_read h.ports.items (length h.ports.items) c.args.port c.index.result.now refl below c.index.ensures in
    rw (← c.self.view_is) (port_cannot h c.self.invariant (HostIn c.args.port c.args.byte) c.args.port c.index.result.now (handed_in c.args.byte) refl
    (port_hands h.lanes.wires N c.args.port c.args.byte (host_held h).network.ports) at (sym (c.has_room.ensures.value c.args.byte) ∙ c.if-not-has_room.true))

pub hand_in-token-requires : goal.hand_in-token-requires
hand_in-token-requires c =
    let h = c.self.inside in
    let below : c.args.port < length h.ports.items = omega (arith, h.ports.ok.0) in
    let at = slice_get_read h.ports.items (length h.ports.items) c.args.port c.index.result.now refl below c.index.ensures in
    let there = slice_get_read h.ports.items (length h.ports.items) c.args.port c.index_mut.result.now refl below c.index_mut.ensures.value in
    rw (← same_item h.ports.items c.args.port c.index.result.now c.index_mut.result.now at there) (record { room = c.has_room.ensures.room c.if-not-has_room.false })

pub invariant_of-self : goal.invariant_of-self
invariant_of-self c = changed_inside c.self.inside c.self.invariant c.send_some.new.self c.send_some.ensures.same c.args.port c.hand_in-token.new.self

pub returns : goal.returns
unfolding process
returns c =
    let h = c.self.inside in
    let N = length (host_held h).network.nodes in
    let below : c.args.port < length h.ports.items = omega (arith, h.ports.ok.0) in
    let there = slice_get_read h.ports.items (length h.ports.items) c.args.port c.index_mut.result.now refl below c.index_mut.ensures.value in
    let line : c.port_line.result ≡ 4 * h.nodes + c.args.port = omega (arith, c.port_line.ensures) in
    rw (← c.self.view_is) (port_did h c.self.invariant c.send_some.new.self c.send_some.ensures.same c.args.port c.hand_in-token.new.self (HostIn c.args.port c.args.byte) c.send_some.result c.index_mut.result.now
    c.hand_in-token.result c.port_line.result (handed_in c.args.byte) refl (port_hands h.lanes.wires N c.args.port c.args.byte (host_held h).network.ports) there c.hand_in-token.ensures.handed line c.send_some.ensures.sends)
