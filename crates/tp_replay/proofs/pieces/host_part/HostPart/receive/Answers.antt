use Rattle.std.proofs.Common.{◌≡◌, ◌+◌, ◌*◌, ◌<◌, length, refl, sym, ap, ◌∙◌, arith, Some}
use Rattle.tp_replay.proofs.Lower.{slice_get_read, Take, receiver, process_at, process, port_took}
use Rattle.tp_model.specs.declared.wire.WireEnd.TheVariants.{Port}
use Rattle.tp_replay.specs.HostInside.{host_held}
use Rattle.tp_replay.proofs.Acts.{port_takes, same_item}
use Rattle.tp_replay.proofs.Applied.{there_is}
use Rattle.tp_replay.proofs.AtPorts.{port_at, port_nowhere, port_cannot, port_did, changed_inside}
use Rattle.tp_replay.proofs.pieces.host_part.HostPart.receive.Goals as goal

pub returns-then-i-len : goal.returns-then-i-len
unfolding process
returns-then-i-len c =
    let h = c.self.inside in
    let N = length (host_held h).network.nodes in
    let to : receiver h.lanes.wires c.args.line ≡ Some (Port c.args.port) = rw (← c.self.view_is) at c.requires.goes in
    rw (← c.self.view_is) (port_nowhere h c.self.invariant (Take c.args.line c.args.token) c.args.port (port_took c.args.token) (ap (process_at N) to)
    (port_takes h.lanes.wires N c.args.line c.args.port c.args.token (host_held h).network.ports to) (omega (arith, h.ports.ok.0)))

pub returns-then-not-can_take : goal.returns-then-not-can_take
unfolding process
returns-then-not-can_take c =
    let h = c.self.inside in
    let N = length (host_held h).network.nodes in
    let to : receiver h.lanes.wires c.args.line ≡ Some (Port c.args.port) = rw (← c.self.view_is) at c.requires.goes in
    let below : c.args.port < length h.ports.items = omega (arith, h.ports.ok.0) in
    let at = slice_get_read h.ports.items (length h.ports.items) c.args.port c.index.result.now refl below c.index.ensures in
    rw (← c.self.view_is) (port_cannot h c.self.invariant (Take c.args.line c.args.token) c.args.port c.index.result.now (port_took c.args.token) (ap (process_at N) to)
    (port_takes h.lanes.wires N c.args.line c.args.port c.args.token (host_held h).network.ports to) at (sym c.can_take.ensures ∙ c.if-not-can_take.true))

pub take-answer-requires-clause-possible : goal.take-answer-requires-clause-possible
take-answer-requires-clause-possible c =
    let h = c.self.inside in
    let below : c.args.port < length h.ports.items = omega (arith, h.ports.ok.0) in
    let at = slice_get_read h.ports.items (length h.ports.items) c.args.port c.index.result.now refl below c.index.ensures in
    let there = slice_get_read h.ports.items (length h.ports.items) c.args.port c.index_mut.result.now refl below c.index_mut.ensures.value in
    let same = same_item h.ports.items c.args.port c.index.result.now c.index_mut.result.now at there in
    let can = there_is (port_took c.args.token c.index.result.now.port) (sym c.can_take.ensures ∙ c.if-not-can_take.false) in
    rw (← same) (record { after = can.0; is = can.1 })

pub take-answer-requires-clause-counted : goal.take-answer-requires-clause-counted
take-answer-requires-clause-counted c =
    let h = c.self.inside in
    let below : c.args.port < length h.ports.items = omega (arith, h.ports.ok.0) in
    let there = slice_get_read h.ports.items (length h.ports.items) c.args.port c.index_mut.result.now refl below c.index_mut.ensures.value in
    let counted = rw (← c.self.view_is) at c.requires.counted in
    counted c.args.port c.index_mut.result.now.port (port_at h c.self.invariant c.args.port c.index_mut.result.now there)

pub invariant_of-self : goal.invariant_of-self
invariant_of-self c = changed_inside c.self.inside c.self.invariant c.send_some.new.self c.send_some.ensures.same c.args.port c.take-answer.new.self

pub returns : goal.returns
unfolding process
returns c =
    let h = c.self.inside in
    let N = length (host_held h).network.nodes in
    let to : receiver h.lanes.wires c.args.line ≡ Some (Port c.args.port) = rw (← c.self.view_is) at c.requires.goes in
    let below : c.args.port < length h.ports.items = omega (arith, h.ports.ok.0) in
    let there = slice_get_read h.ports.items (length h.ports.items) c.args.port c.index_mut.result.now refl below c.index_mut.ensures.value in
    let line : c.port_line.result ≡ 4 * h.nodes + c.args.port = omega (arith, c.port_line.ensures) in
    rw (← c.self.view_is) (port_did h c.self.invariant c.send_some.new.self c.send_some.ensures.same c.args.port c.take-answer.new.self (Take c.args.line c.args.token) c.send_some.result c.index_mut.result.now
    c.take-answer.result c.port_line.result (port_took c.args.token) (ap (process_at N) to) (port_takes h.lanes.wires N c.args.line c.args.port c.args.token (host_held h).network.ports to) there
    c.take-answer.ensures.took line c.send_some.ensures.sends)
