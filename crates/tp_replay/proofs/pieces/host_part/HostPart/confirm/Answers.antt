use Rattle.std.proofs.Common.{◌+◌, ◌*◌, ◌<◌, length, refl, sym, ◌∙◌, arith, None, true}
use Rattle.tp_replay.proofs.Lower.{slice_get_read, Confirm, sent, process, confirmed}
use Rattle.tp_replay.specs.HostInside.{host_held}
use Rattle.tp_replay.proofs.Acts.{port_confirms}
use Rattle.tp_replay.proofs.AtPorts.{port_nowhere, port_cannot, port_did, changed_inside}
use Rattle.tp_replay.proofs.pieces.host_part.HostPart.confirm.Goals as goal

pub returns-then-i-len : goal.returns-then-i-len
unfolding process
returns-then-i-len c =
    let h = c.self.inside in
    let N = length (host_held h).network.nodes in
    rw (← c.self.view_is) (port_nowhere h c.self.invariant (Confirm c.args.port c.args.upto) c.args.port (confirmed c.args.upto) refl
    (port_confirms h.lanes.wires N c.args.port c.args.upto (host_held h).network.ports) (omega (arith, h.ports.ok.0)))

pub returns-then-not-can_confirm : goal.returns-then-not-can_confirm
unfolding process
returns-then-not-can_confirm c =
    let h = c.self.inside in
    let N = length (host_held h).network.nodes in
    let below : c.args.port < length h.ports.items = omega (arith, h.ports.ok.0) in
    let at = slice_get_read h.ports.items (length h.ports.items) c.args.port c.index.result.now refl below c.index.ensures in
    rw (← c.self.view_is) (port_cannot h c.self.invariant (Confirm c.args.port c.args.upto) c.args.port c.index.result.now (confirmed c.args.upto) refl
    (port_confirms h.lanes.wires N c.args.port c.args.upto (host_held h).network.ports) at (sym c.can_confirm.ensures ∙ c.if-not-can_confirm.true))

pub invariant_of-self : goal.invariant_of-self
invariant_of-self c = changed_inside c.self.inside c.self.invariant c.self.inside.lanes (record { wires = refl; count = refl }) c.args.port c.confirm.new.self

pub returns : goal.returns
unfolding process sent
returns c =
    let h = c.self.inside in
    let N = length (host_held h).network.nodes in
    let below : c.args.port < length h.ports.items = omega (arith, h.ports.ok.0) in
    let there = slice_get_read h.ports.items (length h.ports.items) c.args.port c.index_mut.result.now refl below c.index_mut.ensures.value in
    rw (← c.self.view_is) (port_did h c.self.invariant h.lanes (record { wires = refl; count = refl }) c.args.port c.confirm.new.self (Confirm c.args.port c.args.upto) true c.index_mut.result.now
    None (4 * h.nodes + c.args.port) (confirmed c.args.upto) refl (port_confirms h.lanes.wires N c.args.port c.args.upto (host_held h).network.ports) there c.confirm.ensures.confirmed refl refl)
