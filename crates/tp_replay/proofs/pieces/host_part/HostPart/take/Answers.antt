use Rattle.std.proofs.Common.{◌≡◌, length, sym, ap, ◌∙◌, Some, None}
use Rattle.tp_replay.proofs.Lower.{Take, receiver, process_at, process}
use Rattle.tp_model.specs.declared.wire.WireEnd.TheVariants.{Port}
use Rattle.tp_replay.specs.HostInside.{host_held}
use Rattle.tp_replay.proofs.Acts.{linked_takes, unwired_takes}
use Rattle.tp_replay.proofs.AtPorts.{cannot, node_entry}
use Rattle.tp_replay.proofs.pieces.host_part.HostPart.take.Goals as goal

pub returns-in-None : goal.returns-in-None
unfolding process
returns-in-None c =
    let h = c.self.inside in
    let N = length (host_held h).network.nodes in
    let to : receiver h.lanes.wires c.args.line ≡ None = ap (receiver h.lanes.wires) (sym c.from.ensures) ∙ sym c.receiver.ensures ∙ c.in-None.is in
    rw (← c.self.view_is) (cannot h c.self.invariant (Take c.args.line c.args.token) (ap (process_at N) to) (unwired_takes h.lanes.wires N c.args.line c.args.token (host_held h).network.ports to))

pub returns-in-Some-Link : goal.returns-in-Some-Link
unfolding process
returns-in-Some-Link c =
    let h = c.self.inside in
    let N = length (host_held h).network.nodes in
    let to = ap (receiver h.lanes.wires) (sym c.from.ensures) ∙ sym c.receiver.ensures ∙ c.in-Some-Link.is ∙ ap Some c.in-Some-Link.field-0-is in
    rw (← c.self.view_is) (node_entry h c.self.invariant (Take c.args.line c.args.token) c.in-Some-Link.node c.is_there.result (ap (process_at N) to)
    (linked_takes h.lanes.wires N c.args.line c.in-Some-Link.node _ c.args.token (host_held h).network.ports to) c.is_there.ensures)

pub receive-requires-clause-goes : goal.receive-requires-clause-goes
receive-requires-clause-goes c =
    let h = c.self.inside in
    let to : receiver h.lanes.wires c.args.line ≡ Some (Port c.in-Some-Port.port) = ap (receiver h.lanes.wires) (sym c.from.ensures) ∙ sym c.receiver.ensures ∙ c.in-Some-Port.is ∙ ap Some c.in-Some-Port.field-0-is in
    rw (← c.self.view_is) to
