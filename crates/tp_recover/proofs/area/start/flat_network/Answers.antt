use Rattle.std.proofs.Common.{◌∙◌, ap, sym, subst, map}
use Rattle.tp_recover.proofs.Lower.{port_made, opened_port, IsFlat}
use Rattle.tp_recover.proofs.Starts.{network_again, thawed_at}
use Rattle.tp_recover.proofs.area.start.flat_network.Goals as goal

pub new-requires-clause-flat : goal.new-requires-clause-flat
new-requires-clause-flat c =
    subst IsFlat
    (sym (network_again c.args.cut c.args.wires.now c.in_ok-wires.wires.items c.in_ok-lines.lines c.in_ok-ports.ports.items c.in_ok-wires.ensures.items
    (c.in_ok-lines.ensures ∙ ap (map (λ line. line.items)) c.deref.ensures.value)
    (c.in_ok-ports.ensures ∙ ap (map (λ port. opened_port (port_made port))) c.deref-2.ensures.value)))
    c.requires.flat

pub new-requires-clause-thawed : goal.new-requires-clause-thawed
new-requires-clause-thawed c = thawed_at c.args.cut.nodes.items c.requires.thawed

pub returns : goal.returns
returns c =
    c.new.ensures
    ∙ network_again c.args.cut c.args.wires.now c.in_ok-wires.wires.items c.in_ok-lines.lines c.in_ok-ports.ports.items c.in_ok-wires.ensures.items
    (c.in_ok-lines.ensures ∙ ap (map (λ line. line.items)) c.deref.ensures.value)
    (c.in_ok-ports.ensures ∙ ap (map (λ port. opened_port (port_made port))) c.deref-2.ensures.value)
