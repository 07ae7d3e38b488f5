use Rattle.std.proofs.Common.{rules, ◌≡◌, ◌∙◌, ap, sym, subst, Err}
use Rattle.tp_recover.proofs.Lower.{Network, t414_ends, NodeState, AreCounted, IsFlat}
use Rattle.tp_recover.specs.Cuts.{network_of_cut}
use Rattle.tp_recover.proofs.CutsAreFlat.{cut_flat, cut_counted, cut_held}
use Rattle.tp_recover.proofs.Starts.{cut_unread, lines_few, pending_few, outputs_few}
use Rattle.tp_recover.proofs.Leaving.{then_leaves}
use Rattle.tp_recover.proofs.area.start.read_start.Goals as goal

pub flat_network-requires-clause-flat : goal.flat_network-requires-clause-flat
flat_network-requires-clause-flat g c =
    let t = c.args.head.now.topology in
    subst (λ wires. IsFlat (network_of_cut wires c.in_ok-cut.cut)) (sym (c.wires.ensures.value ∙ ap (λ s. s.wires) c.topology.ensures.value))
    (cut_flat t c.in_ok-front.front.base (network_of_cut t.wires c.in_ok-cut.cut) c.topology.ensures.valid (c.in_ok-cut.ensures.cut c.in_ok-front.ensures.few) c.in_ok-cut.ensures.images)

pub flat_network-requires-clause-few : goal.flat_network-requires-clause-few
flat_network-requires-clause-few g c = lines_few c.args.head.now.topology.wires c.in_ok-cut.cut.lines.items (c.in_ok-cut.ensures.cut c.in_ok-front.ensures.few).lines

pub flat_network-requires-clause-pending : goal.flat_network-requires-clause-pending
flat_network-requires-clause-pending g c =
    let t = c.args.head.now.topology in
    pending_few c.in_ok-cut.cut.ports.items (cut_held t414_ends t c.in_ok-front.front.base (network_of_cut t.wires c.in_ok-cut.cut) (c.in_ok-cut.ensures.cut c.in_ok-front.ensures.few))

pub flat_network-requires-clause-outputs : goal.flat_network-requires-clause-outputs
flat_network-requires-clause-outputs g c =
    let t = c.args.head.now.topology in
    outputs_few c.in_ok-cut.cut.ports.items (cut_held t414_ends t c.in_ok-front.front.base (network_of_cut t.wires c.in_ok-cut.cut) (c.in_ok-cut.ensures.cut c.in_ok-front.ensures.few))

pub start-replay-requires-clause-counted : goal.start-replay-requires-clause-counted
start-replay-requires-clause-counted g c =
    let t = c.args.head.now.topology in
    subst (λ (s : Network NodeState). AreCounted c.in_ok-front.front.base s.ports) (sym c.in-Ok.ensures)
    (cut_counted t414_ends t c.in_ok-front.front.base (network_of_cut t.wires c.in_ok-cut.cut) (c.in_ok-cut.ensures.cut c.in_ok-front.ensures.few))

pub returns-in_err-cut-clause-leaves : goal.returns-in_err-cut-clause-leaves
returns-in_err-cut-clause-leaves g c = then_leaves _ _ _ c.read_front.ensures.leaves c.read_cut.ensures.leaves

pub returns-in_default-clause-leaves : goal.returns-in_default-clause-leaves
returns-in_default-clause-leaves g c = then_leaves _ _ _ c.read_front.ensures.leaves c.read_cut.ensures.leaves

pub returns-clause-leaves : goal.returns-clause-leaves
returns-clause-leaves g c = then_leaves _ _ _ c.read_front.ensures.leaves c.read_cut.ensures.leaves

pub returns-in_err-cut-clause-is : goal.returns-in_err-cut-clause-is
returns-in_err-cut-clause-is g c k =
    let told : c.from_residual-in_err-cut.result ≡ Err c.in_err-cut.field-0.0 = search rules in
    cut_unread c.args.head.now c.args.second _ _ c.in_ok-front.front c.in_err-cut.field-0.0 c.from_residual-in_err-cut.result c.in_ok-front.ensures.kept (c.in_ok-front.ensures.is (c.read_cut.ensures.premise k)) (c.in_err-cut.ensures.is k) told
