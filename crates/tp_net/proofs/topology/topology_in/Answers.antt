use Rattle.std.proofs.Common.{◌≡◌, ◌∙◌, Ok, sym, ap, subst, inl, inr, rules}
use Rattle.tp_net.proofs.Lower.{lines, nothing_said, read_lines}
use Rattle.tp_net.specs.Steps.{IsRead}
use Rattle.tp_net.proofs.Reading.{IsRead-fault, read_text-fault, read_text-said}
use Rattle.tp_net.proofs.Shapes.{shape_of_lines}
use Rattle.tp_net.proofs.topology.topology_in.Goals as goal

pub finish-requires : goal.finish-requires
finish-requires c =
    let said : read_lines nothing_said 1 (lines c.args.text.now) ≡ Ok c.declare.new.declared = ap (λ said. read_lines said 1 (lines c.args.text.now)) (sym c.requires) ∙ c.in_ok-declare.ensures in
    shape_of_lines (lines c.args.text.now) c.declare.new.declared said

pub returns-in_err-declare-clause-topology : goal.returns-in_err-declare-clause-topology
returns-in_err-declare-clause-topology c =
    IsRead-fault _ c.from_residual.result c.in_err-declare.field-0.0 (search rules)
    (elim c.in_err-declare.ensures [
      | inl memory ↦ inl memory
      | inr fault ↦ inr (read_text-fault c.args.text.now c.in_err-declare.field-0.0 (ap (λ said. read_lines said 1 (lines c.args.text.now)) (sym c.requires) ∙ fault))
    ])

pub returns-clause-topology : goal.returns-clause-topology
returns-clause-topology c =
    let said : read_lines nothing_said 1 (lines c.args.text.now) ≡ Ok c.declare.new.declared = ap (λ said. read_lines said 1 (lines c.args.text.now)) (sym c.requires) ∙ c.in_ok-declare.ensures in
    subst (λ want. IsRead want c.finish.result) (sym (read_text-said c.args.text.now c.declare.new.declared said)) c.finish.ensures
