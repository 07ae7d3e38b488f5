use Rattle.std.proofs.Common.{◌≡◌, Result, Err, MatchResult, sym, subst, ◌∙◌, rules}
use Rattle.tp_net.proofs.Lower.{NetFault, read_text}
use Rattle.tp_net.specs.Steps.{IsFaultOf}
use Rattle.tp_net.proofs.Reading.{node_names-said}
use Rattle.tp_net.proofs.topology.named_in.Goals as goal

at_fault : {T : Type 0} (P : T → Type 0) (F : NetFault → Type 0) (r : Result T NetFault) (fault : NetFault) → r ≡ Err fault → F fault → MatchResult r P F
at_fault P F r fault e h = subst (λ s. MatchResult s P F) (sym e) h

pub returns-in_err-topology-clause-topology : goal.returns-in_err-topology-clause-topology
returns-in_err-topology-clause-topology c =
    at_fault _ (IsFaultOf (read_text c.args.text.now)) c.from_residual.result c.in_err-topology.field-0.0 (search rules) c.in_err-topology.ensures.topology

pub returns-clause-names : goal.returns-clause-names
returns-clause-names c = c.in-Ok.ensures ∙ sym (node_names-said c.args.text.now c.topology_in.new.declared c.in_ok-topology.ensures.declared)
