use Rattle.std.proofs.Common.{◌∙◌, Ok, Err, Result, IfOk}
use Rattle.tp_model.specs.Image.{node_at}
use Rattle.tp_views.specs.Maps.{rows_seen}
use Rattle.tp_views.specs.NodeText.{node_of_parts}
use Rattle.tp_views.proofs.text.registers.node_text.Goals as goal

if_ok : {T E : Type 0} (P Q : T → Type 0) (r : Result T E) → ((x : T) → P x → Q x) → IfOk r P → IfOk r Q
if_ok P Q (Ok x) turn h = turn x h
if_ok P Q (Err e) turn h = h

pub returns : goal.returns
unfolding node_at
returns c =
    if_ok _ _ c.node_of_parts.result
    (λ text is. is ∙ (λ i. node_of_parts c.args.json (rows_seen c.args.rows.now) c.args.number (c.pages_in-pages.ensures i) (c.cpu_in-cpu.ensures i) (c.outputs_in-outputs.ensures i) (c.inputs_in-inputs.ensures i)))
    c.node_of_parts.ensures
