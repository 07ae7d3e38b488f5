use Rattle.std.proofs.Common.{◌∙◌, ◌++◌, length, string_bytes}
use Rattle.tp_views.specs.Fields.{fields_text}
use Rattle.tp_views.specs.Status.{port_fields, rate}
use Rattle.tp_views.proofs.Joined.{on_ok}
use Rattle.tp_views.proofs.text.status_text.push_port.Goals as goal

pub returns : goal.returns
returns c =
    let took = c.rate-took.ensures ∙ (λ i. rate (c.accepted-now.ensures.value i) (c.accepted_before.ensures i)) in
    let gave = c.rate-gave.ensures ∙ (λ i. rate (c.put_out-out.ensures.value i) (c.out_before.ensures i)) in
    on_ok _ _ c.push_counts_of.result
    (λ told. told
    ∙ (λ i. string_bytes c.args.text.now ++ fields_text c.args.json (port_fields c.args.number (c.accepted-now.ensures.value i) (took i) (length (c.pending.ensures i)) (c.put_out-out.ensures.value i) (gave i) (length (c.outputs.ensures i)))))
    c.push_counts_of.ensures
