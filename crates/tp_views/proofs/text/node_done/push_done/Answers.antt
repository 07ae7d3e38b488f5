use Rattle.std.proofs.Common.{◌∙◌, ◌++◌, string_bytes}
use Rattle.tp_views.specs.Fields.{fields_text}
use Rattle.tp_views.specs.NodeDone.{counts_fields}
use Rattle.tp_views.proofs.Joined.{joined_three, on_ok}
use Rattle.tp_views.proofs.text.node_done.push_done.Goals as goal

pub returns : goal.returns
returns c =
    let counted = c.in_ok-push_counts.ensures
    ∙ (λ i. string_bytes c.args.text.now ++ fields_text c.args.json (counts_fields c.args.base (c.total-entries.ensures i) (c.total-steps.ensures i))) in
    on_ok _ _ c.push_fields.result (λ last. joined_three _ _ _ _ _ _ _ counted c.in_ok-push_links.ensures last) c.push_fields.ensures
