use Rattle.std.proofs.Common.{◌∙◌, ◌++◌, ◌∷◌, [], codes, string_bytes}
use Rattle.tp_views.specs.Fields.{After, Flag, Name, Named, Number, Rate, fields_text}
use Rattle.tp_views.proofs.Joined.{on_ok}
use Rattle.tp_views.proofs.text.status_text.push_front.Goals as goal

pub returns : goal.returns
returns c =
    on_ok _ _ c.push_fields.result
    (λ told. told
    ∙ (λ i. string_bytes c.args.text.now ++ fields_text c.args.json (After (codes "running ") (codes "{\"running\":") (Flag c.args.held)
    ∷ Named (codes "generation") (Number c.args.generation) ∷ Named (codes "form") (Name (c.form_name-form.ensures i)) ∷ Named (codes "next") (Number c.args.next)
    ∷ After [] (codes ",\"next_per_second\":") (Rate (c.rate-grew.ensures i)) ∷ [])))
    c.push_fields.ensures
