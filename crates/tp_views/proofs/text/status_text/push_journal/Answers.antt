use Rattle.std.proofs.Common.{◌∙◌, ◌++◌, ◌∷◌, [], codes, string_bytes}
use Rattle.tp_views.specs.Fields.{After, Named, Number, Words, fields_text}
use Rattle.tp_views.proofs.Joined.{on_ok}
use Rattle.tp_views.proofs.text.status_text.push_journal.Goals as goal

pub returns : goal.returns
returns c =
    on_ok _ _ c.push_fields.result
    (λ told. told
    ∙ (λ i. string_bytes c.args.text.now ++ fields_text c.args.json (Named (codes "entries") (Number c.args.entries) ∷ After (codes " of ") (codes ",\"room\":") (Number c.args.room)
    ∷ After (codes " (") (codes ",\"percent\":") (Number (c.percent-used.ensures i)) ∷ Words (codes " %)") (codes ",\"ports\":[") ∷ [])))
    c.push_fields.ensures
