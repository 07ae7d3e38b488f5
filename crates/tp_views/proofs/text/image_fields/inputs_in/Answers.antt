use Rattle.std.proofs.Common.{◌∙◌, ◌∷◌, [], sym}
use Rattle.tp_views.proofs.Lower.{in_end_at, four_ends_apart}
use Rattle.tp_views.proofs.text.image_fields.inputs_in.Goals as goal

pub returns : goal.returns
returns c =
    (λ i. c.input_in.ensures i ∷ c.input_in-2.ensures i ∷ c.input_in-3.ensures i ∷ c.input_in-4.ensures i ∷ [])
    ∙ sym (four_ends_apart in_end_at 108 c.args.image.now)
