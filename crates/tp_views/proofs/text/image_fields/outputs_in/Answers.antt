use Rattle.std.proofs.Common.{◌∙◌, ◌∷◌, [], sym}
use Rattle.tp_views.proofs.Lower.{out_end_at, four_ends_apart}
use Rattle.tp_views.proofs.text.image_fields.outputs_in.Goals as goal

pub returns : goal.returns
returns c =
    (λ i. c.output_in.ensures i ∷ c.output_in-2.ensures i ∷ c.output_in-3.ensures i ∷ c.output_in-4.ensures i ∷ [])
    ∙ sym (four_ends_apart out_end_at 44 c.args.image.now)
