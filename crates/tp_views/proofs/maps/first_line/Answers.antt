use Rattle.std.proofs.Common.{◌∷◌, ◌+◌, take, sym, ap, ◌∙◌}
use Rattle.std.specs.Prelude.{◌==◌}
use Rattle.tp_views.proofs.Lower.{slice_split, slice_split-none, slice_split-some}
use Rattle.tp_views.proofs.Mapped.{behind}
use Rattle.tp_views.proofs.maps.first_line.Goals as goal

pub returns-in-Some-clause-cut : goal.returns-in-Some-clause-cut
returns-in-Some-clause-cut c =
    slice_split-some (λ byte. byte == 10) c.args.text.now c.in-Some.at 0 (sym c.place_of.ensures.value ∙ c.in-Some.is)
    ∙ ap (λ rest. take c.in-Some.at c.args.text.now ∷ slice_split (λ byte. byte == 10) rest) (sym (behind c.args.text.now (c.in-Some.at + 1)))

pub returns-in-None-clause-cut : goal.returns-in-None-clause-cut
returns-in-None-clause-cut c = slice_split-none (λ byte. byte == 10) c.args.text.now (sym c.place_of.ensures.value ∙ c.in-None.is)
