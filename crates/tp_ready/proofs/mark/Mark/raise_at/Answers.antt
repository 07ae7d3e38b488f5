use Rattle.std.proofs.Common.{◌≡◌, rules, max, sym, ap, ◌∙◌, arith}
use Rattle.tp_ready.specs.Seen.{number_of}
use Rattle.tp_ready.specs.declared.mark_view.View.{View}
use Rattle.tp_ready.proofs.Steps.{number_of-append, raises}
use Rattle.tp_ready.proofs.mark.Mark.raise_at.Goals as goal

pub fetch_max-found-requires : goal.fetch_max-found-requires
fetch_max-found-requires g c = (search rules, omega (arith, c.self.invariant), raises _ _ _ _ _ c.raiser.invariant.0)

pub invariant_of-raiser : goal.invariant_of-raiser
invariant_of-raiser g c =
    let me = c.raiser.inside.place.me.0 in
    let E = c.fetch_max-found.ensures.2 in
    let seen = E.0.1 in
    let number : c.max-raiser-inside.result ≡ max me.at c.args.to = omega (arith, c.max-raiser-inside.ensures, E.0.0) in (
      ap (λ (v : View). v.raises) seen ∙ c.raiser.invariant.0,
      ap (λ (v : View). v.at) seen ∙ sym number,
      E.1 ∙ c.raiser.invariant.2,
      number ∙ sym (number_of-append me.rises (record { to = max me.at c.args.to; moment = g.A.Dated.moment })) ∙ ap (λ (v : View). number_of v.rises) (sym seen),
    )
