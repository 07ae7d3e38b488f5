use Rattle.std.proofs.Common.{◌≡◌, ◌<◌, ◌^◌, ◌∙◌, ℕ, List, Option, Some, Bor, arith, refl, sym, ap}
use Rattle.tp_words.proofs.Lower.{decimal, option_map}
use Rattle.tp_words.specs.Given.{given}
use Rattle.tp_words.specs.Numbers.{NumberOption}
use Rattle.tp_words.proofs.OfNumbers.{unfit_none, unfit_some}
use Rattle.tp_words.proofs.Texts.{if_some}
use Rattle.tp_words.proofs.found.option_number.Goals as goal
use Rattle.tp_words.proofs.found.option_number.Goals.{in_default-2-via-in-Some-2+then-least-number+else-number-most, in_default-2-via-in-Some-2+else-least-number, in_default-2-via-in_default-2}

pub returns-in_default-2-clause-refused : goal.returns-in_default-2-clause-refused
returns-in_default-2-clause-refused c =
    let words = c.args.words.now in
    let option : NumberOption = record { id = c.args.id.now; least = c.args.least; most = c.args.most } in
    let text = c.in-Some.text.now in
    let typed : given c.args.id.now words ≡ Some text =
    sym c.in_ok-text.ensures ∙ ap (λ (o : Option (Bor (List ℕ))). option_map (λ (t : Bor (List ℕ)). t.now) o) c.in-Some.is in
    let low : c.args.most < 2 ^ 64 = omega arith in (
      refl,
      elim c.in_default-2.branch [
        | in_default-2-via-in-Some-2+then-least-number+else-number-most w ↦
            let number = w.in-Some-2.number in
            let small = if_some (λ (number : ℕ). number < 2 ^ 64) c.in_ok-number.field-0 number c.in_ok-number.ensures.small w.in-Some-2.is in
            let spelt = if_some (λ (number : ℕ). text ≡ decimal number) c.in_ok-number.field-0 number c.in_ok-number.ensures.some w.in-Some-2.is in
            let high = w.if-number-most.false in
            unfit_some words option text number typed low small spelt (λ takes. let most = takes.1 in omega (arith, most, high))
        | in_default-2-via-in-Some-2+else-least-number w ↦
            let number = w.in-Some-2.number in
            let small = if_some (λ (number : ℕ). number < 2 ^ 64) c.in_ok-number.field-0 number c.in_ok-number.ensures.small w.in-Some-2.is in
            let spelt = if_some (λ (number : ℕ). text ≡ decimal number) c.in_ok-number.field-0 number c.in_ok-number.ensures.some w.in-Some-2.is in
            let less = w.if-least-number.false in
            unfit_some words option text number typed low small spelt (λ takes. let least = takes.0 in omega (arith, least, less))
        | in_default-2-via-in_default-2 w ↦ unfit_none words option text typed low (c.in_ok-number.ensures.none w.in_default-2.is)
      ],
    )
