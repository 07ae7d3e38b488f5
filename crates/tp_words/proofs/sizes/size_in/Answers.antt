use Rattle.std.proofs.Common.{◌≡◌, ◌<◌, ◌*◌, ◌^◌, ◌++◌, ◌∙◌, ℕ, List, arith, ap}
use Rattle.std.specs.Fmt.{decimal}
use Rattle.tp_words.proofs.OfSizes.{other_before}
use Rattle.tp_words.proofs.Texts.{if_some}
use Rattle.tp_words.proofs.sizes.size_in.Goals as goal

pub returns-in_default-checked_mul-clause-none : goal.returns-in_default-checked_mul-clause-none
returns-in_default-checked_mul-clause-none c = λ none.
    let number = c.in-Some.number in
    let letters = c.letter.result.now in
    let both = if_some (λ (number : ℕ). (number < 2 ^ 64) × (c.args.text.now ≡ decimal number ++ letters)) c.in_ok-number.field-0 number c.in_ok-number.ensures.some c.in-Some.is in
    let low = c.ranges.most.fits in
    let each = ap (λ (each : ℕ). number * each) c.bytes_each.ensures in
    let size = c.in-Some-checked_mul.ensures in
    let more = c.if-size-most.false in
    other_before c.args.measure c.args.text.now c.args.most number (omega (arith, low)) both.0 (both.1 ∙ ap (λ (l : List ℕ). decimal number ++ l) c.letter.ensures)
    (λ few. let is = size.1 in omega (arith, more, is, each, few))

pub returns-in_default-checked_mul-2-clause-none : goal.returns-in_default-checked_mul-2-clause-none
returns-in_default-checked_mul-2-clause-none c = λ none.
    let number = c.in-Some.number in
    let letters = c.letter.result.now in
    let both = if_some (λ (number : ℕ). (number < 2 ^ 64) × (c.args.text.now ≡ decimal number ++ letters)) c.in_ok-number.field-0 number c.in_ok-number.ensures.some c.in-Some.is in
    let low = c.ranges.most.fits in
    let each = ap (λ (each : ℕ). number * each) c.bytes_each.ensures in
    let size = c.in_default-checked_mul.ensures in
    other_before c.args.measure c.args.text.now c.args.most number (omega (arith, low)) both.0 (both.1 ∙ ap (λ (l : List ℕ). decimal number ++ l) c.letter.ensures)
    (λ few. size (omega (arith, each, few, low)))
