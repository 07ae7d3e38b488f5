-- What was typed for options that take numbers.
use Rattle.std.proofs.Common.{◌≡◌, ◌≢◌, ◌<◌, ◌^◌, ◌∙◌, ℕ, List, Option, Some, IsSomeAnd, arith, sym, subst}
use Rattle.tp_words.proofs.Lower.{decimal_injective, decimal, Global, String}
use Rattle.tp_words.specs.Given.{given}
use Rattle.tp_words.specs.Numbers.{IsUnfit, NumberOption, Takes}

abbrev FitsNot : NumberOption → List ℕ → Type 0
FitsNot option text = (number : ℕ) → Takes option number → text ≢ decimal number

-- what was typed doesn't fit if it is the decimal of no number
pub unfit_none : (words : List (String Global)) (option : NumberOption) (text : List ℕ) → given option.id words ≡ Some text → option.most < 2 ^ 64
    → ((number : ℕ) → number < 2 ^ 64 → text ≢ decimal number) → IsUnfit words option
unfit_none words option text typed low none =
    subst (λ (text : Option (List ℕ)). IsSomeAnd text (FitsNot option)) (sym typed) (λ number takes. none number (let most = takes.1 in omega (arith, low, most)))

-- nor if it is that of a number that the option doesn't take
pub unfit_some : (words : List (String Global)) (option : NumberOption) (text : List ℕ) (number : ℕ) → given option.id words ≡ Some text → option.most < 2 ^ 64 → number < 2 ^ 64
    → text ≡ decimal number → (Takes option number → ⊥) → IsUnfit words option
unfit_some words option text number typed low small spelt out =
    subst (λ (text : Option (List ℕ)). IsSomeAnd text (FitsNot option)) (sym typed)
    (λ other takes same.
    let most = takes.1 in
    let one = decimal_injective number other small (omega (arith, low, most)) (sym spelt ∙ same) in
    out (subst (λ (n : ℕ). Takes option n) (sym one) takes))
