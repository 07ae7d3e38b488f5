-- Texts that say no size.
use Rattle.std.proofs.Common.{◌≡◌, ◌≢◌, ◌<◌, ◌≤◌, ◌*◌, ◌^◌, ◌++◌, ◌∙◌, ℕ, List, arith, subst, sym}
use Rattle.tp_words.proofs.Lower.{append_cancel_right, decimal, decimal_injective}
use Rattle.tp_words.specs.Size.{IsNoSize, IsNoSizeIn, bytes_each, letter}
use Rattle.tp_words.specs.declared.sizes.Measure.{Measure}
use Rattle.tp_words.specs.declared.sizes.Measure.TheVariants.{Bytes, Kilo, Mega, Giga}

each : (measure : Measure) (number : ℕ) → number ≤ number * bytes_each measure
each Bytes number = omega arith
each Kilo number = omega arith
each Mega number = omega arith
each Giga number = omega arith

-- no number below 2^64 is in front of the letter
pub none_before : (measure : Measure) (text : List ℕ) (most : ℕ) → most < 2 ^ 64
    → ((number : ℕ) → number < 2 ^ 64 → text ≢ decimal number ++ letter measure) → IsNoSizeIn measure text most
none_before measure text most low none = λ number few.
    let small = each measure number in
    none number (omega (arith, low, few, small))

-- this number is, and its size is more
pub other_before : (measure : Measure) (text : List ℕ) (most number : ℕ) → most < 2 ^ 64 → number < 2 ^ 64 → text ≡ decimal number ++ letter measure
    → (number * bytes_each measure ≤ most → ⊥) → IsNoSizeIn measure text most
other_before measure text most number low small spelt more = λ other few same.
    let less = each measure other in
    let one = decimal_injective number other small (omega (arith, low, few, less)) (append_cancel_right (decimal number) (decimal other) (letter measure) (sym spelt ∙ same)) in
    more (subst (λ (n : ℕ). n * bytes_each measure ≤ most) (sym one) few)

in_measure : (text : List ℕ) (most size number : ℕ) (measure : Measure) → IsNoSizeIn measure text most → size ≤ most → text ≡ decimal number ++ letter measure
    → size ≡ number * bytes_each measure → ⊥
in_measure text most size number measure none few spelt is = none number (subst (λ (n : ℕ). n ≤ most) is few) spelt

by_measure : (text : List ℕ) (most : ℕ) → IsNoSizeIn Bytes text most → IsNoSizeIn Kilo text most → IsNoSizeIn Mega text most → IsNoSizeIn Giga text most
    → (measure : Measure) → IsNoSizeIn measure text most
by_measure text most bytes kilo mega giga Bytes = bytes
by_measure text most bytes kilo mega giga Kilo = kilo
by_measure text most bytes kilo mega giga Mega = mega
by_measure text most bytes kilo mega giga Giga = giga

-- a text that says none in any measure says none
pub in_none : (text : List ℕ) (most : ℕ) → IsNoSizeIn Bytes text most → IsNoSizeIn Kilo text most → IsNoSizeIn Mega text most → IsNoSizeIn Giga text most
    → IsNoSize text most
in_none text most bytes kilo mega giga = λ size few said.
    in_measure text most size said.number said.measure (by_measure text most bytes kilo mega giga said.measure) few said.spelt said.is
