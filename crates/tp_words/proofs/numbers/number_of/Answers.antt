use Rattle.std.proofs.Common.{◌≡◌, ℕ, Bool, true, false, not, List, nat_eq, sym, ap, ◌∙◌}
use Rattle.tp_words.proofs.Lower.{parse-decimal, bytes_eq-Decides, pointwise}
use Rattle.tp_words.proofs.numbers.number_of.Goals as goal

pub returns-in_default-clause-none : goal.returns-in_default-clause-none
returns-in_default-clause-none c = λ none number small spelt.
    let read = parse-decimal 64 number c.args.text.now c.parse.result small small spelt (c.parse.ensures.value.0) in
    let both = sym c.in_default.is ∙ read in
    absurd (cc)

apart : (a b : List ℕ) (r : Bool) → r ≡ not (pointwise nat_eq a b) → r ≡ true → a ≡ b → ⊥
apart a b r is holds same =
    let equal = (bytes_eq-Decides a b).1 same in
    let bad : true ≡ false = sym holds ∙ is ∙ ap not equal in
    absurd (cc)

pub returns-then-ne-clause-none : goal.returns-then-ne-clause-none
returns-then-ne-clause-none c = λ none number small spelt.
    let read = parse-decimal 64 number c.args.text.now c.parse.result small small spelt (c.parse.ensures.value.0) in
    let other = c.in-Ok.is in
    let same : c.in-Ok.number ≡ number = cc in
    let written = c.in_ok-spelt.ensures.ok in
    let mine = c.as_bytes.ensures.value in
    let theirs = c.as_bytes-2.ensures.value in
    apart c.as_bytes.result.now c.as_bytes-2.result.now c.ne.result c.ne.ensures c.if-ne.true (cc)
