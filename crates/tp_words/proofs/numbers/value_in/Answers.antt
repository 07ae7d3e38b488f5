use Rattle.std.proofs.Common.{◌≡◌, ◌∙◌, ◌++◌, List, ℕ, Bool, true, false, Option, Some, None, Bor, length, take, drop, refl, ap, sym}
use Rattle.std.specs.Prelude.{if◌then◌else◌}
use Rattle.tp_words.proofs.Lower.{take-append-drop, take-append_seam, FindsTextPrefix, StripsPrefix, bytes_eq-Decides, MatchOption, option_map}
use Rattle.tp_words.specs.Given.{value_in}
use Rattle.tp_words.proofs.numbers.value_in.Goals as goal

-- what is after a front, if the text begins with that
after_front : (text front : List ℕ) (p : Bool) (r : Option (Bor (List ℕ))) → (p ≡ true → take (length front) text ≡ front) → (take (length front) text ≡ front → p ≡ true)
    → MatchOption r (FindsTextPrefix front text None) (λ x. StripsPrefix (FindsTextPrefix front) text x.now)
    → option_map (λ (t : Bor (List ℕ)). t.now) r ≡ (if p then Some (drop (length front) text) else None)
after_front text front true None same is lacks =
    let begins = same refl in
    absurd (lacks (drop (length front) text) (sym (take-append-drop (length front) text) ∙ ap (λ (t : List ℕ). t ++ drop (length front) text) begins))
after_front text front false None same is lacks = refl
after_front text front true (Some x) same is strips =
    ap (λ (t : List ℕ). Some t) (strips.2 ∙ ap (λ (n : ℕ). drop n text) (strips.1.0))
after_front text front false (Some x) same is strips =
    let rest = drop strips.0 text in
    let bad = is (ap (λ (t : List ℕ). take (length front) t) strips.1.1 ∙ take-append_seam front rest) in
    absurd (cc)

pub returns : goal.returns
returns c =
    let text = c.as_str.result.now in
    let front = c.args.ending.now in
    let decides = bytes_eq-Decides (take (length front) text) front in
    after_front text front _ c.strip_prefix.result decides.0 decides.1 c.strip_prefix.ensures.cases ∙ ap (λ (t : List ℕ). value_in front t) c.as_str.ensures.value
