-- Texts to which parts were appended, one after the other.
use Rattle.std.proofs.Common.{◌≡◌, ◌∙◌, ◌++◌, List, ℕ, ap, append_assoc, Ok, Err, Result, OnOk}

pub on_ok : {T E : Type 0} (P Q : Type 0) (r : Result T E) → (P → Q) → OnOk r P → OnOk r Q
on_ok P Q (Ok x) turn h = turn h
on_ok P Q (Err e) turn h = h

-- three parts
pub joined_three : (start a b c first second now : List ℕ) → first ≡ start ++ a → second ≡ first ++ b → now ≡ second ++ c → now ≡ start ++ (a ++ (b ++ c))
joined_three start a b c first second now ia ib ic =
    ic ∙ ap (λ x. x ++ c) ib ∙ append_assoc first b c ∙ ap (λ x. x ++ (b ++ c)) ia ∙ append_assoc start a (b ++ c)

-- four parts
pub joined_four : (start a b c d first second third now : List ℕ) → first ≡ start ++ a → second ≡ first ++ b → third ≡ second ++ c → now ≡ third ++ d
    → now ≡ start ++ (a ++ (b ++ (c ++ d)))
joined_four start a b c d first second third now ia ib ic id =
    id ∙ ap (λ x. x ++ d) ic ∙ append_assoc second c d ∙ ap (λ x. x ++ (c ++ d)) ib ∙ append_assoc first b (c ++ d) ∙ ap (λ x. x ++ (b ++ (c ++ d))) ia
    ∙ append_assoc start a (b ++ (c ++ d))

-- five parts
pub joined_five : (start a b c d e first second third fourth now : List ℕ) → first ≡ start ++ a → second ≡ first ++ b → third ≡ second ++ c → fourth ≡ third ++ d → now ≡ fourth ++ e
    → now ≡ start ++ (a ++ (b ++ (c ++ (d ++ e))))
joined_five start a b c d e first second third fourth now ia ib ic id ie =
    joined_four first b c d e second third fourth now ib ic id ie ∙ ap (λ x. x ++ (b ++ (c ++ (d ++ e)))) ia ∙ append_assoc start a (b ++ (c ++ (d ++ e)))
