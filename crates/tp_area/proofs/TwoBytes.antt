-- Numbers of two bytes, one after the other.
use Rattle.std.proofs.Common.{◌≡◌, ℕ, suc, ◌+◌, ◌-◌, ◌<◌, List, [], ◌∷◌, ◌++◌, drop, sym, ap, ◌∙◌, arith, append_assoc}
use Rattle.tp_area.proofs.Lower.{u16_at, u16s_at}

u16s_at-suc : (m n : ℕ) (bytes : List ℕ) → m ≡ suc n → u16s_at m bytes ≡ u16_at bytes 0 ∷ u16s_at n (drop 2 bytes)
unfolding u16s_at
u16s_at-suc m n bytes e = ap (λ k. u16s_at k bytes) e

pub u16s_at-none : (n : ℕ) (bytes : List ℕ) → n ≡ 0 → u16s_at n bytes ≡ []
unfolding u16s_at
u16s_at-none n bytes e = ap (λ k. u16s_at k bytes) e

-- what was read and what is left are all, also after one more
pub u16s_at_more : (numbers : List ℕ) (number : ℕ) (rest behind : List ℕ) (n k : ℕ) → k < n → number ≡ u16_at rest 0 → behind ≡ drop 2 rest
    → (numbers ++ number ∷ []) ++ u16s_at (n - (k + 1)) behind ≡ numbers ++ u16s_at (n - k) rest
u16s_at_more numbers number rest behind n k lt here back =
    append_assoc numbers (number ∷ []) (u16s_at (n - (k + 1)) behind)
    ∙ ap (λ m. numbers ++ (m ∷ u16s_at (n - (k + 1)) behind)) here
    ∙ ap (λ b. numbers ++ (u16_at rest 0 ∷ u16s_at (n - (k + 1)) b)) back
    ∙ ap (λ ms. numbers ++ ms) (sym (u16s_at-suc (n - k) (n - (k + 1)) rest (omega arith)))
