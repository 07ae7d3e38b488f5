-- What a part of some bytes says, and what they say themselves.
use Rattle.std.proofs.Common.{◌≡◌, ℕ, ◌+◌, ◌-◌, ◌<◌, ◌≤◌, List, take, drop, sym, ap, ◌∙◌, arith}
use Rattle.tp_area.proofs.Lower.{get_or-take, get_or-drop, drop-drop, drop-take, take-take, from_le_bytes, w64, u8_at, u16_at, u32_at, u64_at, whole_front, u16_front, u32_front, u64_front}

-- the front of a list says what the list says
pub u64_at-take : (m place : ℕ) (xs : List ℕ) → place + 8 ≤ m → u64_at (take m xs) place ≡ u64_at xs place
u64_at-take m place xs le = sym (u64_front place m xs (take m xs) le (whole_front m xs))

pub u32_at-take : (m place : ℕ) (xs : List ℕ) → place + 4 ≤ m → u32_at (take m xs) place ≡ u32_at xs place
u32_at-take m place xs le = sym (u32_front place m xs (take m xs) le (whole_front m xs))

pub u16_at-take : (m place : ℕ) (xs : List ℕ) → place + 2 ≤ m → u16_at (take m xs) place ≡ u16_at xs place
u16_at-take m place xs le = sym (u16_front place m xs (take m xs) le (whole_front m xs))

pub u8_at-take : (m place : ℕ) (xs : List ℕ) → place < m → u8_at (take m xs) place ≡ u8_at xs place
u8_at-take m place xs lt = get_or-take m xs place 0 lt

-- what is said after a place
pub u64_at-drop : (start place there : ℕ) (xs : List ℕ) → there ≡ start + place → u64_at (drop start xs) place ≡ u64_at xs there
u64_at-drop start place there xs is = ap (from_le_bytes w64) (drop-drop place start xs ∙ ap (λ n. drop n xs) (sym is))

pub u8_at-drop : (start place there : ℕ) (xs : List ℕ) → there ≡ start + place → u8_at (drop start xs) place ≡ u8_at xs there
u8_at-drop start place there xs is = get_or-drop start xs place 0 ∙ ap (u8_at xs) (sym is)

-- a part of a part
pub part_of_part : (n place m start there : ℕ) (xs : List ℕ) → place + n ≤ m → there ≡ start + place
    → take n (drop place (take m (drop start xs))) ≡ take n (drop there xs)
part_of_part n place m start there xs le is =
    let whole : m ≡ place + (m - place) = omega arith in
    ap (λ k. take n (drop place (take k (drop start xs)))) whole
    ∙ ap (take n) (drop-take place (m - place) (drop start xs))
    ∙ take-take n (m - place) (drop place (drop start xs)) (omega arith)
    ∙ ap (take n) (drop-drop place start xs ∙ ap (λ k. drop k xs) (sym is))
