-- Lists that begin with equal elements, and what is read there.
use Rattle.std.proofs.Common.{◌≡◌, ℕ, zero, suc, ◌+◌, ◌-◌, ◌<◌, ◌≤◌, List, length, take, drop, get_or, sym, ap, ◌∙◌, arith, length-take, length-drop}
use Rattle.tp_law_device.proofs.Lower.{Width, w16, w32, w64, byte_len, byte_worth, sum_through, from_le_bytes, take-take, drop-take, get_or-take, get_or-drop, same_number_lists, u16_at, u32_at, u64_at}

-- the first n elements are equal
pub record SameFront (n : ℕ) (xs ys : List ℕ) : Type 0 where
  pub same : take n xs ≡ take n ys

pub front_shorter : (m n : ℕ) (xs ys : List ℕ) → m ≤ n → SameFront n xs ys → SameFront m xs ys
front_shorter m n xs ys le h = record { same = sym (take-take m n xs le) ∙ ap (take m) h.same ∙ take-take m n ys le }

pub front_behind : (k n : ℕ) (xs ys : List ℕ) → SameFront (k + n) xs ys → SameFront n (drop k xs) (drop k ys)
front_behind k n xs ys h = record { same = sym (drop-take k n xs) ∙ ap (drop k) h.same ∙ drop-take k n ys }

-- n elements from the k-th one on, of a front of m
pub front_part : (k n m : ℕ) (xs ys : List ℕ) → k + n ≤ m → SameFront m xs ys → SameFront n (drop k xs) (drop k ys)
front_part k n m xs ys le h = front_behind k n xs ys (front_shorter (k + n) m xs ys le h)

pub front_get : (n : ℕ) (xs ys : List ℕ) → SameFront n xs ys → (i : ℕ) → i < n → get_or xs i 0 ≡ get_or ys i 0
front_get n xs ys h i lt = sym (get_or-take n xs i 0 lt) ∙ ap (λ zs. get_or zs i 0) h.same ∙ get_or-take n ys i 0 lt

-- a list and its front
pub whole_front : (n : ℕ) (xs : List ℕ) → SameFront n xs (take n xs)
whole_front n xs = record { same = sym (take-take n n xs (omega arith)) }

-- lists of one length whose first elements are equal, one by one
pub front_from : (n : ℕ) (xs ys : List ℕ) → length xs ≡ length ys → ((i : ℕ) → i < n → get_or xs i 0 ≡ get_or ys i 0) → SameFront n xs ys
front_from n xs ys len each = record {
  same = same_number_lists (take n xs) (take n ys) (omega (arith, length-take n xs, length-take n ys))
      (λ i lt.
      let below : i < n = omega (arith, length-take n xs) in
      get_or-take n xs i 0 below ∙ each i below ∙ sym (get_or-take n ys i 0 below));
}

-- parts of lists whose bytes are equal there, one by one
pub part_from : (at n : ℕ) (xs ys : List ℕ) → length xs ≡ length ys → ((place : ℕ) → at ≤ place → place < at + n → get_or xs place 0 ≡ get_or ys place 0)
    → SameFront n (drop at xs) (drop at ys)
part_from at n xs ys len each =
    front_from n (drop at xs) (drop at ys) (omega (arith, length-drop at xs, length-drop at ys))
    (λ i lt. get_or-drop at xs i 0 ∙ each (at + i) (omega arith) (omega arith) ∙ sym (get_or-drop at ys i 0))

-- ## Numbers

same_sum : (f g : ℕ → ℕ) (n : ℕ) → ((i : ℕ) → i ≤ n → f i ≡ g i) → sum_through f n ≡ sum_through g n
same_sum f g zero h = h 0 (omega arith)
same_sum f g (suc n) h = let a = same_sum f g n (λ i le. h i (omega arith)) in let b = h (suc n) (omega arith) in cc

number_front : (w : Width) (n : ℕ) (xs ys : List ℕ) → byte_len w ≤ n → 1 ≤ byte_len w → SameFront n xs ys → from_le_bytes w xs ≡ from_le_bytes w ys
number_front w n xs ys le some h =
    same_sum (λ i. byte_worth i (get_or xs i 0)) (λ i. byte_worth i (get_or ys i 0)) (byte_len w - 1)
    (λ i low. ap (byte_worth i) (front_get n xs ys h i (omega arith)))

pub u16_front : (at n : ℕ) (xs ys : List ℕ) → at + 2 ≤ n → SameFront n xs ys → u16_at xs at ≡ u16_at ys at
u16_front at n xs ys le h = number_front w16 2 (drop at xs) (drop at ys) (omega arith) (omega arith) (front_part at 2 n xs ys le h)

pub u32_front : (at n : ℕ) (xs ys : List ℕ) → at + 4 ≤ n → SameFront n xs ys → u32_at xs at ≡ u32_at ys at
u32_front at n xs ys le h = number_front w32 4 (drop at xs) (drop at ys) (omega arith) (omega arith) (front_part at 4 n xs ys le h)

pub u64_front : (at n : ℕ) (xs ys : List ℕ) → at + 8 ≤ n → SameFront n xs ys → u64_at xs at ≡ u64_at ys at
u64_front at n xs ys le h = number_front w64 8 (drop at xs) (drop at ys) (omega arith) (omega arith) (front_part at 8 n xs ys le h)
