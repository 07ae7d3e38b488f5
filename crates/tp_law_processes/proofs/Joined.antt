-- One journal up to a place, and from there on another.
use Rattle.std.proofs.Common.{◌≡◌, ℕ, zero, suc, ◌+◌, ◌-◌, ◌<◌, ◌≤◌, List, [], ◌∷◌, ◌++◌, length, take, drop, Some, Ok, refl, sym, ap, ◌∙◌, arith, length-append, length-drop}
use Rattle.std.specs.Prelude.{slice_get}
use Rattle.tp_law_processes.proofs.Lower.{length-take-le, take-append-drop, take-append-le, take-take, take-append-add, Entry, NodeState, t414, Network, after, Held, next_number, device_areas, Opened, next_of, verdict, World, BeginsFormatted, after_front, held_is, number_is}

abbrev pub joined : {A : Type 0} → ℕ → List A → List A → List A
joined n xs ys = take n xs ++ drop n ys

module _ {A : Type 0} where
  pub get_low : (k n : ℕ) (xs ys : List A) → k < n → n ≤ length xs → n ≤ length ys → slice_get (joined n xs ys) k ≡ slice_get xs k
  get_low k zero xs ys below there then = absurd (omega (arith, below))
  get_low k (suc n) [] ys below there then = absurd (omega (arith, there))
  get_low k (suc n) (x ∷ xs) [] below there then = absurd (omega (arith, then))
  get_low zero (suc n) (x ∷ xs) (y ∷ ys) below there then = refl
  get_low (suc k) (suc n) (x ∷ xs) (y ∷ ys) below there then = get_low k n xs ys (omega (arith, below)) (omega (arith, there)) (omega (arith, then))

  pub get_high : (k n : ℕ) (xs ys : List A) → n ≤ k → n ≤ length xs → n ≤ length ys → slice_get (joined n xs ys) k ≡ slice_get ys k
  get_high k zero xs ys up there then = refl
  get_high k (suc n) [] ys up there then = absurd (omega (arith, there))
  get_high k (suc n) (x ∷ xs) [] up there then = absurd (omega (arith, then))
  get_high zero (suc n) (x ∷ xs) (y ∷ ys) up there then = absurd (omega (arith, up))
  get_high (suc k) (suc n) (x ∷ xs) (y ∷ ys) up there then = get_high k n xs ys (omega (arith, up)) (omega (arith, there)) (omega (arith, then))

  pub take_low : (m n : ℕ) (xs ys : List A) → m ≤ n → n ≤ length xs → take m (joined n xs ys) ≡ take m xs
  take_low m n xs ys low there =
      let long = length-take-le n xs there in
      take-append-le m (take n xs) (drop n ys) (omega (arith, long, low)) ∙ take-take m n xs low

  pub take_high : (m n : ℕ) (xs ys : List A) → n ≤ m → n ≤ length xs → take m (joined n xs ys) ≡ take n xs ++ take (m - n) (drop n ys)
  take_high m n xs ys up there =
      let long = length-take-le n xs there in
      let at : m ≡ length (take n xs) + (m - n) = omega (arith, long, up) in
      ap (λ k. take k (joined n xs ys)) at ∙ take-append-add (take n xs) (drop n ys) (m - n)

  -- of one list
  pub take_parts : (m n : ℕ) (xs : List A) → n ≤ m → n ≤ length xs → take m xs ≡ take n xs ++ take (m - n) (drop n xs)
  take_parts m n xs up there = ap (take m) (sym (take-append-drop n xs)) ∙ take_high m n xs xs up there

  pub get_dropped : (k n : ℕ) (xs : List A) → n ≤ k → slice_get (drop n xs) (k - n) ≡ slice_get xs k
  get_dropped k zero xs up = let same : k - zero ≡ k = omega arith in ap (slice_get xs) same
  get_dropped zero (suc n) xs up = absurd (omega (arith, up))
  get_dropped (suc k) (suc n) [] up = refl
  get_dropped (suc k) (suc n) (x ∷ xs) up = let same : suc k - suc n ≡ k - n = omega arith in ap (slice_get (drop n xs)) same ∙ get_dropped k n xs (omega (arith, up))

  pub length_joined : (n : ℕ) (xs ys : List A) → n ≤ length xs → n ≤ length ys → length (joined n xs ys) ≡ length ys
  length_joined n xs ys there then =
      let long = length-take-le n xs there in
      let rest = length-drop n ys in
      let all = length-append (take n xs) (drop n ys) in
      omega (arith, long, rest, all, then)

-- it leads where the second one does, if both lead to one network there
pub after_joined : (start now : Network NodeState) (n m : ℕ) (xs ys : List Entry) → n ≤ m → n ≤ length xs → n ≤ length ys → after t414 start (take n xs) ≡ Some now → after t414 start (take n ys) ≡ Some now
    → after t414 start (take m (joined n xs ys)) ≡ after t414 start (take m ys)
after_joined start now n m xs ys up there then one other =
    ap (after t414 start) (take_high m n xs ys up there)
    ∙ after_front t414 start now (take n xs) (take (m - n) (drop n ys)) one
    ∙ sym (after_front t414 start now (take n ys) (take (m - n) (drop n ys)) other)
    ∙ ap (after t414 start) (sym (take_parts m n ys up then))

-- ## From a device that was formatted

pub formatted_first : (start : Network NodeState) (w : World NodeState) → BeginsFormatted t414 device_areas start w → (o : Opened) → verdict w.disk.bytes ≡ Ok o → next_of o ≡ 0
formatted_first start w F o is = sym (number_is o) ∙ ap (λ (h : Held NodeState). next_number h) (sym (held_is w.disk.bytes o (record { network = start; entries = []; base = 0 }) is F.reads))
