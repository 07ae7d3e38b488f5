-- Tests of all items of a list, or of some item, for the loops over it.
use Rattle.std.proofs.Common.{◌≡◌, ◌≤◌, ◌<◌, ◌+◌, ℕ, suc, Bool, true, false, ◌&&◌, ◌||◌, List, length, map, take, drop, get_or, Some, sym, ap, subst, ◌∙◌, arith, drop-cons}
use Rattle.std.specs.Prelude.{if◌then◌else◌}
use Rattle.tp_stream.proofs.Lower.{list_all, list_any, le-leb, lt-leb, take_all, list_all_at, list_all_more, list_any_at, list_any_more}
use Rattle.tp_stream.specs.Fitting.{first_past}

module _ {X : Type 0} (p : X → Bool) (xs : List X) (i : ℕ) where
  pub all_more : (x : X) → i < length xs → x ≡ get_or xs i x → list_all p (take i xs) ≡ true → p x ≡ true → list_all p (take (i + 1) xs) ≡ true
  all_more x low is before here = list_all_more p xs i x low ∙ ap (λ b. b && p (get_or xs i x)) before ∙ ap p (sym is) ∙ here

  pub all_but : (x : X) → i < length xs → x ≡ get_or xs i x → p x ≡ false → list_all p xs ≡ false
  all_but x low is here = list_all_at p xs i x low (ap p (sym is) ∙ here)

  pub all_passed : length xs ≤ i → list_all p (take i xs) ≡ true → list_all p xs ≡ true
  all_passed many before = ap (list_all p) (sym (take_all i xs many)) ∙ before

  pub none_more : (x : X) → i < length xs → x ≡ get_or xs i x → list_any p (take i xs) ≡ false → p x ≡ false → list_any p (take (i + 1) xs) ≡ false
  none_more x low is before here = list_any_more p xs i x low ∙ ap (λ b. b || p (get_or xs i x)) before ∙ ap p (sym is) ∙ here

  pub one_passed : (x : X) → i < length xs → x ≡ get_or xs i x → p x ≡ true → list_any p xs ≡ true
  one_passed x low is here = list_any_at p xs i x low (ap p (sym is) ∙ here)

  pub none_passed : length xs ≤ i → list_any p (take i xs) ≡ false → list_any p xs ≡ false
  none_passed many before = ap (list_any p) (sym (take_all i xs many)) ∙ before

-- the first port of some that is past the ports
module _ {X : Type 0} (ports : ℕ) (f : X → ℕ) (xs : List X) (i : ℕ) (x : X) (low : i < length xs) (is : x ≡ get_or xs i x) where
  pub first_here : ports ≤ f x → first_past ports (map f (drop i xs)) ≡ Some (f x)
  first_here past =
      ap (λ l. first_past ports (map f l)) (drop-cons xs i x low)
      ∙ ap (λ (b : Bool). if b then Some (f (get_or xs i x)) else first_past ports (map f (drop (suc i) xs))) (le-leb ports (f (get_or xs i x)) (subst (λ z. ports ≤ f z) is past))
      ∙ ap (λ z. Some (f z)) (sym is)

  pub first_behind : f x < ports → first_past ports (map f (drop (i + 1) xs)) ≡ first_past ports (map f (drop i xs))
  first_behind few =
      let one : i + 1 ≡ suc i = omega arith in
      ap (λ n. first_past ports (map f (drop n xs))) one
      ∙ sym (ap (λ l. first_past ports (map f l)) (drop-cons xs i x low)
      ∙ ap (λ (b : Bool). if b then Some (f (get_or xs i x)) else first_past ports (map f (drop (suc i) xs))) (lt-leb ports (f (get_or xs i x)) (subst (λ z. f z < ports) is few)))
