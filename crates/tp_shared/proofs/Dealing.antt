-- Nodes that are dealt to the cells one after another.
use Rattle.std.proofs.Common.{◌≡◌, ◌≢◌, ℕ, zero, suc, ◌+◌, ◌*◌, ◌/◌, ◌%◌, ◌<◌, ◌≤◌, cond, eqb, inl, inr, List, [], ◌∷◌, ◌++◌, length, get_or, refl, sym, ap, subst, ◌∙◌, arith, Some, slice_get, length-append, eq-eqb}
use Rattle.std.specs.Prelude.{◌-◌}
use Rattle.tp_shared.proofs.Lower.{ne_eqb, cases_eq, slice_get_within, BookValue}
use Rattle.tp_shared.specs.Cells.{IsPlaceOf, AreOfCell}
use Rattle.tp_shared.specs.Hands.{AreOfRow, IsEmptyHand, IsRowWith, with_place}
use Rattle.tp_shared.specs.Seals.{IsSealOf, Sealed}
use Rattle.tp_shared.specs.Parted.{name_of, IsDealt}
use Rattle.tp_shared.specs.declared.nodes.dealt.Dealt.{Dealt}
use Rattle.tp_shared.specs.declared.nodes.hand.Hand.{Hand}
use Rattle.tp_shared.specs.declared.nodes.place.Place.{Place}
use Rattle.tp_shared.specs.declared.nodes.seal.NodeSeal.{NodeSeal}
use Rattle.tp_shared.specs.declared.nodes.cells.TheConstants.{CELLS, ROW}

-- ## Lists

before_end : {A : Type 0} (xs : List A) (y : A) (i : ℕ) → i < length xs → slice_get (xs ++ y ∷ []) i ≡ slice_get xs i
before_end [] y i h = absurd (omega (arith, h))
before_end (x ∷ xs) y zero h = refl
before_end (x ∷ xs) y (suc i) h = before_end xs y i (omega (arith, h))

at_end : {A : Type 0} (xs : List A) (y : A) (i : ℕ) → i ≡ length xs → slice_get (xs ++ y ∷ []) i ≡ Some y
at_end [] y zero e = refl
at_end [] y (suc i) e = absurd (omega (arith, e))
at_end (x ∷ xs) y zero e = absurd (omega (arith, e))
at_end (x ∷ xs) y (suc i) e = at_end xs y i (omega (arith, e))

within_end : {A : Type 0} (xs : List A) (y z : A) (i : ℕ) → slice_get (xs ++ y ∷ []) i ≡ Some z → i < length xs + 1
within_end xs y z i e = let b = slice_get_within (xs ++ y ∷ []) i z e in let l = length-append xs (y ∷ []) in omega (arith, b, l)

same_some : {A : Type 0} (x y : A) → Some x ≡ Some y → x ≡ y
same_some x y e = cc

get_within : {A : Type 0} (xs : List A) (i : ℕ) → i < length xs → (x : A) × (slice_get xs i ≡ Some x)
get_within [] i h = absurd (omega (arith, h))
get_within (x ∷ xs) zero h = (x, refl)
get_within (x ∷ xs) (suc i) h = get_within xs i (omega (arith, h))

pub get_at : {A : Type 0} (xs : List A) (i : ℕ) (x : A) → i < length xs → x ≡ get_or xs i x → slice_get xs i ≡ Some x
get_at [] i x h e = absurd (omega (arith, h))
get_at (y ∷ xs) zero x h e = ap Some (sym e)
get_at (y ∷ xs) (suc i) x h e = get_at xs i x (omega (arith, h)) e

-- ## Names

name_before : (ss : List NodeSeal) (t : NodeSeal) (i : ℕ) → i < length ss → name_of (ss ++ t ∷ []) i ≡ name_of ss i
name_before [] t i h = absurd (omega (arith, h))
name_before (s ∷ ss) t zero h = refl
name_before (s ∷ ss) t (suc i) h = name_before ss t i (omega (arith, h))

name_last : (ss : List NodeSeal) (t : NodeSeal) → name_of (ss ++ t ∷ []) (length ss) ≡ t.seal.name
name_last [] t = refl
name_last (s ∷ ss) t = name_last ss t

-- ## Seals

pub sealed_none : (names : ℕ → ℕ) (b : BookValue) → Sealed names [] b
sealed_none names b i s e = cc

pub sealed_more : (ss : List NodeSeal) (t : NodeSeal) (b : BookValue) → Sealed (name_of ss) ss b → IsSealOf t.seal.name t.seal.value.state t.frozen t.seal.name b (length ss) → Sealed (name_of (ss ++ t ∷ [])) (ss ++ t ∷ []) b
sealed_more ss t b S T i s e = elim (cases_eq i (length ss)) [
  | inl last ↦
      let is : t ≡ s = same_some t s (sym (at_end ss t i last) ∙ e) in
      subst (λ (x : NodeSeal). IsSealOf (name_of (ss ++ t ∷ []) i) x.seal.value.state x.frozen x.seal.name b i) is
      (subst (λ k. IsSealOf (name_of (ss ++ t ∷ []) k) t.seal.value.state t.frozen t.seal.name b k) (sym last)
      (subst (λ n. IsSealOf n t.seal.value.state t.frozen t.seal.name b (length ss)) (sym (name_last ss t)) T))
  | inr other ↦
      let within : i < length ss = (let b = within_end ss t s i e in omega (arith, b, other)) in
      subst (λ n. IsSealOf n s.seal.value.state s.frozen s.seal.name b i) (sym (name_before ss t i within)) (S i s (sym (before_end ss t i within) ∙ e))
]

-- ## Cells

-- the places of a cell, with one more at the end if it belongs there
abbrev cell_with : ℕ → ℕ → Place → List Place → List Place
cell_with cell index place places = cond (eqb (index % CELLS) cell) (places ++ place ∷ []) places

celled_none : (cell : ℕ) (names : ℕ → ℕ) → AreOfCell cell names 0 []
celled_none cell names = record { each = λ k p e. cc; all = λ k h. absurd (omega (arith, h)) }

-- a place of a network is a place of a larger one
more_in : (name other i count more : ℕ) (p : Place) → name ≡ other → count ≤ more → IsPlaceOf name i count p → IsPlaceOf other i more p
more_in name other i count more p same few I = record { there = (let t = I.there in omega (arith, t, few)); named = I.named ∙ same; shows = I.shows }

module _ (cell : ℕ) (ss : List NodeSeal) (t : NodeSeal) (places : List Place) (p : Place) (small : cell < CELLS) (C : AreOfCell cell (name_of ss) (length ss) places) (P : IsPlaceOf t.seal.name (length ss) (suc (length ss)) p) where
  old_each : (k : ℕ) (q : Place) → slice_get places k ≡ Some q → IsPlaceOf (name_of (ss ++ t ∷ []) (CELLS * k + cell)) (CELLS * k + cell) (suc (length ss)) q
  old_each k q e =
      let was = C.each k q e in
      more_in (name_of ss (CELLS * k + cell)) (name_of (ss ++ t ∷ []) (CELLS * k + cell)) (CELLS * k + cell) (length ss) (suc (length ss)) q (sym (name_before ss t (CELLS * k + cell) was.there)) (omega arith) was

  -- a node of another cell
  away : length ss % CELLS ≢ cell → AreOfCell cell (name_of (ss ++ t ∷ [])) (suc (length ss)) places
  away other = record { each = old_each; all = λ k h. let differ : CELLS * k + cell ≢ length ss = λ e. other (omega (arith, e, small)) in C.all k (omega (arith, h, differ)) }

  here : length ss % CELLS ≡ cell → AreOfCell cell (name_of (ss ++ t ∷ [])) (suc (length ss)) (places ++ p ∷ [])
  here same = record { each = each; all = all }
    where
      -- there are as many places as nodes of the cell
      places_few : length places ≤ length ss / CELLS
      places_few = elim (cases_eq (length places) 0) [
        | inl none ↦ omega (arith, none)
        | inr some ↦
            let last = get_within places (length places - 1) (omega (arith, some)) in
            let there = (C.each (length places - 1) last.0 last.1).there in
            omega (arith, there, some, same)
      ]

      places_all : length places ≡ length ss / CELLS
      places_all = elim (cases_eq (length ss / CELLS) 0) [
        | inl none ↦ (let few = places_few in omega (arith, none, few))
        | inr some ↦
            let more = C.all (length ss / CELLS - 1) (omega (arith, some, same)) in
            let few = places_few in
            omega (arith, more, few, some)
      ]

      place_is : CELLS * length places + cell ≡ length ss
      place_is = let a = places_all in omega (arith, a, same)

      each : (k : ℕ) (q : Place) → slice_get (places ++ p ∷ []) k ≡ Some q → IsPlaceOf (name_of (ss ++ t ∷ []) (CELLS * k + cell)) (CELLS * k + cell) (suc (length ss)) q
      each k q e = elim (cases_eq k (length places)) [
        | inl last ↦
            let is : p ≡ q = same_some p q (sym (at_end places p k last) ∙ e) in
            let at : CELLS * k + cell ≡ length ss = (let a = place_is in omega (arith, a, last)) in
            subst (λ i. IsPlaceOf (name_of (ss ++ t ∷ []) i) i (suc (length ss)) q) (sym at)
            (subst (IsPlaceOf (name_of (ss ++ t ∷ []) (length ss)) (length ss) (suc (length ss))) is
            (more_in t.seal.name (name_of (ss ++ t ∷ []) (length ss)) (length ss) (suc (length ss)) (suc (length ss)) p (sym (name_last ss t)) (omega arith) P))
        | inr other ↦
            let within : k < length places = (let b = within_end places p q k e in omega (arith, b, other)) in
            old_each k q (sym (before_end places p k within) ∙ e)
      ]

      all : (k : ℕ) → CELLS * k + cell < suc (length ss) → k < length (places ++ p ∷ [])
      all k h = let l = length-append places (p ∷ []) in let a = place_is in omega (arith, l, a, h)

  pub celled_more : AreOfCell cell (name_of (ss ++ t ∷ [])) (suc (length ss)) (cell_with cell (length ss) p places)
  celled_more = elim (cases_eq (length ss % CELLS) cell) [
    | inl same ↦ subst (λ test. AreOfCell cell (name_of (ss ++ t ∷ [])) (suc (length ss)) (cond test (places ++ p ∷ []) places)) (sym (eq-eqb (length ss % CELLS) cell same)) (here same)
    | inr other ↦ subst (λ test. AreOfCell cell (name_of (ss ++ t ∷ [])) (suc (length ss)) (cond test (places ++ p ∷ []) places)) (sym (ne_eqb (length ss % CELLS) cell other)) (away other)
  ]

-- places keep what is known of them under names that are equal to theirs
celled_named : (cell : ℕ) (names others : ℕ → ℕ) (count : ℕ) (places : List Place) → ((i : ℕ) → others i ≡ names i) → AreOfCell cell names count places → AreOfCell cell others count places
celled_named cell names others count places same C = record {
  each = λ k p e. more_in (names (CELLS * k + cell)) (others (CELLS * k + cell)) (CELLS * k + cell) count count p (sym (same (CELLS * k + cell))) (omega arith) (C.each k p e);
  all = C.all;
}

-- the places of a cell under the names that were picked
celled_start : (cell : ℕ) (names : ℕ → ℕ) (seals : List NodeSeal) (n m : ℕ) (places : List Place) → n ≡ m → ((i : ℕ) → names i ≡ name_of seals i) → AreOfCell cell (name_of seals) n places → AreOfCell cell names m places
celled_start cell names seals n m places same named C = subst (λ k. AreOfCell cell names k places) same (celled_named cell (name_of seals) names n places named C)

pub sealed_named : (names others : ℕ → ℕ) (ss : List NodeSeal) (b : BookValue) → ((i : ℕ) → others i ≡ names i) → Sealed names ss b → Sealed others ss b
sealed_named names others ss b same S i s e = subst (λ n. IsSealOf n s.seal.value.state s.frozen s.seal.name b i) (sym (same i)) (S i s e)

-- ## Rows

-- a cell of a row is the one with its number
cell_here : (row at index : ℕ) (p : Place) (xs : List Place) → at < ROW → index % CELLS / ROW ≡ row → with_place at index p xs ≡ cell_with (ROW * row + at) index p xs
cell_here row at index p xs small here = elim (cases_eq (index % ROW) at) [
  | inl same ↦ ap (λ test. cond test (xs ++ p ∷ []) xs) (eq-eqb (index % ROW) at same ∙ sym (eq-eqb (index % CELLS) (ROW * row + at) (omega (arith, same, here, small))))
  | inr other ↦ ap (λ test. cond test (xs ++ p ∷ []) xs) (ne_eqb (index % ROW) at other ∙ sym (ne_eqb (index % CELLS) (ROW * row + at) (λ e. other (omega (arith, e, here, small)))))
]

cell_away : (row at index : ℕ) (p : Place) (xs : List Place) → at < ROW → index % CELLS / ROW ≢ row → xs ≡ cell_with (ROW * row + at) index p xs
cell_away row at index p xs small away = ap (λ test. cond test (xs ++ p ∷ []) xs) (sym (ne_eqb (index % CELLS) (ROW * row + at) (λ e. away (omega (arith, e, small)))))

-- what each cell of a row has, once a place was dealt
module _ (row index : ℕ) (p : Place) (old new : Hand) (W : IsRowWith row index p old new) where
  grown0 : new.places0.items ≡ cell_with (ROW * row + 0) index p old.places0.items
  grown0 = elim (cases_eq (index % CELLS / ROW) row) [
    | inl here ↦ (W.here here).zeroth ∙ cell_here row 0 index p old.places0.items (omega arith) here
    | inr away ↦ ap (λ (h : Hand). h.places0.items) (W.away away) ∙ cell_away row 0 index p old.places0.items (omega arith) away
  ]

  grown1 : new.places1.items ≡ cell_with (ROW * row + 1) index p old.places1.items
  grown1 = elim (cases_eq (index % CELLS / ROW) row) [
    | inl here ↦ (W.here here).first ∙ cell_here row 1 index p old.places1.items (omega arith) here
    | inr away ↦ ap (λ (h : Hand). h.places1.items) (W.away away) ∙ cell_away row 1 index p old.places1.items (omega arith) away
  ]

  grown2 : new.places2.items ≡ cell_with (ROW * row + 2) index p old.places2.items
  grown2 = elim (cases_eq (index % CELLS / ROW) row) [
    | inl here ↦ (W.here here).second ∙ cell_here row 2 index p old.places2.items (omega arith) here
    | inr away ↦ ap (λ (h : Hand). h.places2.items) (W.away away) ∙ cell_away row 2 index p old.places2.items (omega arith) away
  ]

  grown3 : new.places3.items ≡ cell_with (ROW * row + 3) index p old.places3.items
  grown3 = elim (cases_eq (index % CELLS / ROW) row) [
    | inl here ↦ (W.here here).third ∙ cell_here row 3 index p old.places3.items (omega arith) here
    | inr away ↦ ap (λ (h : Hand). h.places3.items) (W.away away) ∙ cell_away row 3 index p old.places3.items (omega arith) away
  ]

row_none : (a b c d : ℕ) (names : ℕ → ℕ) (hand : Hand) → IsEmptyHand hand → AreOfRow a b c d names 0 hand
row_none a b c d names hand E = record {
  zeroth = subst (AreOfCell a names 0) (sym E.zeroth) (celled_none a names);
  first = subst (AreOfCell b names 0) (sym E.first) (celled_none b names);
  second = subst (AreOfCell c names 0) (sym E.second) (celled_none c names);
  third = subst (AreOfCell d names 0) (sym E.third) (celled_none d names);
}

-- the places of a row under the names that were picked
pub row_start : (a b c d : ℕ) (names : ℕ → ℕ) (seals : List NodeSeal) (n m : ℕ) (hand : Hand) → n ≡ m → ((i : ℕ) → names i ≡ name_of seals i) → AreOfRow a b c d (name_of seals) n hand → AreOfRow a b c d names m hand
row_start a b c d names seals n m hand same named R = record {
  zeroth = celled_start a names seals n m hand.places0.items same named R.zeroth;
  first = celled_start b names seals n m hand.places1.items same named R.first;
  second = celled_start c names seals n m hand.places2.items same named R.second;
  third = celled_start d names seals n m hand.places3.items same named R.third;
}

-- ## All of them

module _ (b : BookValue) where
  pub dealt_none : (ss : List NodeSeal) (d : Dealt) → ss ≡ [] → IsEmptyHand d.row0 → IsEmptyHand d.row1 → IsEmptyHand d.row2 → IsEmptyHand d.row3 → IsDealt b ss d 0
  dealt_none ss d none e0 e1 e2 e3 = record {
    many = ap length none;
    sealed = subst (λ xs. Sealed (name_of xs) xs b) (sym none) (sealed_none (name_of []) b);
    zeroth = row_none 0 1 2 3 (name_of ss) d.row0 e0;
    first = row_none 4 5 6 7 (name_of ss) d.row1 e1;
    second = row_none 8 9 10 11 (name_of ss) d.row2 e2;
    third = row_none 12 13 14 15 (name_of ss) d.row3 e3;
  }

  cell_more : (cell : ℕ) (ss new : List NodeSeal) (t : NodeSeal) (p : Place) (places more : List Place) (count : ℕ) → cell < CELLS → count ≡ length ss → new ≡ ss ++ t ∷ [] → more ≡ cell_with cell count p places
      → AreOfCell cell (name_of ss) count places → IsPlaceOf t.seal.name count (suc count) p → AreOfCell cell (name_of new) (suc count) more
  cell_more cell ss new t p places more count small many is same C P =
      subst (AreOfCell cell (name_of new) (suc count)) (sym same)
      (subst (λ xs. AreOfCell cell (name_of xs) (suc count) (cell_with cell count p places)) (sym is)
      (subst (λ n. AreOfCell cell (name_of (ss ++ t ∷ [])) (suc n) (cell_with cell n p places)) (sym many)
      (celled_more cell ss t places p small (subst (λ n. AreOfCell cell (name_of ss) n places) many C) (subst (λ n. IsPlaceOf t.seal.name n (suc n) p) many P))))

  row_more : (row : ℕ) (ss new : List NodeSeal) (t : NodeSeal) (p : Place) (hand more : Hand) (count : ℕ) → row < ROW → count ≡ length ss → new ≡ ss ++ t ∷ [] → IsRowWith row count p hand more
      → AreOfRow (ROW * row + 0) (ROW * row + 1) (ROW * row + 2) (ROW * row + 3) (name_of ss) count hand → IsPlaceOf t.seal.name count (suc count) p
      → AreOfRow (ROW * row + 0) (ROW * row + 1) (ROW * row + 2) (ROW * row + 3) (name_of new) (suc count) more
  row_more row ss new t p hand more count small many is W R P = record {
    zeroth = cell_more (ROW * row + 0) ss new t p hand.places0.items more.places0.items count (omega (arith, small)) many is (grown0 row count p hand more W) R.zeroth P;
    first = cell_more (ROW * row + 1) ss new t p hand.places1.items more.places1.items count (omega (arith, small)) many is (grown1 row count p hand more W) R.first P;
    second = cell_more (ROW * row + 2) ss new t p hand.places2.items more.places2.items count (omega (arith, small)) many is (grown2 row count p hand more W) R.second P;
    third = cell_more (ROW * row + 3) ss new t p hand.places3.items more.places3.items count (omega (arith, small)) many is (grown3 row count p hand more W) R.third P;
  }

  pub dealt_more : (ss new : List NodeSeal) (d e : Dealt) (t : NodeSeal) (p : Place) (count index : ℕ) → IsDealt b ss d count → new ≡ ss ++ t ∷ [] → index ≡ count
      → IsRowWith 0 index p d.row0 e.row0 → IsRowWith 1 index p d.row1 e.row1 → IsRowWith 2 index p d.row2 e.row2 → IsRowWith 3 index p d.row3 e.row3
      → IsSealOf t.seal.name t.seal.value.state t.frozen t.seal.name b count → IsPlaceOf t.seal.name count (suc count) p → IsDealt b new e (suc count)
  dealt_more ss new d e t p count index D is at e0 e1 e2 e3 S P = record {
    many = let l = ap length is ∙ length-append ss (t ∷ []) in let m = D.many in omega (arith, l, m);
    sealed = subst (λ xs. Sealed (name_of xs) xs b) (sym is) (sealed_more ss t b D.sealed (subst (IsSealOf t.seal.name t.seal.value.state t.frozen t.seal.name b) (sym D.many) S));
    zeroth = row_more 0 ss new t p d.row0 e.row0 count (omega arith) (sym D.many) is (subst (λ i. IsRowWith 0 i p d.row0 e.row0) at e0) D.zeroth P;
    first = row_more 1 ss new t p d.row1 e.row1 count (omega arith) (sym D.many) is (subst (λ i. IsRowWith 1 i p d.row1 e.row1) at e1) D.first P;
    second = row_more 2 ss new t p d.row2 e.row2 count (omega arith) (sym D.many) is (subst (λ i. IsRowWith 2 i p d.row2 e.row2) at e2) D.second P;
    third = row_more 3 ss new t p d.row3 e.row3 count (omega arith) (sym D.many) is (subst (λ i. IsRowWith 3 i p d.row3 e.row3) at e3) D.third P;
  }
