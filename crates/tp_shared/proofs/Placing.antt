-- Places under a node's lock.
use Rattle.std.proofs.Common.{◌≡◌, ℕ, ◌+◌, ◌*◌, inl, inr, List, set, sym, ap, subst, ◌∙◌, arith, Some, slice_get}
use Rattle.tp_shared.proofs.Lower.{cases_eq, length-set, slice_get-set_same, slice_get-set_other}
use Rattle.tp_shared.specs.declared.nodes.place.Place.{Place}
use Rattle.tp_shared.specs.Cells.{IsPlaceOf, AreOfCell}
use Rattle.tp_shared.specs.declared.nodes.cells.TheConstants.{CELLS}

some_same : (x y : Place) → Some x ≡ Some y → x ≡ y
some_same x y e = cc

-- another place for one that was there
pub celled_after : (first : ℕ) (names : ℕ → ℕ) (count : ℕ) (places : List Place) (k : ℕ) (was p : Place) → AreOfCell first names count places → slice_get places k ≡ Some was → IsPlaceOf (names (CELLS * k + first)) (CELLS * k + first) count p → AreOfCell first names count (set places k p)
celled_after first names count places k was p C there I = record {
  each = λ j q e. elim (cases_eq j k) [
    | inl same ↦
        let is : p ≡ q = some_same p q (sym (slice_get-set_same places k p was there) ∙ ap (slice_get (set places k p)) (sym same) ∙ e) in
        subst (λ n. IsPlaceOf (names (CELLS * n + first)) (CELLS * n + first) count q) (sym same) (subst (IsPlaceOf (names (CELLS * k + first)) (CELLS * k + first) count) is I)
    | inr other ↦ C.each j q (sym (slice_get-set_other places k j p other) ∙ e)
  ];
  all = λ j h. let l = length-set places k p in let b = C.all j h in omega (arith, l, b);
}
