-- The tokens on a line before its Marker, one by one.
use Rattle.std.proofs.Common.{◌≡◌, ℕ, ◌+◌, ◌<◌, ◌≤◌, true, false, cond, List, [], ◌∷◌, ◌++◌, length, take, drop, set, sym, ap, ◌∙◌, arith, append-nil, append_assoc, length-append, Some, slice_get}
use Rattle.tp_book.proofs.Lower.{drop_more, take_more, set-set, get_or_from_slice_get, slice_get_within, Token, is_marker, before, on_line, on_set_same}

module _ (us : List Token) (i : ℕ) (t : Token) (at : slice_get us i ≡ Some t) where
  here : drop i us ≡ t ∷ drop (i + 1) us
  here = drop_more us i t (slice_get_within us i t at) ∙ ap (λ x. x ∷ drop (i + 1) us) (get_or_from_slice_get us i t t at)

  so_far : take (i + 1) us ≡ take i us ++ t ∷ []
  so_far = take_more us i t (slice_get_within us i t at) ∙ ap (λ x. take i us ++ x ∷ []) (get_or_from_slice_get us i t t at)

  module _ (front : before us ≡ take i us ++ before (drop i us)) where
    -- at the Marker that is all;
    pub before_ends : is_marker t ≡ true → before us ≡ take i us
    before_ends y = front ∙ ap (λ ts. take i us ++ before ts) here ∙ ap (λ b. take i us ++ cond b [] (t ∷ before (drop (i + 1) us))) y ∙ append-nil (take i us)

    -- else it goes on
    pub before_goes_on : is_marker t ≡ false → before us ≡ take (i + 1) us ++ before (drop (i + 1) us)
    before_goes_on n =
        front ∙ ap (λ ts. take i us ++ before ts) here ∙ ap (λ b. take i us ++ cond b [] (t ∷ before (drop (i + 1) us))) n
        ∙ sym (append_assoc (take i us) (t ∷ []) (before (drop (i + 1) us))) ∙ ap (λ ts. ts ++ before (drop (i + 1) us)) (sym so_far)

    -- and finds room
    pub before_room : is_marker t ≡ false → (old : List Token) (most : ℕ) → length (old ++ before us) ≤ most → length (old ++ take i us) < most
    before_room n old most few =
        omega (arith, few, length-append old (before us), length-append old (take i us), ap length (before_goes_on n), length-append (take (i + 1) us) (before (drop (i + 1) us)), ap length so_far, length-append (take i us) (t ∷ []))

  -- one token more on a line of the cut
  pub one_more : (lines : List (List Token)) (line : ℕ) (old : List Token) → line < length lines
      → set (set lines line (old ++ take i us)) line (on_line (set lines line (old ++ take i us)) line ++ t ∷ []) ≡ set lines line (old ++ take (i + 1) us)
  one_more lines line old there =
      set-set lines line (old ++ take i us) (on_line (set lines line (old ++ take i us)) line ++ t ∷ [])
      ∙ ap (λ ts. set lines line (ts ++ t ∷ [])) (on_set_same lines line (old ++ take i us) there)
      ∙ ap (set lines line) (append_assoc old (take i us) (t ∷ []) ∙ ap (λ ts. old ++ ts) (sym so_far))
