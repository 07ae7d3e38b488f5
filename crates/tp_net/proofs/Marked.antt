-- Markers on lines: tokens that go round without them, and searching for one.
use Rattle.std.proofs.Common.{◌≡◌, ℕ, ◌+◌, ◌<◌, ◌≤◌, Bool, true, false, cond, inl, inr, List, [], ◌∷◌, ◌++◌, length, take, drop, refl, sym, ap, ◌∙◌, arith, append-nil, append_assoc, length-append, length-take, length-drop, get_or, Some, slice_get}
use Rattle.tp_net.proofs.Lower.{cases_Bool, drop_more, take_more, get_or_from_slice_get, slice_get_within, Token, is_marker, has_marker, plain}

plain_more : (us : List Token) (t : Token) → plain (us ++ t ∷ []) ≡ plain us ++ plain (t ∷ [])
plain_more [] t = refl
plain_more (u ∷ us) t = elim (cases_Bool (is_marker u)) [
  | inl y ↦ rw y (plain_more us t)
  | inr n ↦ rw n (ap (λ ts. u ∷ ts) (plain_more us t))
]

plain_few : (us : List Token) → length (plain us) ≤ length us
plain_few [] = omega arith
plain_few (u ∷ us) = go (is_marker u) (plain_few us)
  where
    go : (b : Bool) → length (plain us) ≤ length us → length (cond b (plain us) (u ∷ plain us)) ≤ length (u ∷ us)
    go true h = omega (arith, h)
    go false h = omega (arith, h)

module _ (us : List Token) (i : ℕ) (t : Token) (below : i < length us) where
  -- the token of this place
  pub here : slice_get us i ≡ Some t → drop i us ≡ t ∷ drop (i + 1) us
  here at =
      let D = drop_more us i t below in
      let is = get_or_from_slice_get us i t t at in
      D ∙ ap (λ x. x ∷ drop (i + 1) us) is

  module _ (at : slice_get (drop i us ++ plain (take i us)) 0 ≡ Some t) where
    is_it : get_or us i t ≡ t
    is_it =
        let first : Some (get_or us i t) ≡ Some t = sym (ap (λ ts. slice_get (ts ++ plain (take i us)) 0) (drop_more us i t below)) ∙ at in
        cc

    off : drop 1 (drop i us ++ plain (take i us)) ≡ drop (i + 1) us ++ plain (take i us)
    off = ap (λ ts. drop 1 (ts ++ plain (take i us))) (drop_more us i t below)

    more : plain (take (i + 1) us) ≡ plain (take i us) ++ plain (t ∷ [])
    more = ap plain (take_more us i t below) ∙ plain_more (take i us) (get_or us i t) ∙ ap (λ x. plain (take i us) ++ plain (x ∷ [])) is_it

    -- A Marker goes, and another token goes round.
    pub round_marker : is_marker t ≡ true → drop 1 (drop i us ++ plain (take i us)) ≡ drop (i + 1) us ++ plain (take (i + 1) us)
    round_marker y = off ∙ ap (λ ts. drop (i + 1) us ++ ts) (sym (more ∙ ap (λ b. plain (take i us) ++ cond b [] (t ∷ [])) y ∙ append-nil (plain (take i us))))

    pub round_other : is_marker t ≡ false → drop 1 (drop i us ++ plain (take i us)) ++ t ∷ [] ≡ drop (i + 1) us ++ plain (take (i + 1) us)
    round_other n =
        ap (λ ts. ts ++ t ∷ []) off ∙ append_assoc (drop (i + 1) us) (plain (take i us)) (t ∷ [])
        ∙ ap (λ ts. drop (i + 1) us ++ ts) (sym (more ∙ ap (λ b. plain (take i us) ++ cond b [] (t ∷ [])) n))

    pub round_room : length (drop 1 (drop i us ++ plain (take i us))) < length us
    round_room =
        let few = plain_few (take i us) in
        omega (arith, below, few, ap length off, length-append (drop (i + 1) us) (plain (take i us)), length-drop (i + 1) us, length-take i us)

-- ## Searching for one

-- a Marker at a place that was reached without one
pub marker_here : (us : List Token) (i : ℕ) (t : Token) → slice_get us i ≡ Some t → has_marker us ≡ has_marker (drop i us) → is_marker t ≡ true → has_marker us ≡ true
marker_here us i t at front y =
    front ∙ ap has_marker (here us i t (slice_get_within us i t at) at) ∙ ap (λ b. cond b true (has_marker (drop (i + 1) us))) y
