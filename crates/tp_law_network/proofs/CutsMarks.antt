-- Lines with Markers: what comes before the first one, how many there are, and the line without them.
use Rattle.std.proofs.Common.{◌≡◌, ℕ, ◌+◌, ◌<◌, ◌≤◌, Bool, true, false, cond, inl, inr, List, [], ◌∷◌, ◌++◌, map, length, set, drop, refl, sym, ap, ◌∙◌, arith, append-nil}
use Rattle.std.specs.Prelude.{◌==◌}
use Rattle.tp_law_network.proofs.Lower.{AllByRecursion, cases_lt, cases_Bool, false≢true, get_or_past, map-set, set-get_or, Token, Marker, on_line, is_first, pushed, sent, for_line, is_marker, plain, before, markers, has_marker, unmarked}
use Rattle.tp_law_network.proofs.Lines.{first_is}
use Rattle.tp_law_network.proofs.Marks.{plain-append}
use Rattle.tp_law_network.proofs.Room.{on_line-plain}

-- ## One line

-- a line without Markers is as it is without them, and all of it comes before the first one
pub plain_unmarked : (us : List Token) → markers us ≡ 0 → plain us ≡ us
plain_unmarked [] h = refl
plain_unmarked (u ∷ us) h = go (is_marker u) h (plain_unmarked us)
  where
    go : (b : Bool) → cond b (markers us + 1) (markers us) ≡ 0 → (markers us ≡ 0 → plain us ≡ us) → cond b (plain us) (u ∷ plain us) ≡ u ∷ us
    go true h f = absurd (omega arith)
    go false h f = ap (λ ts. u ∷ ts) (f h)

pub before_unmarked : (us : List Token) → markers us ≡ 0 → before us ≡ us
before_unmarked [] h = refl
before_unmarked (u ∷ us) h = go (is_marker u) h (before_unmarked us)
  where
    go : (b : Bool) → cond b (markers us + 1) (markers us) ≡ 0 → (markers us ≡ 0 → before us ≡ us) → cond b [] (u ∷ before us) ≡ u ∷ us
    go true h f = absurd (omega arith)
    go false h f = ap (λ ts. u ∷ ts) (f h)

-- if there is no Marker at the front, what comes before one goes on
pub before-append : (us vs : List Token) → markers us ≡ 0 → before (us ++ vs) ≡ us ++ before vs
before-append [] vs h = refl
before-append (u ∷ us) vs h = go (is_marker u) h (before-append us vs)
  where
    go : (b : Bool) → cond b (markers us + 1) (markers us) ≡ 0 → (markers us ≡ 0 → before (us ++ vs) ≡ us ++ before vs) → cond b [] (u ∷ before (us ++ vs)) ≡ u ∷ us ++ before vs
    go true h f = absurd (omega arith)
    go false h f = ap (λ ts. u ∷ ts) (f h)

-- what comes after a Marker, or is a Marker itself, changes nothing before the first one
pub before-append_marked : (us vs : List Token) → 0 < markers us → before (us ++ vs) ≡ before us
before-append_marked [] vs h = absurd (omega arith)
before-append_marked (u ∷ us) vs h = go (is_marker u) h (before-append_marked us vs)
  where
    go : (b : Bool) → 0 < cond b (markers us + 1) (markers us) → (0 < markers us → before (us ++ vs) ≡ before us) → cond b [] (u ∷ before (us ++ vs)) ≡ cond b [] (u ∷ before us)
    go true h f = refl
    go false h f = ap (λ ts. u ∷ ts) (f h)

pub before-append_markers : (us vs : List Token) → before vs ≡ [] → before (us ++ vs) ≡ before us
before-append_markers [] vs h = h
before-append_markers (u ∷ us) vs h = go (is_marker u) (before-append_markers us vs h)
  where
    go : (b : Bool) → before (us ++ vs) ≡ before us → cond b [] (u ∷ before (us ++ vs)) ≡ cond b [] (u ∷ before us)
    go true f = refl
    go false f = ap (λ ts. u ∷ ts) f

-- ## A Marker that is taken out

-- it is one less,
pub unmarked_markers : (us : List Token) → has_marker us ≡ true → markers us ≡ markers (unmarked us) + 1
unmarked_markers [] h = absurd (false≢true h)
unmarked_markers (u ∷ us) h = elim (cases_Bool (is_marker u)) [
  | inl y ↦ ap (λ b. cond b (markers us + 1) (markers us)) y ∙ ap (λ ts. markers ts + 1) (sym (ap (λ b. cond b us (u ∷ unmarked us)) y))
  | inr n ↦ ap (λ b. cond b (markers us + 1) (markers us)) n
      ∙ unmarked_markers us (sym (ap (λ b. cond b true (has_marker us)) n) ∙ h)
      ∙ ap (λ m. m + 1) (sym (ap (λ b. cond b (markers (unmarked us) + 1) (markers (unmarked us))) n))
      ∙ ap (λ ts. markers ts + 1) (sym (ap (λ b. cond b us (u ∷ unmarked us)) n))
]

-- and the line without Markers is as it was
unmarked_plain : (us : List Token) → plain (unmarked us) ≡ plain us
unmarked_plain [] = refl
unmarked_plain (u ∷ us) = elim (cases_Bool (is_marker u)) [
  | inl y ↦ ap (λ b. plain (cond b us (u ∷ unmarked us))) y ∙ sym (ap (λ b. cond b (plain us) (u ∷ plain us)) y)
  | inr n ↦ ap (λ b. plain (cond b us (u ∷ unmarked us))) n
      ∙ ap (λ b. cond b (plain (unmarked us)) (u ∷ plain (unmarked us))) n
      ∙ ap (λ ts. u ∷ ts) (unmarked_plain us)
      ∙ sym (ap (λ b. cond b (plain us) (u ∷ plain us)) n)
]

-- if there is no second one, it is the line without Markers
pub unmarked_all : (us : List Token) → markers us ≤ 1 → plain us ≡ unmarked us
unmarked_all [] few = refl
unmarked_all (u ∷ us) few = elim (cases_Bool (is_marker u)) [
  | inl y ↦
      let one = ap (λ b. cond b (markers us + 1) (markers us)) y in
      ap (λ b. cond b (plain us) (u ∷ plain us)) y ∙ plain_unmarked us (omega (arith, few, one)) ∙ sym (ap (λ b. cond b us (u ∷ unmarked us)) y)
  | inr n ↦
      let same = ap (λ b. cond b (markers us + 1) (markers us)) n in
      ap (λ b. cond b (plain us) (u ∷ plain us)) n ∙ ap (λ ts. u ∷ ts) (unmarked_all us (omega (arith, few, same))) ∙ sym (ap (λ b. cond b us (u ∷ unmarked us)) n)
]

-- ## Tokens on their lines

-- all are Markers
abbrev pub AreMarkers : List (ℕ × Token) → Type 0
AreMarkers = AllByRecursion (λ m. is_marker m.1 ≡ true)

pub for_line_markers : (l : ℕ) (ms : List (ℕ × Token)) → AreMarkers ms → before (for_line l ms) ≡ []
for_line_markers l [] all = refl
for_line_markers l (m ∷ ms) all = go (m.0 == l) (for_line_markers l ms all.1)
  where
    go : (b : Bool) → before (for_line l ms) ≡ [] → before (cond b (m.1 ∷ for_line l ms) (for_line l ms)) ≡ []
    go true h = rw all.0
    go false h = h

-- ## All lines without Markers

-- Markers that are sent can't be seen without Markers
pub pushed_marker : (on : ℕ → Bool) (lines : List (List Token)) (k : ℕ) (t : Token) → is_marker t ≡ true → map plain (pushed on lines k t) ≡ map plain lines
unfolding pushed
pushed_marker on lines k t y = elim (cases_Bool (on k)) [
  | inl opens ↦ rw opens (
      map-set plain lines k (on_line lines k ++ t ∷ [])
      ∙ ap (λ ts. set (map plain lines) k ts) (plain-append (on_line lines k) (t ∷ []) ∙ ap (λ b. plain (on_line lines k) ++ cond b [] (t ∷ [])) y ∙ append-nil (plain (on_line lines k)) ∙ sym (on_line-plain lines k))
      ∙ set-get_or (map plain lines) k []
      )
  | inr shut ↦ rw shut
]

pub sent_markers : (on : ℕ → Bool) (lines : List (List Token)) (ms : List (ℕ × Token)) → AreMarkers ms → map plain (sent on lines ms) ≡ map plain lines
unfolding sent
sent_markers on lines [] all = refl
sent_markers on lines (m ∷ ms) all = sent_markers on (pushed on lines m.0 m.1) ms all.1 ∙ pushed_marker on lines m.0 m.1 all.0

-- nor can a Marker that is taken out,
pub marker_gone : (lines : List (List Token)) (l : ℕ) → map plain (set lines l (unmarked (on_line lines l))) ≡ map plain lines
marker_gone lines l =
    map-set plain lines l (unmarked (on_line lines l))
    ∙ ap (λ ts. set (map plain lines) l ts) (unmarked_plain (on_line lines l) ∙ sym (on_line-plain lines l))
    ∙ set-get_or (map plain lines) l []

-- or that is taken from the front
pub taken_marker : (lines : List (List Token)) (l : ℕ) → is_first (on_line lines l) Marker ≡ true → map plain (set lines l (drop 1 (on_line lines l))) ≡ map plain lines
taken_marker lines l e = ap (λ ts. map plain (set lines l ts)) (sym (ap unmarked (first_is (on_line lines l) Marker e))) ∙ marker_gone lines l

-- a line with a Marker is one of the lines
pub marker_there : (lines : List (List Token)) (l : ℕ) → has_marker (on_line lines l) ≡ true → l < length lines
marker_there lines l e = elim (cases_lt l (length lines)) [
  | inl h ↦ h
  | inr h ↦ absurd (false≢true (sym (ap has_marker (get_or_past lines l [] h)) ∙ e))
]
