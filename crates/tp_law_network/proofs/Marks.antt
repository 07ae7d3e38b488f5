-- Lines with Markers and lines without: what is taken and sent that is no Marker.
use Rattle.std.proofs.Common.{◌≡◌, ℕ, ◌+◌, Bool, true, false, cond, inl, inr, List, [], ◌∷◌, ◌++◌, length, map, set, drop, refl, sym, ap, ◌∙◌, arith, Some}
use Rattle.tp_law_network.proofs.Lower.{AllByRecursion, cases_Bool, cases_lt, map-set, get_or_past, Token, on_line, is_first, taken, pushed, sent, for_line, is_marker, plain, markers}
use Rattle.tp_law_network.proofs.Lines.{first_is, same_token-self, cons_taken, taken_cons, on_taken, on_sent, on_sent_past}
use Rattle.tp_law_network.proofs.Room.{markers-for_line, on_line-plain}

-- none of the tokens is a Marker
abbrev pub AreUnmarked : List (ℕ × Token) → Type 0
AreUnmarked = AllByRecursion (λ m. is_marker m.1 ≡ false)

abbrev pub HasNoMarker : List Token → Type 0
HasNoMarker = AllByRecursion (λ t. is_marker t ≡ false)

pub markers-append : (us vs : List Token) → markers (us ++ vs) ≡ markers us + markers vs
markers-append [] vs = omega arith
markers-append (u ∷ us) vs = elim (cases_Bool (is_marker u)) [
  | inl y ↦ rw (y, markers-append us vs) (omega arith)
  | inr n ↦ rw (n, markers-append us vs)
]

pub plain-append : (us vs : List Token) → plain (us ++ vs) ≡ plain us ++ plain vs
plain-append [] vs = refl
plain-append (u ∷ us) vs = elim (cases_Bool (is_marker u)) [
  | inl y ↦ rw y (plain-append us vs)
  | inr n ↦ rw n (ap (λ ts. u ∷ ts) (plain-append us vs))
]

-- ## Without Markers

-- a token at the front that isn't a Marker is at the front without Markers, too
pub first_plain : (ts : List Token) (t : Token) → is_marker t ≡ false → is_first ts t ≡ true → (is_first (plain ts) t ≡ true) × (drop 1 (plain ts) ≡ plain (drop 1 ts))
first_plain ts t n e =
    let split : plain ts ≡ t ∷ plain (drop 1 ts) = ap plain (first_is ts t e) ∙ ap (λ b. cond b (plain (drop 1 ts)) (t ∷ plain (drop 1 ts))) n in
    (ap (λ us. is_first us t) split ∙ same_token-self t, ap (drop 1) split)

pub taken_plain : (lines : List (List Token)) (ms : List (ℕ × Token)) (out : List (List Token)) → AreUnmarked ms → taken lines ms ≡ Some out
    → taken (map plain lines) ms ≡ Some (map plain out)
unfolding taken
taken_plain lines [] out all e = let same : lines ≡ out = cc in ap (λ ls. Some (map plain ls)) same
taken_plain lines (m ∷ ms) out all e =
    let T = taken_cons lines m ms out e in
    let F = first_plain (on_line lines m.0) m.1 all.0 T.0 in
    let at = on_line-plain lines m.0 in
    cons_taken (map plain lines) m ms (ap (λ ts. is_first ts m.1) at ∙ F.0)
    ∙ ap (λ ls. taken ls ms)
    (ap (λ ts. set (map plain lines) m.0 (drop 1 ts)) at
    ∙ ap (λ ts. set (map plain lines) m.0 ts) F.1
    ∙ sym (map-set plain lines m.0 (drop 1 (on_line lines m.0))))
    ∙ taken_plain (set lines m.0 (drop 1 (on_line lines m.0))) ms out all.1 T.1

pub pushed_plain : (on : ℕ → Bool) (lines : List (List Token)) (k : ℕ) (t : Token) → is_marker t ≡ false → map plain (pushed on lines k t) ≡ pushed on (map plain lines) k t
unfolding pushed
pushed_plain on lines k t n = elim (cases_Bool (on k)) [
  | inl y ↦ rw y (
      map-set plain lines k (on_line lines k ++ t ∷ [])
      ∙ ap (λ ts. set (map plain lines) k ts) (plain-append (on_line lines k) (t ∷ []) ∙ ap (λ b. plain (on_line lines k) ++ cond b [] (t ∷ [])) n ∙ ap (λ ts. ts ++ t ∷ []) (sym (on_line-plain lines k)))
      )
  | inr shut ↦ rw shut
]

pub sent_plain : (on : ℕ → Bool) (lines : List (List Token)) (ms : List (ℕ × Token)) → AreUnmarked ms → map plain (sent on lines ms) ≡ sent on (map plain lines) ms
unfolding sent
sent_plain on lines [] all = refl
sent_plain on lines (m ∷ ms) all = sent_plain on (pushed on lines m.0 m.1) ms all.1 ∙ ap (λ ls. sent on ls ms) (pushed_plain on lines m.0 m.1 all.0)

-- ## How many Markers

pub markers-taken : (lines : List (List Token)) (ms : List (ℕ × Token)) (out : List (List Token)) → AreUnmarked ms → taken lines ms ≡ Some out
    → (l : ℕ) → markers (on_line out l) ≡ markers (on_line lines l)
markers-taken lines ms out all e l =
    sym (ap markers (on_taken lines ms out e l) ∙ markers-append (for_line l ms) (on_line out l) ∙ ap (λ n. n + markers (on_line out l)) (markers-for_line l ms all) ∙ omega arith)

pub markers-sent : (on : ℕ → Bool) (lines : List (List Token)) (ms : List (ℕ × Token)) → AreUnmarked ms → (l : ℕ) → markers (on_line (sent on lines ms) l) ≡ markers (on_line lines l)
markers-sent on lines ms all l = elim (cases_lt l (length lines)) [
  | inl h ↦ ap markers (on_sent on lines ms l (λ _. h)) ∙ markers-append (on_line lines l) (cond (on l) (for_line l ms) []) ∙ ap (λ n. markers (on_line lines l) + n) (none (on l)) ∙ omega arith
  | inr h ↦ ap markers (on_sent_past on lines ms l h ∙ sym (get_or_past lines l [] h))
]
  where
    none : (b : Bool) → markers (cond b (for_line l ms) []) ≡ 0
    none true = markers-for_line l ms all
    none false = refl
