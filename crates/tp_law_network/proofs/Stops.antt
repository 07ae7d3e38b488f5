-- The whole network stops where the first of its pieces does. Pieces may stop before a line of theirs is overfull: in a sound network
-- without Markers no line is.
use Rattle.std.proofs.Common.{◌≡◌, inl, inr, ℕ, zero, suc, ◌+◌, ◌<◌, ◌≤◌, List, [], ◌∷◌, length, take, true, refl, sym, ap, subst, ◌∙◌, arith, Option, Some}
use Rattle.tp_law_network.proofs.Lower.{cases_lt, Entry, Machine, Network, on_line, next, HasFourLinks, markers, NeverMarks, after, EndsSeen, Sound, KeepsFlight, owner}
use Rattle.tp_law_network.proofs.Local.{step_of}
use Rattle.tp_law_network.proofs.Partial.{bind_some}
use Rattle.tp_law_network.proofs.Plain.{step_markers}
use Rattle.tp_law_network.proofs.Room.{line_room}
use Rattle.tp_law_network.proofs.Sound.{sound_after}
use Rattle.tp_law_network.specs.Piece.{Agrees, Covers, Piece}
use Rattle.tp_law_network.specs.InPiece.{next_in}
use Rattle.tp_law_network.specs.Reach.{after_by, reach}
use Rattle.tp_law_network.specs.Stops.{IsLeastOf, IsOverfull, StopsAt}
use Rattle.tp_law_network.proofs.Reach.{is_there, reach-goes, reach-stops, after_by-goes, after-same, least_reach, pieces_end}

-- the entries before a place that is reached are possible
pub front_reached : {S : Type 0} (step : S → Entry → Option S) (s : S) (es : List Entry) (k : ℕ) → k ≤ reach step s es → (t : S) × (after_by step s (take k es) ≡ Some t)
unfolding after_by reach
front_reached step s es zero h = (s, refl)
front_reached step s [] (suc k) h = (s, refl)
front_reached step s (e ∷ es) (suc k) h = elim (is_there (step s e)) [
  | inl y ↦ (let is = reach-goes step s y.0 e es y.1 in let rest : k ≤ reach step y.0 es = omega (arith, is, h) in let T = front_reached step y.0 es k rest in (T.0, after_by-goes step s y.0 e (take k es) y.1 ∙ T.1))
  | inr n ↦ (let is = reach-stops step s e es n in absurd (omega (arith, is, h)))
]

-- entries leave as many Markers on each line
pub markers_after : {Node : Type 0} (M : Machine Node) → NeverMarks M → HasFourLinks M → (s t : Network Node) (es : List Entry) → after M s es ≡ Some t
    → (l : ℕ) → markers (on_line t.lines l) ≡ markers (on_line s.lines l)
unfolding after
markers_after M never four s t [] h l = let same : s ≡ t = cc in ap (λ (u : Network _). markers (on_line u.lines l)) (sym same)
markers_after M never four s t (e ∷ es) h l =
    let B = bind_some (next M s e) (λ u. after M u es) t h in
    markers_after M never four B.0 t es B.2 l ∙ step_markers M never s e B.0 four (step_of M s e B.0 B.1) l

module _ {Node : Type 0} (M : Machine Node) (E : EndsSeen Node) (four : HasFourLinks M) (keeps : KeepsFlight M E) (never : NeverMarks M)
    (s : Network Node) (sound : Sound E s) (unmarked : (l : ℕ) → markers (on_line s.lines l) ≡ 0) (es : List Entry) where
  -- A piece of a network that goes through doesn't overfill a line.
  pub never_overfull : (has : Piece) (u v : Network Node) → Agrees has s u → (k : ℕ) → k ≤ reach (next M) s es → after_by (next_in M has) u (take k es) ≡ Some v → IsOverfull has v → ⊥
  never_overfull has u v A k h e O =
      let T = front_reached (next M) s es k h in
      let leads : after M s (take k es) ≡ Some T.0 = after-same M s (take k es) ∙ T.1 in
      let P = pieces_end M four has s u A (take k es) T.0 leads in
      let same : v ≡ P.0 = (let both = sym e ∙ P.1 in cc) in
      let agree : Agrees has T.0 v = subst (Agrees has T.0) (sym same) P.2 in
      let line = agree.lines O.line (subst (λ n. has (owner n O.line) ≡ true) agree.nodes O.its) in
      let room = line_room (sound_after four keeps s T.0 (take k es) sound leads) O.line in
      let none = markers_after M never four s T.0 (take k es) leads O.line ∙ unmarked O.line in
      let long = subst (λ ts. 2 < length ts) line O.long in
      omega (arith, room, none, long)

  -- The whole network reaches exactly as far as the piece that stops first.
  pub least_stop : (count : ℕ) (pieces : ℕ → Piece) → Covers count pieces → (u : ℕ → Network Node) → ((i : ℕ) → i < count → Agrees (pieces i) s (u i))
      → (at : ℕ → ℕ) → ((i : ℕ) → i < count → StopsAt M (pieces i) (u i) es (at i)) → IsLeastOf count at (reach (next M) s es)
  least_stop count pieces covers u A at stops =
      let L = least_reach M four count pieces covers s u A es in
      let some = (stops L.one.0 L.one.1).went in
      let is = L.one.2 in
      let low = within L.one.0 L.one.1 in
      record { within = within; one = (L.one.0, L.one.1, omega (arith, some, is, low)) }
    where
      within : (i : ℕ) → i < count → reach (next M) s es ≤ at i
      within i below = elim ((stops i below).why) [
        | inl its ↦ (let low = (least_reach M four count pieces covers s u A es).within i below in omega (arith, its, low))
        | inr full ↦ elim (cases_lt (at i) (reach (next M) s es)) [
          | inl past ↦ absurd (never_overfull (pieces i) (u i) full.0 (A i below) (at i + 1) (omega (arith, past)) full.1 full.2)
          | inr not ↦ not
        ]
      ]
