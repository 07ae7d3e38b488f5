-- How much a run sends, and how much a line of a sound network holds.
use Rattle.std.proofs.Common.{◌≡◌, ℕ, zero, suc, ◌+◌, ◌<◌, ◌≤◌, Bool, true, false, inl, inr, List, [], ◌∷◌, ◌++◌, map, length, refl, sym, subst, ◌∙◌, arith, Some, eqb}
use Rattle.tp_law_network.proofs.Lower.{cases_Bool, length-map, AllByRecursion, get_or-map, Token, Data, Ack, Marker, bit, ◌>>=◌, Machine, steps, Network, own, has_wire, on_line, for_line, HasFourLinks, EndsSeen, datas, acks, end_waits, end_holds, Sound, KeepsFlight, is_marker, plain, markers, plain_network, NeverMarks}
use Rattle.tp_law_network.proofs.Partial.{all_append, bind_some}
use Rattle.tp_law_network.proofs.Local.{steps_links}
use Rattle.tp_law_network.proofs.Flight.{steps_moves}
use Rattle.tp_law_network.proofs.Sound.{unwired-back, sound_small}

-- a line's tokens, by kind
pub length-kinds : (ts : List Token) → length ts ≡ datas ts + acks ts + markers ts
length-kinds [] = refl
length-kinds (Data b ∷ ts) = omega (arith, length-kinds ts)
length-kinds (Ack ∷ ts) = omega (arith, length-kinds ts)
length-kinds (Marker ∷ ts) = omega (arith, length-kinds ts)

-- tokens, by link
pub length-links : (ms : List (ℕ × Token)) → AllByRecursion (λ m. m.0 < 4) ms
    → length ms ≡ length (for_line 0 ms) + length (for_line 1 ms) + length (for_line 2 ms) + length (for_line 3 ms)
length-links [] all = refl
length-links ((zero, t) ∷ ms) all = omega (arith, length-links ms all.1)
length-links ((suc zero, t) ∷ ms) all = omega (arith, length-links ms all.1)
length-links ((suc (suc zero), t) ∷ ms) all = omega (arith, length-links ms all.1)
length-links ((suc (suc (suc zero)), t) ∷ ms) all = omega (arith, length-links ms all.1)
length-links ((suc (suc (suc (suc k))), t) ∷ ms) all = let h : suc (suc (suc (suc k))) < 4 = all.0 in absurd (omega arith)

-- no Markers among tokens, and so none among those of a line
pub markers-for_line : (l : ℕ) (ms : List (ℕ × Token)) → AllByRecursion (λ m. is_marker m.1 ≡ false) ms → markers (for_line l ms) ≡ 0
markers-for_line l [] all = refl
markers-for_line l (m ∷ ms) all = elim (cases_Bool (eqb m.0 l)) [
  | inl y ↦ rw (y, all.0) (markers-for_line l ms all.1)
  | inr n ↦ rw n (markers-for_line l ms all.1)
]

pub steps_unmarked : {Node : Type 0} {M : Machine Node} → NeverMarks M → (count : ℕ) (node : Node) (after : Node × List (ℕ × Token)) → steps M count node ≡ Some after → AllByRecursion (λ m. is_marker m.1 ≡ false) after.1
unfolding steps
steps_unmarked never zero node after e = let same : (node, []) ≡ after = cc in subst (λ r. AllByRecursion (λ m. is_marker m.1 ≡ false) r.1) same tt
steps_unmarked {M = M} never (suc count) node after e =
    let a = bind_some (M.step node) (λ first. steps M count first.0 >>= λ rest. Some (rest.0, first.1 ++ rest.1)) after e in
    let b = bind_some (steps M count a.0.0) (λ rest. Some (rest.0, a.0.1 ++ rest.1)) after a.2 in
    let same : (b.0.0, a.0.1 ++ b.0.1) ≡ after = cc in
    subst (λ r. AllByRecursion (λ m. is_marker m.1 ≡ false) r.1) same
    (all_append (λ m. is_marker m.1 ≡ false) a.0.1 b.0.1 (never.step node a.0 a.1) (steps_unmarked never count a.0.0 b.0 b.1))

module _ {Node : Type 0} {M : Machine Node} {E : EndsSeen Node} (four : HasFourLinks M) (keeps : KeepsFlight M E) where
  -- Over a run of steps, each link sends at most one Data and one Ack.
  pub run_small : (count : ℕ) (node : Node) (after : Node × List (ℕ × Token)) → steps M count node ≡ Some after
      → (k : ℕ) → k < 4 → (datas (for_line k after.1) ≤ 1) × (acks (for_line k after.1) ≤ 1)
  run_small count node after e k h =
      let moves = steps_moves keeps count node after e in
      (low _ (E.waits node k) (E.waits after.0 k) (moves.out k h), high _ (E.holds after.0 k) (E.holds node k) (moves.inn k h))
    where
      low : (d : ℕ) (b c : Bool) → bit c + 0 ≡ bit b + d → d ≤ 1
      low d b true e = omega arith
      low d b false e = omega arith

      high : (d : ℕ) (b c : Bool) → bit b + d ≡ bit c + 0 → d ≤ 1
      high d b true e = omega arith
      high d b false e = omega arith

  -- So a run sends at most 8 tokens.
  pub run_bounded : NeverMarks M → (count : ℕ) (node : Node) (after : Node × List (ℕ × Token)) → steps M count node ≡ Some after → length after.1 ≤ 8
  run_bounded never count node after e =
      rw (length-links after.1 (steps_links M four count node after e)) (omega (arith, each 0 (omega arith), each 1 (omega arith), each 2 (omega arith), each 3 (omega arith)))
    where
      each : (k : ℕ) → k < 4 → length (for_line k after.1) ≤ 2
      each k h = let small = run_small count node after e k h in
          omega (arith, length-kinds (for_line k after.1), markers-for_line k after.1 (steps_unmarked never count node after e), small.0, small.1)

-- ## Room for a push

-- A line holds at most a Data, an Ack and its Markers.
pub line_room : {Node : Type 0} {E : EndsSeen Node} {s : Network Node} → Sound E s → (x : ℕ) → length (on_line s.lines x) ≤ 2 + markers (on_line s.lines x)
line_room {s = s} sound x = let small = sound_small sound x in omega (arith, length-kinds (on_line s.lines x), small.0, small.1)

-- ## Lines with Markers

pub datas-plain : (ts : List Token) → datas (plain ts) ≡ datas ts
datas-plain [] = refl
datas-plain (Data b ∷ ts) = omega (arith, datas-plain ts)
datas-plain (Ack ∷ ts) = omega (arith, datas-plain ts)
datas-plain (Marker ∷ ts) = omega (arith, datas-plain ts)

pub acks-plain : (ts : List Token) → acks (plain ts) ≡ acks ts
acks-plain [] = refl
acks-plain (Data b ∷ ts) = omega (arith, acks-plain ts)
acks-plain (Ack ∷ ts) = omega (arith, acks-plain ts)
acks-plain (Marker ∷ ts) = omega (arith, acks-plain ts)

pub on_line-plain : (lines : List (List Token)) (x : ℕ) → on_line (map plain lines) x ≡ plain (on_line lines x)
on_line-plain lines x = get_or-map plain lines x []

-- the same ends and wires, with other lines
pub own-plain : {Node : Type 0} (s : Network Node) (p : ℕ) → own (plain_network s) p ≡ own s p
unfolding own
own-plain s p = refl

pub end_waits-plain : {Node : Type 0} (E : EndsSeen Node) (s : Network Node) (x : ℕ) → end_waits E (plain_network s) x ≡ end_waits E s x
unfolding own
end_waits-plain E s x = refl

pub end_holds-plain : {Node : Type 0} (E : EndsSeen Node) (s : Network Node) (x : ℕ) → end_holds E (plain_network s) x ≡ end_holds E s x
unfolding own
end_holds-plain E s x = refl

-- Markers leave a network sound,
pub sound_marked : {Node : Type 0} {E : EndsSeen Node} (s : Network Node) → Sound E (plain_network s) → ((x : ℕ) → has_wire s.wires x ≡ false → on_line s.lines x ≡ []) → Sound E s
sound_marked {E = E} s sound unwired = record {
  wires = record { both_ways = λ x y b. sound.wires.both_ways x y b; links = λ x i k r. sound.wires.links x i k r };
  there = λ x y. subst (λ n. x < n) (length-map s.lines plain) (sound.there x y);
  flight = λ x y b.
      rw (← datas-plain (on_line s.lines x), ← acks-plain (on_line s.lines y), ← on_line-plain s.lines x, ← on_line-plain s.lines y, ← end_waits-plain E s x, ← end_holds-plain E s y) (sound.flight x y b);
  none = λ x b. (unwired x (unwired-back s x b), sym (end_holds-plain E s x) ∙ (sound.none x b).1);
}
