-- Every entry keeps a sound network sound; in one, at most one Data and one Ack are on a line.
use Rattle.std.proofs.Common.{◌≡◌, ◌≢◌, ℕ, ◌+◌, ◌<◌, ◌≤◌, Bool, true, false, cond, inl, inr, List, [], ◌∷◌, ◌++◌, length, refl, sym, ap, subst, ◌∙◌, arith, Option, Some, None, eq-eqb, ne_eqb}
use Rattle.tp_law_network.proofs.Lower.{cases_eq, option_map, Token, WireEnd, Entry, bit, Machine, Network, Own, own, receiver, is_wired, has_wire, line_of, back, on_line, for_line, HasFourLinks, process, takes, next, after, EndsSeen, datas, acks, owner, own_waits, own_holds, end_waits, end_holds, Wired, Sound, KeepsFlight}
use Rattle.tp_law_network.proofs.Lines.{for_line-elsewhere, on_taken, length_taken, on_sent}
use Rattle.tp_law_network.proofs.Partial.{bind_some}
use Rattle.tp_law_network.proofs.Local.{Step, step_of, SameShape, step_lines, step_takes, step_sends, step_shape, step_own_same, step_own_other}
use Rattle.tp_law_network.proofs.Flight.{datas-append, acks-append, Moves, came, came_in, arrivals, arrivals_own, does_moves}

-- ## The ends and the lines, before and after

-- an end, if the state of its process is known
pub end_waits_is : {Node : Type 0} (E : EndsSeen Node) (s : Network Node) (N z : ℕ) (x : Own Node) → length s.nodes ≡ N → own s (owner N z) ≡ Some x → end_waits E s z ≡ own_waits E N x z
end_waits_is E s N z x n o = rw (n, o) refl

pub end_holds_is : {Node : Type 0} (E : EndsSeen Node) (s : Network Node) (N z : ℕ) (x : Own Node) → length s.nodes ≡ N → own s (owner N z) ≡ Some x → end_holds E s z ≡ own_holds E x z
end_holds_is E s N z x n o = rw (n, o) refl

-- an end, if the state of its process is as in another network
pub end_waits_as : {Node : Type 0} (E : EndsSeen Node) (s t : Network Node) (z : ℕ) → length t.nodes ≡ length s.nodes → own t (owner (length s.nodes) z) ≡ own s (owner (length s.nodes) z) → end_waits E t z ≡ end_waits E s z
end_waits_as E s t z n o = rw (n, o) refl

pub end_holds_as : {Node : Type 0} (E : EndsSeen Node) (s t : Network Node) (z : ℕ) → length t.nodes ≡ length s.nodes → own t (owner (length s.nodes) z) ≡ own s (owner (length s.nodes) z) → end_holds E t z ≡ end_holds E s z
end_holds_as E s t z n o = rw (n, o) refl

-- What an entry changes: each line loses a front and gains a back, and what each end does agrees with that.
pub record Across {Node : Type 0} (E : EndsSeen Node) (s : Network Node) (e : Entry) (t : Network Node) : Type 0 where
  pub wires : t.wires ≡ s.wires
  pub nodes : length t.nodes ≡ length s.nodes
  pub long : length t.lines ≡ length s.lines
  pub sends : List (ℕ × Token)
  pub rest : List (List Token)
  pub front : (x : ℕ) → on_line s.lines x ≡ for_line x (takes s.wires (length s.nodes) e) ++ on_line rest x
  pub behind : (x : ℕ) → (has_wire s.wires x ≡ true → x < length s.lines) → on_line t.lines x ≡ on_line rest x ++ cond (has_wire s.wires x) (for_line x sends) []
  pub out : (z : ℕ) → bit (end_waits E t z) + acks (for_line z (arrivals s e)) ≡ bit (end_waits E s z) + datas (for_line z sends)
  pub inn : (z : ℕ) → bit (end_holds E t z) + acks (for_line z sends) ≡ bit (end_holds E s z) + datas (for_line z (arrivals s e))

module _ {Node : Type 0} {M : Machine Node} {E : EndsSeen Node} (four : HasFourLinks M) (keeps : KeepsFlight M E) where
  pub across_step : (s t : Network Node) (e : Entry) → Wired s → Step M s e t → Across E s e t
  across_step s t e wired S = record {
    wires = shape.wires;
    nodes = shape.nodes;
    long = shape.lines;
    sends = S.sends;
    rest = S.out;
    front = on_taken s.lines (takes s.wires (length s.nodes) e) S.out S.takes_out;
    behind = λ x there. ap (λ ls. on_line ls x) (step_lines M four s e t S) ∙ on_sent (has_wire s.wires) S.out S.sends x (λ y. subst (λ n. x < n) (sym (length_taken s.lines (takes s.wires (length s.nodes) e) S.out S.takes_out)) (there y));
    out = out;
    inn = inn;
  }
    where
      shape : SameShape s t
      shape = step_shape M four s e t S

      moves : Moves E (length s.nodes) (process s.wires (length s.nodes) e) S.was (arrivals s e) (S.now, S.sends)
      moves = does_moves keeps s e S.was (S.now, S.sends) wired S.own_was S.change

      -- lines of other processes
      no_sends : (z : ℕ) → owner (length s.nodes) z ≢ process s.wires (length s.nodes) e → for_line z S.sends ≡ []
      no_sends z n = for_line-elsewhere (owner (length s.nodes)) (process s.wires (length s.nodes) e) z S.sends (step_sends M four s e t S) n

      no_arrivals : (z : ℕ) → owner (length s.nodes) z ≢ process s.wires (length s.nodes) e → for_line z (arrivals s e) ≡ []
      no_arrivals z n = for_line-elsewhere (owner (length s.nodes)) (process s.wires (length s.nodes) e) z (arrivals s e) (arrivals_own s (process s.wires (length s.nodes) e) (takes s.wires (length s.nodes) e) wired (step_takes M four s e t S)) n

      now_own : (z : ℕ) → owner (length s.nodes) z ≡ process s.wires (length s.nodes) e → own t (owner (length s.nodes) z) ≡ Some S.now
      now_own z y = ap (own t) y ∙ step_own_same M four s e t S

      was_own : (z : ℕ) → owner (length s.nodes) z ≡ process s.wires (length s.nodes) e → own s (owner (length s.nodes) z) ≡ Some S.was
      was_own z y = ap (own s) y ∙ S.own_was

      out : (z : ℕ) → bit (end_waits E t z) + acks (for_line z (arrivals s e)) ≡ bit (end_waits E s z) + datas (for_line z S.sends)
      out z = elim (cases_eq (owner (length s.nodes) z) (process s.wires (length s.nodes) e)) [
        | inl y ↦ rw (end_waits_is E t (length s.nodes) z S.now shape.nodes (now_own z y), end_waits_is E s (length s.nodes) z S.was refl (was_own z y)) (moves.out z y)
        | inr n ↦ rw (end_waits_as E s t z shape.nodes (step_own_other M four s e t S (owner (length s.nodes) z) n), no_sends z n, no_arrivals z n) refl
      ]

      inn : (z : ℕ) → bit (end_holds E t z) + acks (for_line z S.sends) ≡ bit (end_holds E s z) + datas (for_line z (arrivals s e))
      inn z = elim (cases_eq (owner (length s.nodes) z) (process s.wires (length s.nodes) e)) [
        | inl y ↦ rw (end_holds_is E t (length s.nodes) z S.now shape.nodes (now_own z y), end_holds_is E s (length s.nodes) z S.was refl (was_own z y)) (moves.inn z y)
        | inr n ↦ rw (end_holds_as E s t z shape.nodes (step_own_other M four s e t S (owner (length s.nodes) z) n), no_sends z n, no_arrivals z n) refl
      ]

  pub across : (s t : Network Node) (e : Entry) → Wired s → next M s e ≡ Some t → Across E s e t
  across s t e wired h = across_step s t e wired (step_of M s e t h)

-- ## What comes in, by the line that it is taken from and by the end at which it comes in

pub wire_one : {Node : Type 0} (s : Network Node) → Wired s → (x l y : ℕ) → back s x ≡ Some y → back s l ≡ Some y → l ≡ x
wire_one s wired x l y a b = let c : back s y ≡ Some x = wired.both_ways x y a in let d : back s y ≡ Some l = wired.both_ways l y b in cc

pub arrivals_taken : {Node : Type 0} (s : Network Node) → Wired s → (ms : List (ℕ × Token)) (x y : ℕ) → back s x ≡ Some y → for_line y (came_in s ms) ≡ for_line x ms
arrivals_taken s wired [] x y b = refl
arrivals_taken {Node} s wired (m ∷ ms) x y b = elim (cases_eq m.0 x) [
  | inl same ↦ rw (same, b, eq-eqb x x refl, eq-eqb y y refl) (ap (λ ts. m.1 ∷ ts) (arrivals_taken s wired ms x y b))
  | inr other ↦ go (back s m.0) refl other (arrivals_taken s wired ms x y b)
]
  where
    go : (o : Option ℕ) → back s m.0 ≡ o → m.0 ≢ x → for_line y (came_in s ms) ≡ for_line x ms → for_line y (came o m.1 (came_in s ms)) ≡ for_line x (m ∷ ms)
    go None e n rest = rw (ne_eqb m.0 x n) rest
    go (Some z) e n rest = rw (ne_eqb m.0 x n, ne_eqb z y (λ same. n (wire_one s wired x m.0 y b (rw same at e)))) rest

pub arrivals_none : {Node : Type 0} (s : Network Node) → Wired s → (ms : List (ℕ × Token)) (x : ℕ) → back s x ≡ None → for_line x (came_in s ms) ≡ []
arrivals_none s wired [] x b = refl
arrivals_none {Node} s wired (m ∷ ms) x b = go (back s m.0) refl (arrivals_none s wired ms x b)
  where
    go : (o : Option ℕ) → back s m.0 ≡ o → for_line x (came_in s ms) ≡ [] → for_line x (came o m.1 (came_in s ms)) ≡ []
    go None e rest = rest
    go (Some z) e rest = rw (ne_eqb z x (λ same. no_wire same)) rest
      where
        no_wire : z ≡ x → ⊥
        no_wire same = let c : back s z ≡ Some m.0 = wired.both_ways m.0 z e in let d : back s z ≡ None = rw same b in cc

-- ## Kept

pub wired-back : {Node : Type 0} (s : Network Node) (x y : ℕ) → back s x ≡ Some y → has_wire s.wires x ≡ true
wired-back s x y b = go (receiver s.wires x) b
  where
    go : (o : Option WireEnd) → option_map (line_of (length s.nodes)) o ≡ Some y → is_wired o ≡ true
    go None e = cc
    go (Some end) e = refl

pub unwired-back : {Node : Type 0} (s : Network Node) (x : ℕ) → back s x ≡ None → has_wire s.wires x ≡ false
unwired-back s x b = go (receiver s.wires x) b
  where
    go : (o : Option WireEnd) → option_map (line_of (length s.nodes)) o ≡ None → is_wired o ≡ false
    go None e = refl
    go (Some end) e = cc

nothing_left : (ts us : List Token) → ts ++ us ≡ [] → us ≡ []
nothing_left [] us e = e
nothing_left (t ∷ ts) us e = cc

no_bit : (b : Bool) (n : ℕ) → bit b + n ≡ 0 → b ≡ false
no_bit true n e = absurd (omega arith)
no_bit false n e = refl

module _ {Node : Type 0} {E : EndsSeen Node} {s t : Network Node} {e : Entry} (sound : Sound E s) (a : Across E s e t) where
  back-across : (x : ℕ) → back t x ≡ back s x
  back-across x = rw (a.wires, a.nodes) refl

  -- what is on a line with a wire
  datas_across : (x y : ℕ) → back s x ≡ Some y → datas (on_line t.lines x) + datas (for_line x (takes s.wires (length s.nodes) e)) ≡ datas (on_line s.lines x) + datas (for_line x a.sends)
  datas_across x y b =
      rw (a.behind x (sound.there x), wired-back s x y b, a.front x, datas-append (for_line x (takes s.wires (length s.nodes) e)) (on_line a.rest x), datas-append (on_line a.rest x) (for_line x a.sends)) (omega arith)

  acks_across : (x y : ℕ) → back s x ≡ Some y → acks (on_line t.lines x) + acks (for_line x (takes s.wires (length s.nodes) e)) ≡ acks (on_line s.lines x) + acks (for_line x a.sends)
  acks_across x y b =
      rw (a.behind x (sound.there x), wired-back s x y b, a.front x, acks-append (for_line x (takes s.wires (length s.nodes) e)) (on_line a.rest x), acks-append (on_line a.rest x) (for_line x a.sends)) (omega arith)

  flight_across : (x y : ℕ) → back s x ≡ Some y → bit (end_waits E t x) ≡ datas (on_line t.lines x) + acks (on_line t.lines y) + bit (end_holds E t y)
  flight_across x y b =
      let c : back s y ≡ Some x = sound.wires.both_ways x y b in
      let in_x : for_line y (arrivals s e) ≡ for_line x (takes s.wires (length s.nodes) e) = arrivals_taken s sound.wires (takes s.wires (length s.nodes) e) x y b in
      let in_y : for_line x (arrivals s e) ≡ for_line y (takes s.wires (length s.nodes) e) = arrivals_taken s sound.wires (takes s.wires (length s.nodes) e) y x c in
      sum_up (bit (end_waits E s x)) (bit (end_waits E t x)) (bit (end_holds E s y)) (bit (end_holds E t y))
      (datas (on_line s.lines x)) (datas (on_line t.lines x)) (acks (on_line s.lines y)) (acks (on_line t.lines y))
      (datas (for_line x (takes s.wires (length s.nodes) e))) (datas (for_line x a.sends)) (acks (for_line y (takes s.wires (length s.nodes) e))) (acks (for_line y a.sends))
      (sound.flight x y b) (datas_across x y b) (acks_across y x c) (rw in_y at (a.out x)) (rw in_x at (a.inn y))
    where
      sum_up : (w w' h h' d d' k k' dt ds kt ks : ℕ) → w ≡ d + k + h → d' + dt ≡ d + ds → k' + kt ≡ k + ks → w' + kt ≡ w + ds → h' + ks ≡ h + dt → w' ≡ d' + k' + h'
      sum_up w w' h h' d d' k k' dt ds kt ks a1 a2 a3 a4 a5 = omega arith

  none_across : (x : ℕ) → back s x ≡ None → (on_line t.lines x ≡ []) × (end_holds E t x ≡ false)
  none_across x b =
      let rest : on_line a.rest x ≡ [] = nothing_left (for_line x (takes s.wires (length s.nodes) e)) (on_line a.rest x) (sym (a.front x) ∙ (sound.none x b).0) in
      let held : bit (end_holds E t x) + acks (for_line x a.sends) ≡ 0 = rw ((sound.none x b).1, arrivals_none s sound.wires (takes s.wires (length s.nodes) e) x b) at (a.inn x) in
      (a.behind x (sound.there x) ∙ rw (rest, unwired-back s x b) refl, no_bit (end_holds E t x) (acks (for_line x a.sends)) held)

  pub sound_across : Sound E t
  sound_across = record {
    wires = record {
      both_ways = λ x y b. back-across y ∙ sound.wires.both_ways x y (sym (back-across x) ∙ b);
      links = λ x i k r. rw a.nodes (sound.wires.links x i k (rw a.wires at r));
    };
    there = λ x y. rw a.long (sound.there x (rw a.wires at y));
    flight = λ x y b. flight_across x y (sym (back-across x) ∙ b);
    none = λ x b. none_across x (sym (back-across x) ∙ b);
  }

-- Every entry keeps a sound network sound.
pub sound_kept : {Node : Type 0} {M : Machine Node} {E : EndsSeen Node} → HasFourLinks M → KeepsFlight M E → (s t : Network Node) (e : Entry) → Sound E s → next M s e ≡ Some t → Sound E t
sound_kept four keeps s t e sound h = sound_across sound (across four keeps s t e sound.wires h)

pub sound_after : {Node : Type 0} {M : Machine Node} {E : EndsSeen Node} → HasFourLinks M → KeepsFlight M E → (s t : Network Node) (es : List Entry) → Sound E s → after M s es ≡ Some t → Sound E t
unfolding after
sound_after {E = E} four keeps s t [] sound h = let same : s ≡ t = cc in subst (λ u. Sound E u) same sound
sound_after {M = M} four keeps s t (e ∷ es) sound h =
    let a = bind_some (next M s e) (λ u. after M u es) t h in
    sound_after four keeps a.0 t es (sound_kept four keeps s a.0 e sound a.1) a.2

-- At most one Data and one Ack are on a line.
pub sound_small : {Node : Type 0} {E : EndsSeen Node} {s : Network Node} → Sound E s → (x : ℕ) → (datas (on_line s.lines x) ≤ 1) × (acks (on_line s.lines x) ≤ 1)
sound_small {E = E} {s = s} sound x = go (back s x) refl
  where
    go : (o : Option ℕ) → back s x ≡ o → (datas (on_line s.lines x) ≤ 1) × (acks (on_line s.lines x) ≤ 1)
    go None b = rw (sound.none x b).0 (omega arith, omega arith)
    go (Some y) b =
        let c : back s y ≡ Some x = sound.wires.both_ways x y b in
        (most (end_waits E s x) _ _ _ (sound.flight x y b), least (end_waits E s y) _ _ _ (sound.flight y x c))
      where
        most : (b : Bool) (d k h : ℕ) → bit b ≡ d + k + h → d ≤ 1
        most true d k h e = omega arith
        most false d k h e = omega arith

        least : (b : Bool) (d k h : ℕ) → bit b ≡ d + k + h → k ≤ 1
        least true d k h e = omega arith
        least false d k h e = omega arith
