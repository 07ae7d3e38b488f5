-- Wires that no end has twice lead both ways.
use Rattle.std.proofs.Common.{◌≡◌, ℕ, ◌≤◌, Bool, true, false, cond, List, [], ◌∷◌, ◌++◌, refl, sym, ap, subst, ◌∙◌, arith, Some}
use Rattle.std.specs.Prelude.{◌||◌, ◌==◌, nat_lt}
use Rattle.tp_net.proofs.Lower.{list_any, and_parts, and_from, or_parts, or_from, or_left, or_right, eqb-true, eq-eqb, ltb-true, lt-ltb, cond-true, cond-false, false≢true, false_from_ne_true, both_ways, none-some, same_Some, WireEnd, Link, AtPort, is_end, same_end, are_ports, other_end}

-- ## Ends

pub same_end_is : (a b : WireEnd) → same_end a b ≡ true → a ≡ b
same_end_is (Link i k) (Link j l) h =
    let parts = and_parts (i == j) (k == l) h in
    ap (λ n. Link n k) (eqb-true i j parts.0) ∙ ap (λ n. Link j n) (eqb-true k l parts.1)
same_end_is (AtPort p) (AtPort q) h = ap (λ n. AtPort n) (eqb-true p q h)
same_end_is (Link i k) (AtPort q) h = absurd (false≢true h)
same_end_is (AtPort p) (Link j l) h = absurd (false≢true h)

pub same_end_self : (a : WireEnd) → same_end a a ≡ true
same_end_self (Link i k) = and_from (i == i) (k == k) (eq-eqb i i refl) (eq-eqb k k refl)
same_end_self (AtPort p) = eq-eqb p p refl

same_end_at : (a b : WireEnd) → a ≡ b → same_end a b ≡ true
same_end_at a b e = subst (λ (end : WireEnd). same_end a end ≡ true) e (same_end_self a)

differ_turned : (a b : WireEnd) → same_end a b ≡ false → same_end b a ≡ false
differ_turned a b h = false_from_ne_true (same_end b a) (λ t. both_ways (same_end a b) h (same_end_at a b (sym (same_end_is b a t))))

-- ## Wires that share no end

-- the wire is at this end
abbrev pub at_wire : WireEnd → WireEnd × WireEnd → Bool
at_wire end wire = same_end end wire.0 || same_end end wire.1

abbrev pub any_at : WireEnd → List (WireEnd × WireEnd) → Bool
any_at end wires = list_any (λ wire. same_end end wire.0 || same_end end wire.1) wires

abbrev pub Apart : List (WireEnd × WireEnd) → Type 0
Apart [] = Unit {0}
Apart (w ∷ ws) = (same_end w.0 w.1 ≡ false) × (any_at w.0 ws ≡ false) × (any_at w.1 ws ≡ false) × Apart ws

-- what is found at an end is an end of a wire
found_from : (a b : WireEnd) (w : WireEnd × WireEnd) (ws : List (WireEnd × WireEnd)) (p q : Bool) → cond p (Some w.1) (cond q (Some w.0) (other_end a ws)) ≡ Some b
    → (other_end a ws ≡ Some b → any_at b ws ≡ true) → (at_wire b w || any_at b ws) ≡ true
found_from a b w ws true q h more =
    or_left (at_wire b w) (any_at b ws) (or_right (same_end b w.0) (same_end b w.1) (same_end_at b w.1 (sym (same_Some w.1 b h))))
found_from a b w ws false true h more =
    or_left (at_wire b w) (any_at b ws) (or_left (same_end b w.0) (same_end b w.1) (same_end_at b w.0 (sym (same_Some w.0 b h))))
found_from a b w ws false false h more = or_right (at_wire b w) (any_at b ws) (more h)

found_at : (a b : WireEnd) (ws : List (WireEnd × WireEnd)) → other_end a ws ≡ Some b → any_at b ws ≡ true
found_at a b [] h = absurd (none-some b h)
found_at a b (w ∷ ws) h = found_from a b w ws (same_end a w.0) (same_end a w.1) h (found_at a b ws)

-- an end of one of them isn't that of a wire apart from them
not_end : (b end : WireEnd) (ws : List (WireEnd × WireEnd)) → any_at end ws ≡ false → any_at b ws ≡ true → same_end b end ≡ false
not_end b end ws none some = false_from_ne_true (same_end b end) (λ t. both_ways (any_at end ws) none (subst (λ (e : WireEnd). any_at e ws ≡ true) (same_end_is b end t) some))

back_from : (a b : WireEnd) (w : WireEnd × WireEnd) (ws : List (WireEnd × WireEnd)) → Apart (w ∷ ws) → (p q : Bool) → same_end a w.0 ≡ p → same_end a w.1 ≡ q
    → cond p (Some w.1) (cond q (Some w.0) (other_end a ws)) ≡ Some b → (other_end a ws ≡ Some b → other_end b ws ≡ Some a)
    → cond (same_end b w.0) (Some w.1) (cond (same_end b w.1) (Some w.0) (other_end b ws)) ≡ Some a
back_from a b w ws apart true q first second h more =
    let is = same_Some w.1 b h in
    let other : same_end b w.0 ≡ false = subst (λ (e : WireEnd). same_end e w.0 ≡ false) is (differ_turned w.0 w.1 apart.0) in
    cond-false (same_end b w.0) (Some w.1) (cond (same_end b w.1) (Some w.0) (other_end b ws)) other
    ∙ cond-true (same_end b w.1) (Some w.0) (other_end b ws) (same_end_at b w.1 (sym is))
    ∙ ap (λ e. Some e) (sym (same_end_is a w.0 first))
back_from a b w ws apart false true first second h more =
    cond-true (same_end b w.0) (Some w.1) (cond (same_end b w.1) (Some w.0) (other_end b ws)) (same_end_at b w.0 (sym (same_Some w.0 b h)))
    ∙ ap (λ e. Some e) (sym (same_end_is a w.1 second))
back_from a b w ws apart false false first second h more =
    let there = found_at a b ws h in
    cond-false (same_end b w.0) (Some w.1) (cond (same_end b w.1) (Some w.0) (other_end b ws)) (not_end b w.0 ws apart.1 there)
    ∙ cond-false (same_end b w.1) (Some w.0) (other_end b ws) (not_end b w.1 ws apart.2 there)
    ∙ more h

-- the other end leads back
pub other_end-back : (a b : WireEnd) (ws : List (WireEnd × WireEnd)) → Apart ws → other_end a ws ≡ Some b → other_end b ws ≡ Some a
other_end-back a b [] apart h = absurd (none-some b h)
other_end-back a b (w ∷ ws) apart h = back_from a b w ws apart (same_end a w.0) (same_end a w.1) refl refl h (other_end-back a b ws apart.3)

-- ## One more wire

any_push : (c a b : WireEnd) (ws : List (WireEnd × WireEnd)) → any_at c ws ≡ false → same_end c a ≡ false → same_end c b ≡ false
    → any_at c (ws ++ (a, b) ∷ []) ≡ false
any_push c a b [] none p q = or_from (same_end c a || same_end c b) false (or_from (same_end c a) (same_end c b) p q) refl
any_push c a b (w ∷ ws) none p q =
    let parts = or_parts (at_wire c w) (any_at c ws) none in
    or_from (at_wire c w) (any_at c (ws ++ (a, b) ∷ [])) parts.0 (any_push c a b ws parts.1 p q)

pub apart_push : (a b : WireEnd) (ws : List (WireEnd × WireEnd)) → Apart ws → same_end a b ≡ false → any_at a ws ≡ false → any_at b ws ≡ false
    → Apart (ws ++ (a, b) ∷ [])
apart_push a b [] apart differ first second = (differ, refl, refl, tt)
apart_push a b (w ∷ ws) apart differ first second =
    let at_a = or_parts (at_wire a w) (any_at a ws) first in
    let at_b = or_parts (at_wire b w) (any_at b ws) second in
    let not_a = or_parts (same_end a w.0) (same_end a w.1) at_a.0 in
    let not_b = or_parts (same_end b w.0) (same_end b w.1) at_b.0 in (
      apart.0,
      any_push w.0 a b ws apart.1 (differ_turned a w.0 not_a.0) (differ_turned b w.0 not_b.0),
      any_push w.1 a b ws apart.2 (differ_turned a w.1 not_a.1) (differ_turned b w.1 not_b.1),
      apart_push a b ws apart.3 differ at_a.1 at_b.1,
    )

-- ## Wires between ends that are there

abbrev pub Joined : ℕ → ℕ → List (WireEnd × WireEnd) → Type 0
Joined N H [] = Unit {0}
Joined N H (w ∷ ws) = (is_end N H w.0 ≡ true) × (is_end N H w.1 ≡ true) × (are_ports w.0 w.1 ≡ false) × Joined N H ws

is_end_more : (N H M G : ℕ) (end : WireEnd) → N ≤ M → H ≤ G → is_end N H end ≡ true → is_end M G end ≡ true
is_end_more N H M G (Link i k) nodes ports h =
    let parts = and_parts (nat_lt i N) (nat_lt k 4) h in
    let below = ltb-true i N parts.0 in and_from (nat_lt i M) (nat_lt k 4) (lt-ltb i M (omega arith)) parts.1
is_end_more N H M G (AtPort p) nodes ports h = let below = ltb-true p H h in lt-ltb p G (omega arith)

-- with more nodes and ports they still are
pub joined_more : (N H M G : ℕ) (ws : List (WireEnd × WireEnd)) → N ≤ M → H ≤ G → Joined N H ws → Joined M G ws
joined_more N H M G [] nodes ports h = tt
joined_more N H M G (w ∷ ws) nodes ports h =
    (is_end_more N H M G w.0 nodes ports h.0, is_end_more N H M G w.1 nodes ports h.1, h.2, joined_more N H M G ws nodes ports h.3)

pub joined_push : (N H : ℕ) (a b : WireEnd) (ws : List (WireEnd × WireEnd)) → Joined N H ws → is_end N H a ≡ true → is_end N H b ≡ true
    → are_ports a b ≡ false → Joined N H (ws ++ (a, b) ∷ [])
joined_push N H a b [] h first second kinds = (first, second, kinds, tt)
joined_push N H a b (w ∷ ws) h first second kinds = (h.0, h.1, h.2, joined_push N H a b ws h.3 first second kinds)

are_ports_turned : (a b : WireEnd) → are_ports a b ≡ are_ports b a
are_ports_turned (Link i k) (Link j l) = refl
are_ports_turned (Link i k) (AtPort q) = refl
are_ports_turned (AtPort p) (Link j l) = refl
are_ports_turned (AtPort p) (AtPort q) = refl

there_from : (N H : ℕ) (a b : WireEnd) (w : WireEnd × WireEnd) (ws : List (WireEnd × WireEnd)) → Joined N H (w ∷ ws) → (p q : Bool) → same_end a w.0 ≡ p → same_end a w.1 ≡ q
    → cond p (Some w.1) (cond q (Some w.0) (other_end a ws)) ≡ Some b
    → (other_end a ws ≡ Some b → (is_end N H b ≡ true) × (are_ports a b ≡ false)) → (is_end N H b ≡ true) × (are_ports a b ≡ false)
there_from N H a b w ws joined true q first second h more =
    let is = same_Some w.1 b h in (
      subst (λ (e : WireEnd). is_end N H e ≡ true) is joined.1,
      ap (λ e. are_ports e b) (same_end_is a w.0 first) ∙ ap (λ e. are_ports w.0 e) (sym is) ∙ joined.2,
    )
there_from N H a b w ws joined false true first second h more =
    let is = same_Some w.0 b h in (
      subst (λ (e : WireEnd). is_end N H e ≡ true) is joined.0,
      ap (λ e. are_ports e b) (same_end_is a w.1 second) ∙ ap (λ e. are_ports w.1 e) (sym is) ∙ are_ports_turned w.1 w.0 ∙ joined.2,
    )
there_from N H a b w ws joined false false first second h more = more h

-- what is found at an end exists, and isn't a port if the end is one
pub other_end-there : (N H : ℕ) (a b : WireEnd) (ws : List (WireEnd × WireEnd)) → Joined N H ws → other_end a ws ≡ Some b
    → (is_end N H b ≡ true) × (are_ports a b ≡ false)
other_end-there N H a b [] joined h = absurd (none-some b h)
other_end-there N H a b (w ∷ ws) joined h =
    there_from N H a b w ws joined (same_end a w.0) (same_end a w.1) refl refl h (other_end-there N H a b ws joined.3)
