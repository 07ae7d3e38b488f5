-- Runs of nodes. Each begins where the one before it ends.
use Rattle.std.proofs.Common.{◌≡◌, ℕ, zero, suc, ◌+◌, ◌-◌, ◌*◌, ◌/◌, ◌<◌, ◌≤◌, Bool, true, false, cond, inl, inr, List, [], ◌∷◌, ◌++◌, length, refl, sym, ap, subst, ◌∙◌, arith, Some, None, nat_lt, nat_le, add-one}
use Rattle.tp_replay.proofs.Lower.{and_from, and_parts, cases_lt, le-leb, le-ltb, leb-true, lt-ltb, ltb-true, le-div, div-le_of_le-mul, Covers, Piece}
use Rattle.tp_replay.specs.Dealt.{first_of}
use Rattle.tp_replay.proofs.Dealt.{first_up, first_most}
use Rattle.tp_replay.specs.Whose.{whose}
use Rattle.tp_replay.specs.Runs.{AreDealt, AreNeighbours, NodeRun, run_at, runs, some_run}

-- ## Any chain

pub chain_up : (first past : ℕ) (rs : List NodeRun) → AreNeighbours first past rs → first ≤ past
chain_up first past [] C = omega (arith, C)
chain_up first past (r ∷ rs) C = let rest = chain_up r.1 past rs C.2 in let low = C.0 in let some = C.1 in omega (arith, rest, low, some)

-- each run has a node, and is within
pub chain_within : (first past : ℕ) (rs : List NodeRun) (i : ℕ) → AreNeighbours first past rs → i < length rs → (first ≤ (run_at rs i).0) × ((run_at rs i).0 < (run_at rs i).1) × ((run_at rs i).1 ≤ past)
chain_within first past [] i C below = absurd (omega (arith, below))
chain_within first past (r ∷ rs) zero C below = (let low = C.0 in omega (arith, low), C.1, chain_up r.1 past rs C.2)
chain_within first past (r ∷ rs) (suc i) C below =
    let rest = chain_within r.1 past rs i C.2 (omega (arith, below)) in
    let low = C.0 in
    let some = C.1 in
    let from = rest.0 in
    (omega (arith, low, some, from), rest.1, rest.2)

-- a number is in one of them
pub in_chain : (first past : ℕ) (rs : List NodeRun) (p : ℕ) → AreNeighbours first past rs → first ≤ p → p < past → (i : ℕ) × (i < length rs) × ((run_at rs i).0 ≤ p) × (p < (run_at rs i).1)
in_chain first past [] p C low high = absurd (omega (arith, C, low, high))
in_chain first past (r ∷ rs) p C low high = elim (cases_lt p r.1) [
  | inl below ↦ (0, omega arith, (let from = C.0 in omega (arith, from, low)), below)
  | inr behind ↦ (let rest = in_chain r.1 past rs p C.2 behind high in (suc rest.0, (let within = rest.1 in omega (arith, within)), rest.2, rest.3))
]

-- one run more, if it has a node
pub chain_more : (first mid past : ℕ) (rs : List NodeRun) → AreNeighbours first mid rs → mid ≤ past → AreNeighbours first past (rs ++ some_run mid past)
chain_more first mid past (r ∷ rs) C up = (C.0, C.1, chain_more r.1 mid past rs C.2 up)
chain_more first mid past [] C up = elim (cases_lt mid past) [
  | inl some ↦ subst (λ b. AreNeighbours first past (cond b ((mid, past) ∷ []) [])) (sym (lt-ltb mid past some)) (sym C, some, refl)
  | inr none ↦ subst (λ b. AreNeighbours first past (cond b ((mid, past) ∷ []) [])) (sym (le-ltb mid past none)) (let same : first ≡ past = omega (arith, C, up, none) in same)
]

-- ## The runs of workers

pub runs_more : (nodes workers w : ℕ) → runs nodes workers (w + 1) ≡ runs nodes workers w ++ some_run (first_of nodes workers w) (first_of nodes workers (w + 1))
unfolding runs
runs_more nodes workers w = ap (runs nodes workers) (add-one w)

pub first_none : (nodes workers : ℕ) → first_of nodes workers 0 ≡ 0
first_none nodes workers =
    let low : 0 * nodes ≤ workers * 0 = omega arith in
    let none : first_of nodes workers 0 ≤ 0 = div-le_of_le-mul workers low in
    omega (arith, none)

chain_upto : (nodes workers w : ℕ) → 0 < workers → AreNeighbours 0 (first_of nodes workers w) (runs nodes workers w)
unfolding runs
chain_upto nodes workers zero some = sym (first_none nodes workers)
chain_upto nodes workers (suc w) some =
    let next : suc w ≡ w + 1 = omega arith in
    subst (λ k. AreNeighbours 0 (first_of nodes workers k) (runs nodes workers w ++ some_run (first_of nodes workers w) (first_of nodes workers (w + 1)))) (sym next)
    (chain_more 0 (first_of nodes workers w) (first_of nodes workers (w + 1)) (runs nodes workers w) (chain_upto nodes workers w some) (first_up nodes workers w (w + 1) some (omega arith)))

-- all of them go up to the last node
pub chain_runs : (nodes workers : ℕ) → 0 < workers → AreNeighbours 0 nodes (runs nodes workers workers)
chain_runs nodes workers some =
    let most = first_most nodes workers workers (omega arith) in
    let least : nodes ≤ first_of nodes workers workers = le-div nodes (workers * nodes) workers some (omega arith) in
    let same : first_of nodes workers workers ≡ nodes = omega (arith, most, least) in
    subst (λ past. AreNeighbours 0 past (runs nodes workers workers)) same (chain_upto nodes workers workers some)

-- ## Pieces that are dealt

-- They have every number among them.
pub dealt_cover : (nodes : ℕ) (rs : List NodeRun) (count : ℕ) (pieces : ℕ → Piece) → AreDealt nodes rs count pieces → Covers count pieces
dealt_cover nodes rs count pieces D p = elim (cases_lt p nodes) [
  | inl below ↦ (let I = in_chain 0 nodes rs p D.chain (omega arith) below in
      let within = I.1 in
      let many = D.many in
      (I.0, omega (arith, within, many), ap (λ has. has p) (D.run I.0 I.1) ∙ and_from _ _ (le-leb _ _ I.2) (lt-ltb _ _ I.3)))
  | inr past ↦ (let many = D.many in (length rs, omega (arith, many), ap (λ has. has p) D.host ∙ le-leb nodes p past))
]

-- pieces that are equal have them, too
pub dealt_same : (nodes : ℕ) (rs : List NodeRun) (count : ℕ) (pieces others : ℕ → Piece) → AreDealt nodes rs count pieces → ((i : ℕ) → i < count → others i ≡ pieces i) → AreDealt nodes rs count others
dealt_same nodes rs count pieces others D same = record {
  chain = D.chain;
  many = D.many;
  run = λ i below. same i (let many = D.many in omega (arith, many, below)) ∙ D.run i below;
  host = same (length rs) (let many = D.many in omega (arith, many)) ∙ D.host;
}

-- ## Which run a piece has

inside : (a b p : ℕ) → a ≤ p → p < b → whose a (Some b) p ≡ true
inside a b p low high = and_from _ _ (le-leb a p low) (lt-ltb p b high)

bounds : (a b p : ℕ) → whose a (Some b) p ≡ true → (a ≤ p) × (p < b)
bounds a b p h = let both = and_parts (nat_le a p) (nat_lt p b) h in (leb-true a p both.0, ltb-true p b both.1)

-- Two runs with one piece are one.
pub same_run : (a b c d : ℕ) → c < d → whose a (Some b) ≡ whose c (Some d) → (a ≡ c) × (b ≡ d)
same_run a b c d some same =
    let first = bounds a b c (ap (λ has. has c) same ∙ inside c d c (omega arith) some) in
    let last = bounds a b (d - 1) (ap (λ has. has (d - 1)) same ∙ inside c d (d - 1) (omega arith) (omega arith)) in
    let low = first.0 in
    let high = last.1 in
    let from = bounds c d a (ap (λ has. has a) (sym same) ∙ inside a b a (omega arith) (let up = first.1 in omega (arith, low, up))) in
    let upto = bounds c d (b - 1) (ap (λ has. has (b - 1)) (sym same) ∙ inside a b (b - 1) (let up = first.1 in omega (arith, low, up)) (omega (arith, high))) in
    (let other = from.0 in omega (arith, low, other), let other = upto.1 in omega (arith, high, other, some))

-- A run isn't a piece without an end.
pub no_run : (a c d : ℕ) → whose a None ≡ whose c (Some d) → ⊥
no_run a c d same =
    let past = bounds c d (a + d) (ap (λ has. has (a + d)) (sym same) ∙ le-leb a (a + d) (omega arith)) in
    let high = past.1 in
    omega (arith, high)
