-- Nodes that are dealt in runs: each run begins where the one before it ends, so each number is in a piece.
use Rattle.std.proofs.Common.{◌≡◌, inl, inr, ℕ, zero, suc, ◌+◌, ◌*◌, ◌/◌, ◌<◌, ◌≤◌, cond, ap, subst, ◌∙◌, arith, le_trans, nat_le}
use Rattle.tp_replay.proofs.Lower.{and_from, cases_lt, le-leb, le-ltb, lt-ltb, le-div, div-mul-le_self, div-le_of_le-mul, mul-le-mul_right, Covers}
use Rattle.tp_replay.specs.Dealt.{first_of, nodes_of, dealt}

-- a later run begins no earlier
pub first_up : (nodes workers a b : ℕ) → 0 < workers → a ≤ b → first_of nodes workers a ≤ first_of nodes workers b
first_up nodes workers a b some h = le-div (a * nodes / workers) (b * nodes) workers some (le_trans (div-mul-le_self (a * nodes) workers) (mul-le-mul_right nodes h))

-- none begins past the last node, and the last one ends there
pub first_most : (nodes workers w : ℕ) → w ≤ workers → first_of nodes workers w ≤ nodes
first_most nodes workers w h = div-le_of_le-mul workers (mul-le-mul_right nodes h)

first_end : (nodes workers : ℕ) → 0 < workers → nodes ≤ first_of nodes workers workers
first_end nodes workers some = le-div nodes (workers * nodes) workers some (omega arith)

-- a number before the end of some runs is in one of them
in_run : (nodes workers p k : ℕ) → p < first_of nodes workers k → (w : ℕ) × (w < k) × (first_of nodes workers w ≤ p) × (p < first_of nodes workers (w + 1))
in_run nodes workers p zero h = let low : 0 * nodes ≤ workers * 0 = omega arith in
    let none : first_of nodes workers 0 ≤ 0 = div-le_of_le-mul workers low in
    absurd (omega (arith, none, h))
in_run nodes workers p (suc k) h = elim (cases_lt p (first_of nodes workers k)) [
  | inl below ↦ (let w = in_run nodes workers p k below in (w.0, (let low = w.1 in omega (arith, low)), w.2, w.3))
  | inr past ↦ (let next : suc k ≡ k + 1 = omega arith in (k, omega arith, past, subst (λ n. p < first_of nodes workers n) next h))
]

-- what is at a worker's place, and at the host's
dealt-worker : (nodes workers i p : ℕ) → i < workers → dealt nodes workers i p ≡ nodes_of nodes workers i p
dealt-worker nodes workers i p h = ap (λ b. cond b (nodes_of nodes workers i) (λ q. nat_le nodes q) p) (lt-ltb i workers h)

dealt-host : (nodes workers p : ℕ) → dealt nodes workers workers p ≡ nat_le nodes p
dealt-host nodes workers p = ap (λ b. cond b (nodes_of nodes workers workers) (λ q. nat_le nodes q) p) (le-ltb workers workers (omega arith))

pub dealt_covers : (nodes workers : ℕ) → 0 < workers → Covers (workers + 1) (dealt nodes workers)
dealt_covers nodes workers some p = elim (cases_lt p nodes) [
  | inl below ↦ (let end = first_end nodes workers some in
      let w = in_run nodes workers p workers (omega (arith, end, below)) in
      (w.0, (let low = w.1 in omega (arith, low)), dealt-worker nodes workers w.0 p w.1 ∙ and_from _ _ (le-leb _ _ w.2) (lt-ltb _ _ w.3)))
  | inr past ↦ (workers, omega arith, dealt-host nodes workers p ∙ le-leb nodes p past)
]
