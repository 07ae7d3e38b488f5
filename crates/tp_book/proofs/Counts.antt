-- Counts, as they are kept and as the definitions have them.
use Rattle.std.proofs.Common.{◌≡◌, ℕ, zero, suc, ◌+◌, ◌<◌, Bool, true, false, cond, List, [], ◌∷◌, ◌++◌, length, get_or, set, replicate, refl, sym, ap, ◌∙◌, arith, Option, Some, None, inl, inr, not}
use Rattle.std.specs.Prelude.{is_some, ◌&&◌, ◌||◌}
use Rattle.tp_book.proofs.Lower.{list_all, option_map, all_some, cases_Bool, true≢false, WireEnd, ◌>>=◌, Port, has_wire, Snapshot, first_snapshot, WholeCut, all_closed, whole_of, all_closed_at}
use Rattle.tp_book.specs.Running.{counts_of}

pub length-counts : (rs : List Bool) (cs : List ℕ) → length rs ≡ length cs → length (counts_of rs cs) ≡ length rs
length-counts [] cs e = refl
length-counts (r ∷ rs) [] e = omega arith
length-counts (r ∷ rs) (c ∷ cs) e = omega (arith, length-counts rs cs (omega arith))

-- which processes have recorded
pub recorded-counts : (rs : List Bool) (cs : List ℕ) (p : ℕ) → length rs ≡ length cs → p < length rs → is_some (get_or (counts_of rs cs) p (Some 0)) ≡ get_or rs p false
recorded-counts [] cs p e below = absurd (omega arith)
recorded-counts (r ∷ rs) [] p e below = absurd (omega arith)
recorded-counts (r ∷ rs) (c ∷ cs) zero e below = known r
  where
    known : (b : Bool) → is_some (cond b (Some c) None) ≡ b
    known true = refl
    known false = refl
recorded-counts (r ∷ rs) (c ∷ cs) (suc p) e below = recorded-counts rs cs p (omega arith) (omega arith)

-- a process records
pub counts-set : (rs : List Bool) (cs : List ℕ) (p n : ℕ) → length rs ≡ length cs → counts_of (set rs p true) (set cs p n) ≡ set (counts_of rs cs) p (Some n)
counts-set [] [] zero n e = refl
counts-set [] [] (suc p) n e = refl
counts-set [] (c ∷ cs) p n e = absurd (omega arith)
counts-set (r ∷ rs) [] p n e = absurd (omega arith)
counts-set (r ∷ rs) (c ∷ cs) zero n e = refl
counts-set (r ∷ rs) (c ∷ cs) (suc p) n e = ap (λ more. cond r (Some c) None ∷ more) (counts-set rs cs p n (omega arith))

-- when a snapshot begins
none_counted : (n : ℕ) → counts_of (replicate n false) (replicate n 0) ≡ replicate n None
none_counted zero = refl
none_counted (suc n) = ap (λ more. None ∷ more) (none_counted n)

set_last : (n h : ℕ) → set (replicate (suc n) None) n (Some h) ≡ replicate n None ++ Some h ∷ []
set_last zero h = refl
set_last (suc n) h = ap (λ more. None ∷ more) (set_last n h)

same_length : (n : ℕ) → length (replicate n false) ≡ length {A = ℕ} (replicate n 0)
same_length zero = refl
same_length (suc n) = ap (λ k. suc k) (same_length n)

pub counts-first : (n h : ℕ) → counts_of (set (replicate (n + 1) false) n true) (set (replicate (n + 1) 0) n h) ≡ replicate n None ++ Some h ∷ []
counts-first n h =
    let next : n + 1 ≡ suc n = omega arith in
    ap (λ k. counts_of (set (replicate k false) n true) (set (replicate k 0) n h)) next
    ∙ counts-set (replicate (suc n) false) (replicate (suc n) 0) n h (same_length (suc n)) ∙ ap (λ given. set given n (Some h)) (none_counted (suc n)) ∙ set_last n h

-- all have recorded
pub all_some-counts : (rs : List Bool) (cs : List ℕ) → length rs ≡ length cs → all_some (counts_of rs cs) ≡ cond (list_all (λ r. r) rs) (Some cs) None
all_some-counts [] [] e = refl
all_some-counts [] (c ∷ cs) e = absurd (omega arith)
all_some-counts (r ∷ rs) [] e = absurd (omega arith)
all_some-counts (true ∷ rs) (c ∷ cs) e = ap (option_map (λ counts. c ∷ counts)) (all_some-counts rs cs (omega arith)) ∙ either (list_all (λ r. r) rs)
  where
    either : (b : Bool) → option_map (λ counts. c ∷ counts) (cond b (Some cs) None) ≡ cond b (Some (c ∷ cs)) None
    either true = refl
    either false = refl
all_some-counts (false ∷ rs) (c ∷ cs) e = refl

-- ## As a snapshot begins

module _ (nodes lines hosts size : ℕ) (ports : List Port) (cut : WholeCut) (recorded closed : List Bool)
    (cut_is : cut ≡ record { counts = set (replicate (nodes + 1) 0) nodes hosts; ports = ports; lines = replicate lines []; size = size })
    (recorded_is : recorded ≡ replicate (nodes + 1) false) (closed_is : closed ≡ replicate lines false) where
  as_it_is : WholeCut → List Bool → List Bool → Snapshot
  as_it_is c r d = record { counts = counts_of r c.counts; ports = c.ports; lines = c.lines; closed = d; size = c.size }

  pub first_is : ◌≡◌ {A = Snapshot} (record { counts = counts_of (set recorded nodes true) cut.counts; ports = cut.ports; lines = cut.lines; closed = closed; size = cut.size }) (first_snapshot nodes lines hosts ports size)
  unfolding as_it_is
  first_is =
      ap (λ c. as_it_is c (set recorded nodes true) closed) cut_is
      ∙ ap (λ r. as_it_is (record { counts = set (replicate (nodes + 1) 0) nodes hosts; ports = ports; lines = replicate lines []; size = size }) (set r nodes true) closed) recorded_is
      ∙ ap (λ d. as_it_is (record { counts = set (replicate (nodes + 1) 0) nodes hosts; ports = ports; lines = replicate lines []; size = size }) (set (replicate (nodes + 1) false) nodes true) d) closed_is
      ∙ ap (λ given. record (first_snapshot nodes lines hosts ports size) { counts = given }) (counts-first nodes hosts)

-- ## Where all is closed

-- not all are, if one isn't
pub all_closed_not : (wired closed : ℕ → Bool) (n l : ℕ) → l < n → wired l ≡ true → closed l ≡ false → all_closed wired closed n ≡ false
all_closed_not wired closed n l below y unclosed = elim (cases_Bool (all_closed wired closed n)) [
  | inl all ↦ absurd (true≢false (sym (all_closed_at wired closed n all l below y) ∙ unclosed))
  | inr some ↦ some
]

pub open_wired : (w c : Bool) → (not w || c) ≡ false → (w ≡ true) × (c ≡ false)
open_wired true true e = absurd (true≢false e)
open_wired true false e = (refl, refl)
open_wired false c e = absurd (true≢false e)

pub both_false : (a : Bool) → (a && false) ≡ false
both_false true = refl
both_false false = refl

-- the cut of a snapshot that runs
pub whole-counts : (wires : List (Option WireEnd)) (lines : ℕ) (rs : List Bool) (cut : WholeCut) (closed : List Bool) → length rs ≡ length cut.counts
    → whole_of wires lines (Some (record { counts = counts_of rs cut.counts; ports = cut.ports; lines = cut.lines; closed = closed; size = cut.size }))
    ≡ cond (list_all (λ r. r) rs && all_closed (has_wire wires) (λ line. get_or closed line true) lines) (Some cut) None
whole-counts wires lines rs cut closed e =
    ap (λ given. given >>= λ counts. cond (all_closed (has_wire wires) (λ line. get_or closed line true) lines) (Some (record { counts = counts; ports = cut.ports; lines = cut.lines; size = cut.size })) None) (all_some-counts rs cut.counts e)
    ∙ both (list_all (λ r. r) rs) (all_closed (has_wire wires) (λ line. get_or closed line true) lines)
  where
    both : (a b : Bool) → ◌≡◌ {A = Option WholeCut} (cond a (Some cut.counts) None >>= λ counts. cond b (Some (record { counts = counts; ports = cut.ports; lines = cut.lines; size = cut.size })) None) (cond (a && b) (Some cut) None)
    both true b = refl
    both false b = refl
