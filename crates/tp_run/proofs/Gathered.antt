-- What the host's seat and those of workers have, together.
use Rattle.std.proofs.Common.{◌≡◌, ℕ, ◌+◌, List, [], ◌∷◌, ◌++◌, length, refl, sym, ap, subst, ◌∙◌, arith, zero, suc, Result, Ok, Err}
use Rattle.std.specs.Prelude.{map, All, flat_map, sum_by, IfOk}
use Rattle.tp_run.proofs.Lower.{sum_by-cons, AllByRecursion, length-map, Entry, NodeState, Network, AreAll}
use Rattle.tp_run.specs.declared.job.Job.{Job}
use Rattle.tp_run.specs.Accounted.{Accounted}
use Rattle.tp_run.specs.Worked.{Worked}

-- ## Lists of slips

gathered : {S W X : Type 0} (f : S → W) (slips : W → List X) (seats : List S) → flat_map slips (map f seats) ≡ flat_map (λ seat. slips (f seat)) seats
gathered f slips [] = refl
gathered f slips (seat ∷ seats) = ap (λ xs. slips (f seat) ++ xs) (gathered f slips seats)

summed : {S W : Type 0} (f : S → W) (turns : W → ℕ) (seats : List S) → sum_by turns (map f seats) ≡ sum_by (λ seat. turns (f seat)) seats
summed f turns [] = refl
summed f turns (seat ∷ seats) =
    sum_by-cons turns (f seat) (map f seats) ∙ ap (λ n. turns (f seat) + n) (summed f turns seats) ∙ sym (sum_by-cons (λ other. turns (f other)) seat seats)

each_mapped : {S X : Type 0} (P : X → Type 0) (f : S → X) (seats : List S) → All (λ seat. P (f seat)) seats → AllByRecursion P (map f seats)
each_mapped P f [] all = tt
each_mapped P f (seat ∷ seats) all =
    (all zero seat (omega arith), each_mapped P f seats (λ k d below. all (suc k) d (omega (arith, below))))

-- ## All of them

pub accounted_for : {S : Type 0} (network : Network NodeState) (job : Job) (journal : List Entry) (first next : ℕ) (turns : S → ℕ) (slips : S → List (ℕ × Entry)) (seats : List S) (host : List (ℕ × Entry))
    → length seats ≡ job.workers → sum_by turns seats ≡ job.turns → All (λ seat. Worked network job.quantum (turns seat) (slips seat)) seats → AreAll first next journal (host ++ flat_map slips seats)
    → Accounted network job journal first next host
accounted_for network job journal first next turns slips seats host many made worked all =
    let of : _ → ℕ × List (ℕ × Entry) = λ seat. (turns seat, slips seat) in
    record {
      workers = map of seats;
      count = length-map seats of ∙ many;
      turns = summed of (λ worker. worker.0) seats ∙ made;
      worked = each_mapped (λ worker. Worked network job.quantum worker.0 worker.1) of seats worked;
      all = subst (λ xs. AreAll first next journal (host ++ xs)) (sym (gathered of (λ worker. worker.1) seats)) all;
    }

-- an answer that is known, and what comes of it
pub all_settled : {E : Type 0} (r : Result ℕ E) (next : ℕ) (P Q : ℕ → Type 0) → IfOk r (λ answer. answer ≡ next) → IfOk r P → (P next → Q next) → IfOk r Q
all_settled (Ok answer) next P Q is p turn = subst Q (sym is) (turn (subst P is p))
all_settled (Err e) next P Q is p turn = tt

-- two facts of an answer
pub if_and : {E : Type 0} (r : Result ℕ E) (P Q : ℕ → Type 0) → IfOk r P → IfOk r Q → IfOk r (λ n. P n × Q n)
if_and (Ok answer) P Q p q = (p, q)
if_and (Err e) P Q p q = tt
