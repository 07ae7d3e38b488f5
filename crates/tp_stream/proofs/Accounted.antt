-- Who made each entry.
use Rattle.std.proofs.Common.{◌≡◌, ℕ, zero, suc, ◌<◌, inl, inr, List, [], ◌∷◌, ◌++◌, get_or, length, drop, map, refl, sym, ap, subst, ◌∙◌, arith, None, Some, Result, Ok, Err}
use Rattle.std.specs.Prelude.{All, flat_map, MatchResult, Bool, true, ◌==◌, ◌&&◌}
use Rattle.tp_stream.proofs.Lower.{and_parts, eqb-true, Network, NodeState, Entry, next_in_book, item_of, shown, AreTakes, CountedTakes, TookAlone, Gained, handed, NodeTurned, Stage, NodeTurn, Refused, Turned, TurnFault, Empty, Turn, AreAll, BrokenOff}
use Rattle.tp_work.specs.declared.fault.TurnFault.TheVariants.{JournalFull, StoreBroken, Memory}
use Rattle.tp_stream.specs.Accounted.{Accounted, AreAllSlips, MadeByOne, MadeByTurns, broken, idle, joined, turned}

-- ## Slips of turns

-- a worker's turn
pub worker_made : (network : Network NodeState) (quantum : ℕ) (done : Result Turn TurnFault) (old new : List (ℕ × Entry)) → MadeByTurns network old
    → MatchResult done (λ turn. Turned network quantum turn old new) (λ fault. Refused network fault old new) → MadeByTurns network new
worker_made network quantum (Ok turn) old new made did = turned quantum turn old new made did
worker_made network quantum (Err Empty) old new made did = subst (MadeByTurns network) (sym did) made
worker_made network quantum (Err JournalFull) old new made did = broken old new made did
worker_made network quantum (Err StoreBroken) old new made did = broken old new made did
worker_made network quantum (Err Memory) old new made did = broken old new made did

-- a node's turn
pub node_made : (network : Network NodeState) (number quantum : ℕ) (turn : NodeTurn) (old new : List (ℕ × Entry)) → number < length network.nodes → NodeTurned network number quantum turn old new
    → MadeByTurns network old → MadeByTurns network new
node_made network number quantum turn old new there did made = turned quantum (record { process = number; takes = turn.taken; ran = Some turn.ran }) old new made (there, did)

pub node_one : (network : Network NodeState) (number quantum : ℕ) (turn : NodeTurn) (old new : List (ℕ × Entry)) → number < length network.nodes → NodeTurned network number quantum turn old new
    → MadeByOne network quantum old new
node_one network number quantum turn old new there did = inl (record { process = number; takes = turn.taken; ran = Some turn.ran }, (there, did))

pub node_broke : (network : Network NodeState) (number : ℕ) (old new : List (ℕ × Entry)) → number < length network.nodes → Gained (TookAlone network number) old new → BrokenOff network old new
node_broke network number old new there G = record {
  process = number;
  there = omega (arith, there);
  took = record {
    next = G.next;
    entries = G.entries;
    are = elim G.are [
      | inl takes ↦ inl takes
      | inr once ↦ inr (there, once)
    ];
    seat = G.seat;
    below = G.below;
  };
}

pub node_broken : (network : Network NodeState) (number : ℕ) (old new : List (ℕ × Entry)) → number < length network.nodes → Gained (TookAlone network number) old new → MadeByTurns network old
    → MadeByTurns network new
node_broken network number old new there G made = broken old new made (node_broke network number old new there G)

-- a turn of the host
pub host_made : (network : Network NodeState) (takes : ℕ) (old new : List (ℕ × Entry)) → Gained (CountedTakes network (length network.nodes) takes) old new → MadeByTurns network old → MadeByTurns network new
host_made network takes old new G made = turned 0 (record { process = length network.nodes; takes = takes; ran = None }) old new made (refl, G)

pub host_one : (network : Network NodeState) (quantum takes : ℕ) (old new : List (ℕ × Entry)) → Gained (CountedTakes network (length network.nodes) takes) old new → MadeByOne network quantum old new
host_one network quantum takes old new G = inl (record { process = length network.nodes; takes = takes; ran = None }, (refl, G))

pub host_broke : (network : Network NodeState) (old new : List (ℕ × Entry)) → Gained (AreTakes network (length network.nodes)) old new → BrokenOff network old new
host_broke network old new G = record {
  process = length network.nodes;
  there = omega arith;
  took = record { next = G.next; entries = G.entries; are = inl G.are; seat = G.seat; below = G.below };
}

pub host_broken : (network : Network NodeState) (old new : List (ℕ × Entry)) → Gained (AreTakes network (length network.nodes)) old new → MadeByTurns network old → MadeByTurns network new
host_broken network old new G made = broken old new made (host_broke network old new G)

-- turns at several seats
pub all_made : {S : Type 0} (network : Network NodeState) (slips : S → List (ℕ × Entry)) (seats : List S) → All (λ seat. MadeByTurns network (slips seat)) seats → MadeByTurns network (flat_map slips seats)
all_made network slips [] all = idle
all_made network slips (seat ∷ seats) all =
    joined (slips seat) (flat_map slips seats) (all zero seat (omega arith)) (all_made network slips seats (λ k d below. all (suc k) d (omega (arith, below))))

-- ## All slips

items_same : {A : Type 0} (first : ℕ) (xs ys : List A) → ((n : ℕ) → item_of first xs n ≡ item_of first ys n) → xs ≡ ys
items_same zero [] [] each = refl
items_same zero [] (y ∷ ys) each = let bad = each zero in absurd (cc)
items_same zero (x ∷ xs) [] each = let bad = each zero in absurd (cc)
items_same zero (x ∷ xs) (y ∷ ys) each =
    let head : x ≡ y = ap (λ l. get_or l 0 x) (each zero) in ap (λ z. z ∷ xs) head ∙ ap (λ l. y ∷ l) (items_same zero xs ys (λ n. each (suc n)))
items_same (suc first) xs ys each = items_same first xs ys (λ n. each (suc n))

all_slips : (first next : ℕ) (journal all : List Entry) (slips : List (ℕ × Entry)) (key : List Entry) → AreAll first next journal slips → ((n : ℕ) → shown n slips ≡ item_of first all n)
    → handed all ≡ key → AreAllSlips first next journal slips key
all_slips first next journal all slips key A each given =
    record { all = A; given = ap handed (items_same first (drop first journal) all (λ n. sym (A.each n) ∙ each n)) ∙ given }

-- slips that are all of the book's are all of the journal's, so the host's key shows all that was handed in since
pub all_found : (first : ℕ) (journal : List Entry) (a b c : Stage) (slips same : List (ℕ × Entry)) (key : List Entry) (result stored : Bool) → b ≡ a → c ≡ b → same ≡ slips → handed a.all ≡ key
    → (length slips ≡ length b.all → (n : ℕ) → shown n slips ≡ item_of first b.all n) → result ≡ ((length same == length c.all) && stored) → result ≡ true
    → AreAll first (next_in_book c.book) journal same → AreAllSlips first (next_in_book a.book) journal slips key
all_found first journal a b c slips same key result stored one two seat given each tested is A =
    let many : length same ≡ length c.all = eqb-true (length same) (length c.all) ((and_parts (length same == length c.all) stored (sym tested ∙ is)).0) in
    let long : length slips ≡ length b.all = ap length (sym seat) ∙ many ∙ ap (λ (s : Stage). length s.all) two in
    let book : next_in_book c.book ≡ next_in_book a.book = ap (λ (s : Stage). next_in_book s.book) (two ∙ one) in
    all_slips first (next_in_book a.book) journal a.all slips key
    (subst (λ n. AreAll first n journal slips) book (subst (AreAll first (next_in_book c.book) journal) seat A))
    (λ n. each long n ∙ ap (λ (s : Stage). item_of first s.all n) one) given

-- what the host's key and the seats of steps and turns show at the end
pub accounted : (network : Network NodeState) (first next : ℕ) (journal : List Entry) (steps turns all : List (ℕ × Entry)) (key : List Entry) → map (λ (slip : ℕ × Entry). slip.1) steps ≡ key → MadeByTurns network turns
    → all ≡ steps ++ turns → AreAllSlips first next journal all key → Accounted network journal first next
accounted network first next journal steps turns all key slips made both S =
    record { host = steps; are = slips ∙ sym S.given; turns = turns; made = made; all = subst (AreAll first next journal) both S.all }
