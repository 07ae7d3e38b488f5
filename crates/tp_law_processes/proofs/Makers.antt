-- Who made an entry, and which outputs it confirms.
use Rattle.std.proofs.Common.{◌≡◌, ◌≢◌, ℕ, zero, suc, ◌+◌, ◌-◌, ◌<◌, ◌≤◌, ◌⊎◌, inl, inr, List, [], ◌∷◌, ◌++◌, length, map, drop, Option, Some, Ok, Err, refl, sym, ap, subst, ◌∙◌, arith}
use Rattle.std.specs.Prelude.{slice_get, flat_map}
use Rattle.tp_law_processes.proofs.Lower.{AllByRecursion, enumerate_from, Appends, cases_eq, State, Network, NodeState, Opened, next_of, verdict, Entry, Confirm, HostIn, Run, Take, Turn, add_if, item_of, shown, handed, AreAll, HasFront, HandsIn, input_entries, input_slips, outset_in, confirms, output_slips, Worked, AreConfirmsPut, ConfirmsPut, WasPutUpto, OutputValue}
use Rattle.tp_law_processes.specs.Processes.{ByCompaction, ByReading, ByRun, ByStream, Did, HasMaker, IsAmong, IsHosts, MayConfirm, answered, journal_of}
use Rattle.tp_law_processes.proofs.Joined.{get_dropped}

-- ## A slip for each entry

item_zero : {A : Type 0} (xs : List A) (k : ℕ) (x : A) → slice_get xs k ≡ Some x → item_of zero xs k ≡ x ∷ []
item_zero [] k x at = cc
item_zero (y ∷ xs) zero x at = let same : y ≡ x = cc in ap (λ z. z ∷ []) same
item_zero (y ∷ xs) (suc k) x at = item_zero xs k x at

item_at : {A : Type 0} (first : ℕ) (xs : List A) (k : ℕ) (x : A) → first ≤ k → slice_get xs k ≡ Some x → item_of first (drop first xs) k ≡ x ∷ []
item_at zero xs k x up at = item_zero xs k x at
item_at (suc first) [] k x up at = cc
item_at (suc first) (y ∷ xs) zero x up at = absurd (omega (arith, up))
item_at (suc first) (y ∷ xs) (suc k) x up at = item_at first xs k x (omega (arith, up)) at

add_same : {A : Type 0} (n : ℕ) (x : A) (xs : List A) → add_if n n x xs ≡ x ∷ xs
add_same zero x xs = refl
add_same (suc n) x xs = add_same n x xs

add_other : {A : Type 0} (n m : ℕ) (x : A) (xs : List A) → n ≢ m → add_if n m x xs ≡ xs
add_other zero zero x xs apart = absurd (apart refl)
add_other zero (suc m) x xs apart = refl
add_other (suc n) zero x xs apart = refl
add_other (suc n) (suc m) x xs apart = add_other n m x xs (λ same. apart (ap suc same))

shown_among : (k : ℕ) (slips : List (ℕ × Entry)) (e : Entry) (rest : List Entry) → shown k slips ≡ e ∷ rest → IsAmong k e slips
shown_among k [] e rest is = cc
shown_among k (slip ∷ slips) e rest is = elim (cases_eq k slip.0) [
  | inl here ↦
      let first : slip.1 ∷ shown k slips ≡ e ∷ rest = sym (ap (λ n. add_if n slip.0 slip.1 (shown k slips)) here ∙ add_same slip.0 slip.1 (shown k slips)) ∙ is in
      let entry : slip.1 ≡ e = cc in
      (0, ap Some (ap (λ n. (n, slip.1)) (sym here) ∙ ap (λ f. (k, f)) entry))
  | inr other ↦ let rest_of = shown_among k slips e rest (sym (add_other k slip.0 slip.1 (shown k slips) other) ∙ is) in (suc rest_of.0, rest_of.1)
]

pub among : (first next : ℕ) (journal : List Entry) (slips : List (ℕ × Entry)) → AreAll first next journal slips → (k : ℕ) (e : Entry) → first ≤ k → slice_get journal k ≡ Some e → IsAmong k e slips
among first next journal slips A k e up at = shown_among k slips e [] (A.each k ∙ item_at first journal k e up at)

among_either : (k : ℕ) (e : Entry) (xs ys : List (ℕ × Entry)) → IsAmong k e (xs ++ ys) → IsAmong k e xs ⊎ IsAmong k e ys
among_either k e [] ys A = inr A
among_either k e (x ∷ xs) ys (zero, at) = inl (zero, at)
among_either k e (x ∷ xs) ys (suc place, at) = elim (among_either k e xs ys (place, at)) [
  | inl here ↦ inl (suc here.0, here.1)
  | inr there ↦ inr there
]

-- in the slips of one of several workers
among_some : (P : ℕ × List (ℕ × Entry) → Type 0) (k : ℕ) (e : Entry) (workers : List (ℕ × List (ℕ × Entry))) → AllByRecursion P workers
    → IsAmong k e (flat_map (λ (worker : ℕ × List (ℕ × Entry)). worker.1) workers) → (worker : ℕ × List (ℕ × Entry)) × P worker × IsAmong k e worker.1
among_some P k e [] all A = absurd (let at = A.1 in cc)
among_some P k e (worker ∷ workers) all A = elim (among_either k e worker.1 (flat_map (λ (worker : ℕ × List (ℕ × Entry)). worker.1) workers) A) [
  | inl here ↦ (worker, all.0, here)
  | inr there ↦ among_some P k e workers all.1 there
]

-- ## The host's entries

handed_hosts : (es : List Entry) (k : ℕ) (e : Entry) → slice_get (handed es) k ≡ Some e → IsHosts e
handed_hosts [] k e at = cc
handed_hosts (Run i n ∷ es) k e at = handed_hosts es k e at
handed_hosts (Take line token ∷ es) k e at = handed_hosts es k e at
handed_hosts (HostIn p x ∷ es) zero e at = let same : HostIn p x ≡ e = cc in subst IsHosts same tt
handed_hosts (HostIn p x ∷ es) (suc k) e at = handed_hosts es k e at
handed_hosts (Confirm p upto ∷ es) zero e at = let same : Confirm p upto ≡ e = cc in subst IsHosts same tt
handed_hosts (Confirm p upto ∷ es) (suc k) e at = handed_hosts es k e at
handed_hosts (Turn i links n ∷ es) k e at = handed_hosts es k e at

entry_among : (k : ℕ) (e : Entry) (slips : List (ℕ × Entry)) (place : ℕ) → slice_get slips place ≡ Some (k, e) → slice_get (map (λ (slip : ℕ × Entry). slip.1) slips) place ≡ Some e
entry_among k e [] place at = cc
entry_among k e (slip ∷ slips) zero at = let same : slip ≡ (k, e) = cc in ap (λ (s : ℕ × Entry). Some s.1) same
entry_among k e (slip ∷ slips) (suc place) at = entry_among k e slips place at

hosts_among : (k : ℕ) (e : Entry) (n : ℕ) (es : List Entry) → AllByRecursion IsHosts es → IsAmong k e (enumerate_from n es) → IsHosts e
hosts_among k e n [] all A = absurd (let at = A.1 in cc)
hosts_among k e n (f ∷ es) all (zero, at) = let same : (n, f) ≡ (k, e) = cc in subst IsHosts (ap (λ (s : ℕ × Entry). s.1) same) all.0
hosts_among k e n (f ∷ es) all (suc place, at) = hosts_among k e (n + 1) es all.1 (place, at)

bytes_hosts : (port : ℕ) (bytes : List ℕ) → AllByRecursion IsHosts (map (HostIn port) bytes)
bytes_hosts port [] = tt
bytes_hosts port (x ∷ bytes) = (tt, bytes_hosts port bytes)

confirms_hosts : (port from : ℕ) (printed : List ℕ) → AllByRecursion IsHosts (confirms port from printed)
confirms_hosts port from [] = tt
confirms_hosts port from (x ∷ printed) = (tt, tt)

-- ## Who made an entry below the number that a call answered

none_read : (n k : ℕ) (e : Entry) → slice_get (drop n []) k ≡ Some e → ⊥
none_read zero k e there = cc
none_read (suc n) k e there = cc

pub maker : (start : Network NodeState) (old new : State) (did : Did start old new) (o : Opened) → verdict old.now.bytes ≡ Ok o → (k : ℕ) (e : Entry) → next_of o ≤ k → k < answered did
    → slice_get (journal_of did) k ≡ Some e → HasMaker did o k e
maker start old new (ByRun job input was now (Ok next) clause) o reads k e up below at =
    let C = clause.ran.carried in
    let same : C.opened ≡ o = let both = sym C.reads ∙ reads in cc in
    let A = C.accounted in
    let outset = outset_in C.opened job.port in
    let host = input_slips outset input ++ output_slips outset C.number C.printed in
    let low : next_of C.opened ≤ k = subst (λ (q : Opened). next_of q ≤ k) (sym same) up in
    elim (among_either k e host (flat_map (λ (worker : ℕ × List (ℕ × Entry)). worker.1) A.workers) (among (next_of C.opened) next clause.ran.journal _ A.all k e low at)) [
      | inl hosts ↦ elim (among_either k e (input_slips outset input) (output_slips outset C.number C.printed) hosts) [
        | inl some ↦ inl (hosts_among k e outset.next (input_entries outset input) (bytes_hosts outset.port _) some)
        | inr some ↦ inl (hosts_among k e C.number (confirms outset.port outset.confirmed C.printed) (confirms_hosts outset.port outset.confirmed C.printed) some)
      ]
      | inr turned ↦
          let W = among_some (λ (worker : ℕ × List (ℕ × Entry)). Worked C.opened.cut job.quantum worker.0 worker.1) k e A.workers A.worked turned in
          inr (W.0, subst (λ (q : Opened). Worked q.cut job.quantum W.0.0 W.0.1) same W.1, W.2)
    ]
maker start old new (ByRun job input was now (Err fault) clause) o reads k e up below at = absurd (omega (arith, below))
maker start old new (ByStream inputs (Ok ended) was now clause) o reads k e up below at =
    let A = clause.accounted o reads in
    elim (among_either k e A.host A.turns (among (next_of o) ended.next clause.streamed.journal (A.host ++ A.turns) A.all k e up at)) [
      | inl hosts ↦
          inl (handed_hosts (drop (next_of o) clause.streamed.journal) hosts.0 e (sym (ap (λ es. slice_get es hosts.0) A.are) ∙ entry_among k e A.host hosts.0 hosts.1))
      | inr turned ↦ inr (A.turns, A.made, turned)
    ]
maker start old new (ByStream inputs (Err fault) was now clause) o reads k e up below at = absurd (omega (arith, below))
maker start old new (ByCompaction (Ok done) clause) o reads k e up below at = absurd (let is = (clause.none_added o reads).0 in omega (arith, is, up, below))
maker start old new (ByCompaction (Err fault) clause) o reads k e up below at = absurd (omega (arith, below))
maker start old new (ByReading clause) o reads k e up below at = absurd (omega (arith, below))

-- ## What an entry confirms

put_at : (outputs : List OutputValue) (es : List Entry) (k port upto : ℕ) → AreConfirmsPut outputs es → slice_get es k ≡ Some (Confirm port upto) → WasPutUpto outputs port upto
put_at outputs [] k port upto all at = cc
put_at outputs (e ∷ es) zero port upto all at = let same : e ≡ Confirm port upto = cc in subst (ConfirmsPut outputs) same all.0
put_at outputs (e ∷ es) (suc k) port upto all at = put_at outputs es k port upto all.1 at

-- an entry that is handed in is among all that are
in_handed : (es : List Entry) (k port upto : ℕ) → slice_get es k ≡ Some (Confirm port upto) → (place : ℕ) × (slice_get (handed es) place ≡ Some (Confirm port upto))
in_handed [] k port upto at = cc
in_handed (Run i n ∷ es) zero port upto at = cc
in_handed (Run i n ∷ es) (suc k) port upto at = in_handed es k port upto at
in_handed (Take line token ∷ es) zero port upto at = cc
in_handed (Take line token ∷ es) (suc k) port upto at = in_handed es k port upto at
in_handed (HostIn p x ∷ es) zero port upto at = cc
in_handed (HostIn p x ∷ es) (suc k) port upto at = let there = in_handed es k port upto at in (suc there.0, there.1)
in_handed (Confirm p u ∷ es) zero port upto at = (zero, at)
in_handed (Confirm p u ∷ es) (suc k) port upto at = let there = in_handed es k port upto at in (suc there.0, there.1)
in_handed (Turn i links n ∷ es) zero port upto at = cc
in_handed (Turn i links n ∷ es) (suc k) port upto at = in_handed es k port upto at

get_front : {A : Type 0} (xs ys : List A) (k : ℕ) (x : A) → slice_get xs k ≡ Some x → slice_get (xs ++ ys) k ≡ Some x
get_front [] ys k x at = cc
get_front (y ∷ xs) ys zero x at = at
get_front (y ∷ xs) ys (suc k) x at = get_front xs ys k x at

-- what comes after bytes of a port is the entry that confirms what was printed
after_bytes : (port : ℕ) (bytes : List ℕ) (from : ℕ) (printed : List ℕ) (k p upto : ℕ) → slice_get (map (HostIn port) bytes ++ confirms port from printed) k ≡ Some (Confirm p upto)
    → (p ≡ port) × (upto ≡ from + length printed)
after_bytes port [] from [] k p upto at = cc
after_bytes port [] from (x ∷ printed) zero p upto at = let same : Confirm port (from + length (x ∷ printed)) ≡ Confirm p upto = cc in (cc, cc)
after_bytes port [] from (x ∷ printed) (suc k) p upto at = cc
after_bytes port (b ∷ bytes) from printed zero p upto at = cc
after_bytes port (b ∷ bytes) from printed (suc k) p upto at = after_bytes port bytes from printed k p upto at

bytes_alone : (port : ℕ) (bytes : List ℕ) (k p upto : ℕ) → slice_get (map (HostIn port) bytes) k ≡ Some (Confirm p upto) → ⊥
bytes_alone port [] k p upto at = cc
bytes_alone port (b ∷ bytes) zero p upto at = cc
bytes_alone port (b ∷ bytes) (suc k) p upto at = bytes_alone port bytes k p upto at

run_confirms : (start : Network NodeState) (journal : List Entry) (o : Opened) (port : ℕ) (input : List ℕ) (was now : Option (List ℕ)) (entries : List Entry)
    → HandsIn start journal (outset_in o port) input was now entries → (part : List Entry) → HasFront entries (handed part) → (k p upto : ℕ) → slice_get part k ≡ Some (Confirm p upto)
    → (p ≡ port) × ((printed : List ℕ) × Appends was now printed × (upto ≡ (outset_in o p).confirmed + length printed))
run_confirms start journal o port input was now entries hands part front k p upto at =
    let there = in_handed part k p upto at in
    let among_all : slice_get entries there.0 ≡ Some (Confirm p upto) = ap (λ es. slice_get es there.0) front.1 ∙ get_front (handed part) front.0 there.0 (Confirm p upto) there.1 in
    elim hands [
      | inl nothing ↦ let none : slice_get [] there.0 ≡ Some (Confirm p upto) = ap (λ es. slice_get es there.0) (sym nothing) ∙ among_all in cc
      | inr (inl is) ↦ absurd (bytes_alone port _ there.0 p upto (ap (λ es. slice_get es there.0) (sym is) ∙ among_all))
      | inr (inr C) ↦
          let last = after_bytes port _ (outset_in o port).confirmed C.printed there.0 p upto (ap (λ es. slice_get es there.0) (sym C.handed) ∙ among_all) in
          (last.0, (C.printed, C.taken, last.1 ∙ ap (λ q. (outset_in o q).confirmed + length C.printed) (sym last.0)))
    ]

pub may_confirm : (start : Network NodeState) (old new : State) (did : Did start old new) (o : Opened) → verdict old.now.bytes ≡ Ok o → (k port upto : ℕ) → next_of o ≤ k
    → slice_get (journal_of did) k ≡ Some (Confirm port upto) → MayConfirm did o port upto
may_confirm start old new (ByRun job input was now result clause) o reads k port upto up at =
    let H = clause.ran.handed o reads in
    run_confirms start clause.ran.journal o job.port input was.taken now.taken H.entries H.hands (drop (next_of o) clause.ran.journal) H.front (k - next_of o) port upto
    (get_dropped k (next_of o) clause.ran.journal up ∙ at)
may_confirm start old new (ByStream inputs result was now clause) o reads k port upto up at =
    put_at now (drop (next_of o) clause.streamed.journal) (k - next_of o) port upto (clause.confirms o reads) (get_dropped k (next_of o) clause.streamed.journal up ∙ at)
may_confirm start old new (ByCompaction result clause) o reads k port upto up at =
    let there = in_handed (drop (next_of o) clause.journal) (k - next_of o) port upto (get_dropped k (next_of o) clause.journal up ∙ at) in
    let none : slice_get [] there.0 ≡ Some (Confirm port upto) = ap (λ es. slice_get es there.0) (sym (clause.untouched o reads)) ∙ there.1 in
    cc
may_confirm start old new (ByReading clause) o reads k port upto up at = cc
