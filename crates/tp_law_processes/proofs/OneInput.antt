-- If all inputs for a port are fronts of one list, all that the port got is a front of it.
use Rattle.std.proofs.Common.{◌≡◌, ℕ, suc, ◌≤◌, ◌⊎◌, inl, inr, cond, List, [], ◌∷◌, ◌++◌, length, take, Option, Some, None, Ok, refl, sym, ap, subst, ◌∙◌, arith, append-nil, append_assoc, ne_eqb}
use Rattle.std.specs.Prelude.{slice_get}
use Rattle.tp_law_processes.proofs.Lower.{AllByRecursion, cases_eq, cases_lt, length-take-le, slice_get_within, Entry, Run, Take, HostIn, Confirm, Turn, NodeState, Network, State, Opened, next_of, verdict, port_or_fresh, byte_in, bytes_in, HasByte}
use Rattle.tp_law_processes.specs.Inputs.{IsFrontOf, all_in}
use Rattle.tp_law_processes.specs.Processes.{AreInOrder, ByCompaction, ByReading, ByRun, ByStream, Did, GivesFrontOf, IsKnownFront, MayHand, Process, last_left}
use Rattle.tp_law_processes.specs.OneHistory.{HasPlace, OneHistory, OpensAfter}
use Rattle.tp_law_processes.proofs.Handing.{get_take, in_itself}

-- ## Byte by byte

one_more : (all xs : List ℕ) (b : ℕ) → IsFrontOf all xs → slice_get all (length xs) ≡ Some b → IsFrontOf all (xs ++ b ∷ [])
one_more [] xs b front at = cc
one_more (y ∷ all) [] b front at = let same : y ≡ b = cc in ap (λ z. z ∷ []) (sym same)
one_more (y ∷ all) (x ∷ xs) b front at =
    let head : x ≡ y = cc in
    let rest : xs ≡ take (length xs) all = cc in
    ap (λ z. z ∷ (xs ++ b ∷ [])) head ∙ ap (λ zs. y ∷ zs) (one_more all xs b rest at)

hands_or : (p : ℕ) (e : Entry) → (byte_in p e ≡ []) ⊎ ((b : ℕ) × (e ≡ HostIn p b))
hands_or p (Run i k) = inl refl
hands_or p (Take line token) = inl refl
hands_or p (HostIn q x) = elim (cases_eq q p) [
  | inl same ↦ inr (x, ap (λ r. HostIn r x) same)
  | inr apart ↦ inl (ap (λ test. cond test (x ∷ []) []) (ne_eqb q p apart))
]
hands_or p (Confirm q upto) = inl refl
hands_or p (Turn i links k) = inl refl

-- each entry hands the port the byte of `all` at the position that the port has come to
abbrev HandsEach : List ℕ → List ℕ → ℕ → List Entry → Type 0
HandsEach all first p es = (k b : ℕ) → slice_get es k ≡ Some (HostIn p b) → slice_get all (length (first ++ bytes_in p (take k es))) ≡ Some b

all_front : (all first : List ℕ) (p : ℕ) (es : List Entry) → IsFrontOf all first → HandsEach all first p es → IsFrontOf all (first ++ bytes_in p es)
all_front all first p [] front each = subst (IsFrontOf all) (sym (append-nil first)) front
all_front all first p (e ∷ es) front each =
    let next = first ++ byte_in p e in
    let here : IsFrontOf all next = elim (hands_or p e) [
      | inl none ↦ subst (IsFrontOf all) (sym (append-nil first) ∙ ap (λ xs. first ++ xs) (sym none)) front
      | inr one ↦
          let at : slice_get all (length (first ++ [])) ≡ Some one.0 = each 0 one.0 (ap Some one.1) in
          let now : slice_get all (length first) ≡ Some one.0 = ap (λ xs. slice_get all (length xs)) (sym (append-nil first)) ∙ at in
          subst (IsFrontOf all) (ap (λ xs. first ++ xs) (sym (in_itself p one.0) ∙ ap (byte_in p) (sym one.1))) (one_more all first one.0 front now)
    ] in
    let rest : HandsEach all next p es =
    λ k b at. ap (λ xs. slice_get all (length xs)) (append_assoc first (byte_in p e) (bytes_in p (take k es))) ∙ each (suc k) b at in
    subst (IsFrontOf all) (append_assoc first (byte_in p e) (bytes_in p es)) (all_front all next p es here rest)

-- ## By processes

front_byte : (xs all : List ℕ) (at byte : ℕ) → IsFrontOf all xs → slice_get xs at ≡ Some byte → slice_get all at ≡ Some byte
front_byte xs all at byte front there = get_take (length xs) at all byte (ap (λ ys. slice_get ys at) (sym front) ∙ there)

known_byte : (input : Option (List ℕ)) (all : List ℕ) (at byte : ℕ) → IsKnownFront all input → HasByte input at byte → slice_get all at ≡ Some byte
known_byte None all at byte front has = absurd front
known_byte (Some xs) all at byte front has = front_byte xs all at byte front has

given_byte : (start : Network NodeState) (old new : State) (did : Did start old new) (all : List ℕ) (port at byte : ℕ) → GivesFrontOf did port all → MayHand did port at byte → slice_get all at ≡ Some byte
given_byte start old new (ByRun job input was now result clause) all port at byte front may =
    front_byte input all at byte (front (sym may.0)) may.1
given_byte start old new (ByStream inputs result was now clause) all port at byte front may = known_byte may.input.all all at byte (front may.place may.input may.there may.is) may.byte
given_byte start old new (ByCompaction result clause) all port at byte front may = absurd may
given_byte start old new (ByReading clause) all port at byte front may = absurd may

module _ (start : Network NodeState) (journal : List Entry) (all : List ℕ) (port : ℕ) where
  -- Each entry from the first process's number on is some process's own.
  each_given : (was : List ℕ) (o : Opened) → verdict was ≡ Ok o → (processes : List (Process start)) → AreInOrder start was processes → AllByRecursion (HasPlace start journal) processes
      → AllByRecursion (λ p. GivesFrontOf p.did port all) processes → OpensAfter start journal (last_left start was processes)
      → (k byte : ℕ) → next_of o ≤ k → slice_get journal k ≡ Some (HostIn port byte) → slice_get all (length (all_in start port (take k journal))) ≡ Some byte
  each_given was o reads [] order each fronts left k byte from there =
      let same : left.opened ≡ o = let both = sym left.reads ∙ reads in cc in
      let number : next_of left.opened ≡ next_of o = ap (λ (q : Opened). next_of q) same in
      let count = left.count in
      let below = slice_get_within journal k (HostIn port byte) there in
      absurd (omega (arith, number, count, below, from))
  each_given was o reads (p ∷ processes) order each fronts left k byte from there =
      let P = each.0 in
      let found = P.found in
      let same : found.opened ≡ o = let both = sym found.reads ∙ ap verdict order.0 ∙ reads in cc in
      let number : next_of found.opened ≡ next_of o = ap (λ (q : Opened). next_of q) same in
      let onward = P.onward in
      let few = P.few in
      let count = sym (length-take-le P.number journal (omega (arith, onward, few))) ∙ found.count in
      elim (cases_lt k P.upto) [
        | inl below ↦
            given_byte start p.old p.new p.did all port (length (all_in start port (take k journal))) byte fronts.0
            (P.handed k port byte (omega (arith, count, number, from)) below there)
        | inr past ↦
            let after = P.left in
            let upto = sym (length-take-le P.upto journal few) ∙ after.count in
            each_given p.left after.opened after.reads processes order.1 each.1 fronts.1 left k byte (omega (arith, upto, past)) there
      ]

pub one_input : (start : Network NodeState) (was : List ℕ) (opened : Opened) → verdict was ≡ Ok opened → next_of opened ≡ 0 → (processes : List (Process start)) → AreInOrder start was processes
    → (H : OneHistory start was processes) → (port : ℕ) (all : List ℕ) → IsFrontOf all (port_or_fresh start port).pending → AllByRecursion (λ p. GivesFrontOf p.did port all) processes
    → IsFrontOf all (all_in start port H.journal)
one_input start was opened reads first processes order H port all pending fronts =
    all_front all (port_or_fresh start port).pending port H.journal pending
    (λ k byte there. each_given start H.journal all port was opened reads processes order H.each fronts H.left k byte (omega (arith, first)) there)
