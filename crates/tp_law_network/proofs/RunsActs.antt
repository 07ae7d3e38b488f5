-- What stays of the flusher's position through an act of the network, its book and its markers.
use Rattle.std.proofs.Common.{◌≡◌, ℕ, List, [], ◌∷◌, ◌++◌, sym, ap, ◌∙◌, append_assoc, Option}
use Rattle.tp_law_network.proofs.Lower.{Entry, Machine, Network, Snapshot, all_some, Areas, Held, Position, Resting, Body, Ready, Gate, Cleared, Tail, Opening, Opened, Broken, World}
use Rattle.tp_law_network.proofs.Stays.{HasCounts}
use Rattle.tp_law_network.specs.Standing.{RestsBetweenGroups, Bodied, Readied, Gated, Clearing, Switching}
use Rattle.tp_law_network.proofs.Prefix.{Stands, Kept, Copied, held_of, kept_grows, copied_grows, copied_stays}
use Rattle.tp_law_network.proofs.Invariant.{Reads, CopiedOf, WithKept, At}

-- counts of a snapshot are one list
pub same_counts : (snapshot : Option Snapshot) (xs ys : List ℕ) → HasCounts snapshot xs → HasCounts snapshot ys → xs ≡ ys
same_counts snapshot xs ys H K =
    let same : H.snap ≡ K.snap = let runs = sym H.runs ∙ K.runs in cc in
    let both = sym H.recorded ∙ ap (λ s. all_some s.counts) same ∙ K.recorded in
    cc

-- ## At each position of the flusher

module _ {Node : Type 0} (M : Machine Node) (A : Areas Node) (start : Network Node) where
  pub stands_grows : (journal : List Entry) (least : ℕ) (h : Held Node) (e : Entry) → Stands M start journal least h → Stands M start (journal ++ e ∷ []) least h
  stands_grows journal least h e s = record {
    first = s.first;
    rest = s.rest ++ e ∷ [];
    parts = ap (λ es. es ++ e ∷ []) s.parts ∙ append_assoc s.first s.rest (e ∷ []);
    count = s.count;
    exact = s.exact;
    order = s.order;
    no_less = s.no_less;
  }

  pub reads_grows : (journal : List Entry) (least : ℕ) (left : List ℕ) (e : Entry) → Reads M A start journal least left → Reads M A start (journal ++ e ∷ []) least left
  reads_grows journal least left e r = record { held = r.held; is = r.is; stands = stands_grows journal least r.held e r.stands }

  module _ (w : World Node) (live : Network Node) (snapshot : Option Snapshot) (frozen : List (Option Node))
      (stay : (counts : List ℕ) → HasCounts w.net.snapshot counts → HasCounts snapshot counts) where
    copy_stays : (copy : Held Node) (upto : ℕ) → CopiedOf M start w copy upto → Copied M start w.net.start w.net.entries w.base w.journal w.stored snapshot copy upto
    copy_stays copy upto C = copied_stays M start w.net.start w.net.entries w.base w.journal w.stored w.net.snapshot copy upto C snapshot (stay C.counts C.whole)

    copy_grows : (e : Entry) (copy : Held Node) (upto : ℕ) → CopiedOf M start w copy upto
        → Copied M start w.net.start (w.net.entries ++ e ∷ []) w.base (w.journal ++ e ∷ []) w.stored snapshot copy upto
    copy_grows e copy upto C = copied_grows M start w.net.start w.net.entries w.base w.journal w.stored snapshot copy upto (copy_stays copy upto C) e

    grows : (e : Entry) (P : Held Node → Type 0) → WithKept M start w P
        → (L : Kept M start w.net.start (w.net.entries ++ e ∷ []) w.base (w.journal ++ e ∷ []) w.stored w.backlog) × P (held_of w.net.start L.tail L.durable w.base)
    grows e P a = kept_grows M start w.net.start w.net.entries w.base w.journal w.stored w.backlog e P a.0 a.1

    -- nothing is journalled
    pub same_at : (pos : Position Node) → At M A start w pos
        → At M A start (record w { net = record { start = w.net.start; entries = w.net.entries; live = live; snapshot = snapshot; frozen = frozen }; journal = w.journal }) pos
    same_at Resting a = a
    same_at (Body place es) a = a
    same_at (Ready place es) a = a
    same_at (Gate place es) a = a
    same_at Cleared a = a
    same_at (Tail copy upto) a = (a.0, copy_stays copy upto a.1, a.2)
    same_at (Opening copy upto) a = (a.0, copy_stays copy upto a.1, a.2)
    same_at (Opened copy upto) a = (a.0, a.1, copy_stays copy upto a.2, a.3, a.4)
    same_at Broken a = a

    -- an entry is journalled
    pub grown_at : (e : Entry) (pos : Position Node) → At M A start w pos
        → At M A start (record w { net = record { start = w.net.start; entries = w.net.entries ++ e ∷ []; live = live; snapshot = snapshot; frozen = frozen }; journal = w.journal ++ e ∷ [] }) pos
    grown_at e Resting a = grows e (λ h. RestsBetweenGroups A h w.disk) a
    grown_at e (Body place es) a = (grows e (λ h. Bodied A h w.disk place es) a.0, a.1)
    grown_at e (Ready place es) a = (grows e (λ h. Readied A h w.disk place es) a.0, a.1)
    grown_at e (Gate place es) a = (grows e (λ h. Gated A h w.disk place es) a.0, a.1)
    grown_at e Cleared a = grows e (λ h. Clearing A h w.disk) a
    grown_at e (Tail copy upto) a = (grows e (λ h. RestsBetweenGroups A h w.disk) a.0, copy_grows e copy upto a.1, a.2)
    grown_at e (Opening copy upto) a = (grows e (λ h. Switching A h w.disk copy) a.0, copy_grows e copy upto a.1, a.2)
    grown_at e (Opened copy upto) a = (a.0, a.1, copy_grows e copy upto a.2, a.3, a.4)
    grown_at e Broken a = λ left may. reads_grows w.journal w.stored left e (a left may)
