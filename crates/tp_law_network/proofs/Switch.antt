-- The copy of a cut with its tail, and the trim of the book to that cut.
use Rattle.std.proofs.Common.{◌≡◌, ℕ, ◌+◌, ◌≤◌, List, [], ◌++◌, length, refl, sym, ap, subst, ◌∙◌, arith, append-nil, length-append, Some}
use Rattle.tp_law_network.proofs.Lower.{Entry, Machine, Network, process, HasFourLinks, after, pre, post, made, MarkedNetwork, WholeCut, count_in, network_in, CutHolds, AreWithin, Areas, Held, World, HasCut, copy_of, HasOrder}
use Rattle.tp_law_network.proofs.Choice.{pre-append_outside, post-append_outside}
use Rattle.tp_law_network.proofs.Reorder.{same_behind}
use Rattle.tp_law_network.specs.Invariant.{CutInvariant, Inside}
use Rattle.tp_law_network.specs.Standing.{RestsBetweenGroups}
use Rattle.tp_law_network.proofs.Prefix.{Kept, held_of, in_counts, copied_exact, copied_count}
use Rattle.tp_law_network.proofs.Orders.{order_behind, order_cut}
use Rattle.tp_law_network.proofs.RunsActs.{same_counts}
use Rattle.tp_law_network.proofs.Invariant.{KeptOf, CopiedOf}
use Rattle.tp_law_network.proofs.Kept.{cut_network}
use Rattle.tp_law_network.proofs.Stays.{HasCounts, whole_counts}
use Rattle.tp_law_network.proofs.Whole.{all_counts, whole_holds}

-- the counts of a snapshot are of entries that are there
counts_there : {Node : Type 0} (M : Machine Node) (net : MarkedNetwork Node) (counts : List ℕ) → CutInvariant M net → HasCounts net.snapshot counts
    → (p : ℕ) → in_counts counts p ≤ made (process net.start.wires (length net.start.nodes)) p net.entries
counts_there M net counts holds H p = (subst (Inside M net) H.runs holds.inside).counted p (in_counts counts p) (all_counts H.snap.counts counts H.recorded p)

module _ {Node : Type 0} (M : Machine Node) (four : HasFourLinks M) where
  module _ (A : Areas Node) (start : Network Node) (w : World Node) (holds : CutInvariant M w.net) (agree : after M w.net.start w.net.entries ≡ after M start w.journal)
      (order : HasOrder M start w.journal w.net.start w.net.entries w.base)
      (cut : WholeCut) (nodes : List Node) (has : HasCut w.net cut nodes) where
    -- the cut and the entries outside it are an order of the journal
    pub cut_order : HasOrder M start w.journal (network_in w.net.start cut nodes) (post (process w.net.start.wires (length w.net.start.nodes)) (count_in cut) w.net.entries) (w.base + cut.size)
    cut_order =
        let C = whole_holds M four w.net holds cut has.is in
        let inside = pre (process w.net.start.wires (length w.net.start.nodes)) (count_in cut) w.net.entries in
        let outside = post (process w.net.start.wires (length w.net.start.nodes)) (count_in cut) w.net.entries in
        subst (λ n. HasOrder M start w.journal (network_in w.net.start cut nodes) outside (w.base + n)) (sym C.size)
        (order_cut M start w.journal w.net.entries w.net.start (network_in w.net.start cut nodes) w.base inside outside order
        (C.consistent.is ∙ ap Some (sym (cut_network M four w.net cut nodes C has.images))) C.order)

    -- the cut and its tail are copied
    pub copies : KeptOf M start w → CopiedOf M start w (copy_of w.net w.base cut nodes) (w.base + length w.net.entries)
    copies K =
        let C = whole_holds M four w.net holds cut has.is in
        let H = whole_counts w.net cut has.is in
        let size : length w.journal ≡ w.base + length w.net.entries =
        omega (arith, K.count, ap length K.own, ap length K.all, length-append K.tail (K.durable ++ (w.backlog ++ K.rest)), length-append K.front (K.durable ++ (w.backlog ++ K.rest)))
        in
        record {
          counts = cut.counts;
          whole = H;
          before = w.net.entries;
          first = w.journal;
          since = [];
          own = sym (append-nil w.net.entries);
          all = sym (append-nil w.journal);
          number = size;
          count = size;
          there = counts_there M w.net cut.counts holds H;
          network = C.consistent.is ∙ ap Some (sym (cut_network M four w.net cut nodes C has.images));
          tail = refl;
          size = ap (λ n. w.base + n) C.size;
          same = C.same ∙ agree;
          order = cut_order;
          no_less = omega (arith, K.reach, ap length K.all, length-append K.front (K.durable ++ (w.backlog ++ K.rest)), length-append K.durable (w.backlog ++ K.rest));
        }

    -- a book that starts at a network, with the entries after a cut of `base`, agrees with journal and device
    abbrev Goes : Network Node → List Entry → ℕ → List Entry → Type 0
    Goes kept entries base backlog =
        (after M kept entries ≡ after M start w.journal) × HasOrder M start w.journal kept entries base
        × ((K : Kept M start kept entries base w.journal w.stored backlog) × RestsBetweenGroups A (held_of kept K.tail K.durable base) w.disk)

    -- The book is trimmed: it starts at the copied cut, and its entries are the copied tail and those since. The device already holds the
    -- cut and the tail.
    pub trims : (copy : Held Node) (upto : ℕ) → CopiedOf M start w copy upto → w.stored ≡ upto → A.verdict w.disk.bytes ≡ Some copy → w.disk.unsynced ≡ [] → w.backlog ≡ []
        → Goes (network_in w.net.start cut nodes) (post (process w.net.start.wires (length w.net.start.nodes)) (count_in cut) w.net.entries) (w.base + cut.size) w.backlog
    trims copy upto C reached reads synced none =
        subst (λ n. Goes n (post (process w.net.start.wires (length w.net.start.nodes)) (count_in cut) w.net.entries) (w.base + cut.size) w.backlog) (sym network)
        (subst (λ es. Goes copy.network es (w.base + cut.size) w.backlog) (sym entries)
        (subst (λ n. Goes copy.network (copy.entries ++ C.since) n w.backlog) (sym base)
        (subst (Goes copy.network (copy.entries ++ C.since) copy.base) (sym none) goes)))
      where
        now : CutHolds M w.net cut
        now = whole_holds M four w.net holds cut has.is

        same : C.counts ≡ cut.counts
        same = same_counts w.net.snapshot C.counts cut.counts C.whole (whole_counts w.net cut has.is)

        inside : pre (process w.net.start.wires (length w.net.start.nodes)) (count_in cut) w.net.entries ≡ pre (process w.net.start.wires (length w.net.start.nodes)) (in_counts C.counts) C.before
        inside =
            ap (λ counts. pre (process w.net.start.wires (length w.net.start.nodes)) (in_counts counts) w.net.entries) (sym same)
            ∙ ap (pre (process w.net.start.wires (length w.net.start.nodes)) (in_counts C.counts)) C.own
            ∙ pre-append_outside (process w.net.start.wires (length w.net.start.nodes)) (in_counts C.counts) C.before C.since C.there

        entries : post (process w.net.start.wires (length w.net.start.nodes)) (count_in cut) w.net.entries ≡ copy.entries ++ C.since
        entries =
            ap (λ counts. post (process w.net.start.wires (length w.net.start.nodes)) (in_counts counts) w.net.entries) (sym same)
            ∙ ap (post (process w.net.start.wires (length w.net.start.nodes)) (in_counts C.counts)) C.own
            ∙ post-append_outside (process w.net.start.wires (length w.net.start.nodes)) (in_counts C.counts) C.before C.since C.there
            ∙ ap (λ es. es ++ C.since) (sym C.tail)

        network : network_in w.net.start cut nodes ≡ copy.network
        network =
            let both = sym now.consistent.is ∙ ap (after M w.net.start) inside ∙ C.network in
            let one : now.consistent.state ≡ copy.network = cc in
            cut_network M four w.net cut nodes now has.images ∙ one

        base : w.base + cut.size ≡ copy.base
        base = ap (λ n. w.base + n) (now.size ∙ ap length inside) ∙ sym C.size

        goes : Goes copy.network (copy.entries ++ C.since) copy.base []
        goes = (
          same_behind M copy.network start copy.entries C.first C.since (copied_exact M start w.net.start w.net.entries w.base w.journal w.stored w.net.snapshot copy upto C)
              ∙ ap (after M start) (sym C.all),
          subst (λ journal. HasOrder M start journal copy.network (copy.entries ++ C.since) copy.base) (sym C.all)
              (order_behind M start C.first copy.entries copy.network copy.base C.since C.order),
          (
            record {
              front = C.first;
              tail = copy.entries;
              durable = [];
              rest = C.since;
              own = refl;
              all = C.all;
              count = copied_count M start w.net.start w.net.entries w.base w.journal w.stored w.net.snapshot copy upto C;
              exact = copied_exact M start w.net.start w.net.entries w.base w.journal w.stored w.net.snapshot copy upto C;
              order = C.order;
              reach = omega (arith, reached, C.number);
            },
            record {
              reads = reads ∙ ap (λ es. Some (record { network = copy.network; entries = es; base = copy.base })) (sym (append-nil copy.entries));
              loose = subst (λ ranges. AreWithin (A.spare w.disk.bytes) ranges) (sym synced) tt;
            },
          ),
        )
