-- The invariant holds at each moment of a run, and so what a crash leaves holds a prefix of the journal.
use Rattle.std.proofs.Common.{◌≡◌, ℕ, ◌+◌, ◌-◌, ◌*◌, ◌<◌, ◌≤◌, max, true, false, List, [], ◌∷◌, ◌++◌, length, take, drop, refl, sym, ap, subst, ◌∙◌, arith, append_assoc, append-nil, length-append, le_refl, Option, Some, None}
use Rattle.tp_law_network.proofs.Lower.{AllByRecursion, option_map, take_at, Entry, ◌>>=◌, Machine, Network, has_wire, on_line, process, takes, HasFourLinks, after, post, NeverMarks, markers, plain_network, Snapshot, MarkedNetwork, collected, journalled, WholeCut, count_in, whole, network_in, trimmed, Act, Begin, Record, Journal, Close, Trim, happens, IsOpened, CutHolds, MayBe, AreWithin, Call, done, within, broken, Areas, AreasHold, Held, next_number, Position, Resting, Body, Ready, Gate, Cleared, Tail, Opening, Opened, Broken, Allows, reached, left, World, Event, Acts, Copies, CopiesTail, Does, Breaks, Trims, Raises, ReadsMark, Reopens, grown, is_trim, copy_of, reopened, HasCut, CrashLeaves, Step, fresh, BeginsFormatted, Recovers, HasOrder}
use Rattle.tp_model.specs.Runs.{Run}
use Rattle.tp_law_network.proofs.Reorder.{first_possible, front_possible, same_behind}
use Rattle.tp_law_network.specs.Invariant.{Inside, CutInvariant}
use Rattle.tp_law_network.specs.Standing.{RestsBetweenGroups}
use Rattle.tp_law_network.proofs.Moments.{broken_may}
use Rattle.tp_law_network.proofs.Orders.{order_first, order_behind}
use Rattle.tp_law_network.proofs.Prefix.{Stands, stands_taken, copy_kept, forget_kept}
use Rattle.tp_law_network.proofs.Invariant.{Reads, WithKept, At, Inv}
use Rattle.tp_law_network.proofs.RunsActs.{same_at, grown_at}
use Rattle.tp_law_network.proofs.RunsSteps.{reads_at, reads_within, done_at}
use Rattle.tp_law_network.proofs.Switch.{copies, trims}
use Rattle.tp_law_network.proofs.Kept.{trim_holds}
use Rattle.tp_law_network.proofs.Whole.{whole_holds}
use Rattle.tp_law_network.proofs.Stays.{HasCounts, start_stays, entries_grow, counts_stay}
use Rattle.tp_law_network.proofs.Happens.{happens_holds, opened_holds}

-- each number of a list is no more than a larger one
pub all_up : (rs : List ℕ) (m n : ℕ) → m ≤ n → AllByRecursion (λ r. r ≤ m) rs → AllByRecursion (λ r. r ≤ n) rs
all_up [] m n up all = tt
all_up (r ∷ rs) m n up all = (let low = all.0 in omega arith, all_up rs m n up all.1)

-- What the device holds doesn't depend on the mark and the marks that were read.
mark_at : {Node : Type 0} (M : Machine Node) (A : Areas Node) (start : Network Node) (w : World Node) (mark : ℕ) (seen : List ℕ) (pos : Position Node) → At M A start w pos
    → At M A start (record w { mark = mark; seen = seen }) pos
mark_at M A start w mark seen Resting a = a
mark_at M A start w mark seen (Body place es) a = a
mark_at M A start w mark seen (Ready place es) a = a
mark_at M A start w mark seen (Gate place es) a = a
mark_at M A start w mark seen Cleared a = a
mark_at M A start w mark seen (Tail copy upto) a = a
mark_at M A start w mark seen (Opening copy upto) a = a
mark_at M A start w mark seen (Opened copy upto) a = a
mark_at M A start w mark seen Broken a = a

-- what the synced gates reach goes up
reached_up : {Node : Type 0} (M : Machine Node) (A : Areas Node) (start : Network Node) (w : World Node) (pos : Position Node) → At M A start w pos → w.stored ≤ reached pos w.stored
reached_up M A start w Resting a = le_refl w.stored
reached_up M A start w (Body place es) a = le_refl w.stored
reached_up M A start w (Ready place es) a = le_refl w.stored
reached_up M A start w (Gate place es) a = omega arith
reached_up M A start w Cleared a = le_refl w.stored
reached_up M A start w (Tail copy upto) a = le_refl w.stored
reached_up M A start w (Opening copy upto) a = let C = a.1 in omega (arith, C.number, C.no_less)
reached_up M A start w (Opened copy upto) a = le_refl w.stored
reached_up M A start w Broken a = le_refl w.stored

module _ {Node : Type 0} (M : Machine Node) (four : HasFourLinks M) (never : NeverMarks M) where
  -- From a book without a snapshot, entries alone.
  walk : (es : List Entry) (w : MarkedNetwork Node) → CutInvariant M w → w.snapshot ≡ None → (now : Network Node) → after M w.live es ≡ Some now
      → (v : MarkedNetwork Node) × CutInvariant M v × (v.snapshot ≡ None) × (v.live ≡ now) × (v.start ≡ w.start) × (v.entries ≡ w.entries ++ es)
  unfolding after happens
  walk [] w holds idle now is = (w, holds, idle, cc, refl, sym (append-nil w.entries))
  walk (e ∷ es) w holds idle now is =
      let F = first_possible M w.live now e es is in
      let here : happens M w (Journal e) ≡ Some (journalled w e F.0) = ap (λ live. live >>= λ t. Some (journalled w e t)) F.1 in
      let rest = walk es (journalled w e F.0) (happens_holds M four never w (journalled w e F.0) (Journal e) holds here) (ap (option_map (collected (process w.start.wires (length w.start.nodes) e) (takes w.live.wires (length w.live.nodes) e))) idle) now F.2 in
      (rest.0, rest.1, rest.2, rest.3, rest.4, rest.5 ∙ append_assoc w.entries (e ∷ []) es)

  module _ (A : Areas Node) (law : AreasHold M A) (start : Network Node) (opened : IsOpened M (fresh start)) where
    -- ## Openings

    -- the marker argument holds of a book that goes on from what was read
    pub reopened_holds : (first : List Entry) (h : Held Node) (now : Network Node) → after M start first ≡ Some now → after M h.network h.entries ≡ Some now
        → CutInvariant M (record { start = h.network; entries = h.entries; live = now; snapshot = None; frozen = [] })
    reopened_holds first h now is replayed =
        let W = walk first (fresh start) (opened_holds M (fresh start) opened) refl now is in
        let B = W.1.base in
        record {
          base = record {
            now = replayed ∙ sym is ∙ sym (λ i. after M (W.4 i) (W.5 i)) ∙ B.now ∙ ap (λ s. Some (plain_network s)) W.3;
            lines = subst (λ s. length s.lines ≡ 4 * length s.nodes + length s.ports) W.3 B.lines;
            wired = subst (λ s. (l : ℕ) → has_wire s.wires l ≡ true → l < length s.lines) W.3 B.wired;
            unwired = subst (λ s. (l : ℕ) → has_wire s.wires l ≡ false → on_line s.lines l ≡ []) W.3 B.unwired;
          };
          inside = subst (λ s. (l : ℕ) → markers (on_line s.lines l) ≡ 0) W.3 (subst (Inside M W.0) W.2 W.1.inside);
        }

    -- what a crash leaves now
    pub reads_now : (w : World Node) → Inv M A start w → (bytes : List ℕ) → MayBe w.disk bytes → Reads M A start w.journal w.stored bytes
    reads_now w I bytes may = reads_at M A law start w (plain_network w.net.live) I.net.base.now w.at I.at bytes may

    reopens : (w : World Node) → Inv M A start w → (bytes : List ℕ) (h : Held Node) (now : Network Node) → CrashLeaves M A w.disk bytes h now → Inv M A start (reopened w bytes h now)
    reopens w I bytes h now L =
        subst (λ journal. Inv M A start (record (reopened w bytes h now) { journal = journal })) (sym cut) (
        record {
          net = reopened_holds S.first h now (sym S.exact ∙ L.is) L.is;
          agree = S.exact;
          order = S.order;
          mark = le_refl (next_number h);
          seen = all_up w.seen w.mark (next_number h) (omega (arith, I.mark, S.no_less, S.count)) I.seen;
          at = (
            record {
              front = S.first;
              tail = h.entries;
              durable = [];
              rest = [];
              own = sym (append-nil h.entries);
              all = sym (append-nil S.first);
              count = S.count;
              exact = S.exact;
              order = S.order;
              reach = omega (arith, S.count);
            },
            record { reads = L.reads ∙ ap (λ es. Some (record { network = h.network; entries = es; base = h.base })) (sym (append-nil h.entries)); loose = tt },
          );
        }
        )
      where
        R : Reads M A start w.journal w.stored bytes
        R = reads_now w I bytes L.may

        same : R.held ≡ h
        same = let both = sym R.is ∙ L.reads in cc

        S : Stands M start w.journal w.stored h
        S = subst (Stands M start w.journal w.stored) same R.stands

        cut : take (next_number h) w.journal ≡ S.first
        cut = stands_taken M start w.journal w.stored h S

    -- ## Acts

    act_at : (w : World Node) (act : Act) (live : Network Node) (snapshot : Option Snapshot) (frozen : List (Option Node))
        → ((counts : List ℕ) → HasCounts w.net.snapshot counts → HasCounts snapshot counts) → At M A start w w.at
        → At M A start (record w { net = record { start = w.net.start; entries = grown act w.net.entries; live = live; snapshot = snapshot; frozen = frozen }; journal = grown act w.journal }) w.at
    act_at w Begin live snapshot frozen stay a = same_at M A start w live snapshot frozen stay w.at a
    act_at w (Record i) live snapshot frozen stay a = same_at M A start w live snapshot frozen stay w.at a
    act_at w (Journal e) live snapshot frozen stay a = grown_at M A start w live snapshot frozen stay e w.at a
    act_at w (Close line) live snapshot frozen stay a = same_at M A start w live snapshot frozen stay w.at a
    act_at w Trim live snapshot frozen stay a = same_at M A start w live snapshot frozen stay w.at a

    act_agrees : (kept : Network Node) (entries journal : List Entry) (act : Act) → after M kept entries ≡ after M start journal → after M kept (grown act entries) ≡ after M start (grown act journal)
    act_agrees kept entries journal Begin same = same
    act_agrees kept entries journal (Record i) same = same
    act_agrees kept entries journal (Journal e) same = same_behind M kept start entries journal (e ∷ []) same
    act_agrees kept entries journal (Close line) same = same
    act_agrees kept entries journal Trim same = same

    act_orders : (kept : Network Node) (entries journal : List Entry) (base : ℕ) (act : Act) → HasOrder M start journal kept entries base → HasOrder M start (grown act journal) kept (grown act entries) base
    act_orders kept entries journal base Begin order = order
    act_orders kept entries journal base (Record i) order = order
    act_orders kept entries journal base (Journal e) order = order_behind M start journal entries kept base (e ∷ []) order
    act_orders kept entries journal base (Close line) order = order
    act_orders kept entries journal base Trim order = order

    act_keeps : (w : World Node) → Inv M A start w → (act : Act) (net : MarkedNetwork Node) → is_trim act ≡ false → happens M w.net act ≡ Some net
        → Inv M A start (record w { net = net; journal = grown act w.journal })
    act_keeps w I act net other is = record {
      net = happens_holds M four never w.net net act I.net is;
      agree = (λ i. after M (book.0 i) (book.1 i)) ∙ act_agrees w.net.start w.net.entries w.journal act I.agree;
      order = subst (λ s. HasOrder M start (grown act w.journal) s net.entries w.base) (sym book.0)
          (subst (λ es. HasOrder M start (grown act w.journal) w.net.start es w.base) (sym book.1) (act_orders w.net.start w.net.entries w.journal w.base act I.order));
      mark = I.mark;
      seen = I.seen;
      at = subst (λ n. At M A start (record w { net = n; journal = grown act w.journal }) w.at) parts
          (act_at w act net.live net.snapshot net.frozen (λ counts H. counts_stay M w.net net act other is counts H) I.at);
    }
      where
        book : (net.start ≡ w.net.start) × (net.entries ≡ grown act w.net.entries)
        book = (start_stays M w.net net act other is, entries_grow M w.net net act other is)

        parts : ◌≡◌ {A = MarkedNetwork Node} (record { start = w.net.start; entries = grown act w.net.entries; live = net.live; snapshot = net.snapshot; frozen = net.frozen }) net
        parts = λ i. record { start = sym book.0 i; entries = sym book.1 i; live = net.live; snapshot = net.snapshot; frozen = net.frozen }

    -- ## The flusher

    resting : (w : World Node) → Inv M A start w → w.at ≡ Resting → WithKept M start w (λ h. RestsBetweenGroups A h w.disk)
    resting w I rests = subst (At M A start w) rests I.at

    copies_keeps : (w : World Node) → Inv M A start w → w.at ≡ Resting → Inv M A start (record w { backlog = drop (w.stored - w.base) w.net.entries })
    copies_keeps w I rests = record {
      net = I.net;
      agree = I.agree;
      order = I.order;
      mark = I.mark;
      seen = I.seen;
      at = subst (At M A start (record w { backlog = drop (w.stored - w.base) w.net.entries })) (sym rests)
          (copy_kept M start w.net.start w.net.entries w.base w.journal w.stored w.backlog (λ h. RestsBetweenGroups A h w.disk) (resting w I rests).0 (resting w I rests).1);
    }

    copies_tail_keeps : (w : World Node) → Inv M A start w → w.at ≡ Resting → (cut : WholeCut) (nodes : List Node) → HasCut w.net cut nodes
        → Inv M A start (record w { at = Tail (copy_of w.net w.base cut nodes) (w.base + length w.net.entries); backlog = [] })
    copies_tail_keeps w I rests cut nodes has = record {
      net = I.net;
      agree = I.agree;
      order = I.order;
      mark = I.mark;
      seen = I.seen;
      at = (
        forget_kept M start w.net.start w.net.entries w.base w.journal w.stored w.backlog (λ h. RestsBetweenGroups A h w.disk) (resting w I rests).0 (resting w I rests).1,
        copies M four A start w I.net I.agree I.order cut nodes has (resting w I rests).0,
        refl,
      );
    }

    does_keeps : (w : World Node) → Inv M A start w → (call : Call) (to : Position Node) → Allows A w.disk w.backlog w.at call to
        → Inv M A start (record w { disk = done call w.disk; at = to; stored = reached w.at w.stored; backlog = left w.at w.backlog })
    does_keeps w I call to row = record {
      net = I.net;
      agree = I.agree;
      order = I.order;
      mark = omega (arith, I.mark, reached_up M A start w w.at I.at);
      seen = I.seen;
      at = done_at M A law start w (plain_network w.net.live) I.net.base.now w.at to call row I.at;
    }

    breaks_keeps : (w : World Node) → Inv M A start w → (call : Call) (to : Position Node) (bytes : List ℕ) → Allows A w.disk w.backlog w.at call to → MayBe (within call w.disk) bytes
        → Inv M A start (record w { disk = broken call bytes w.disk; at = Broken })
    breaks_keeps w I call to bytes row may = record {
      net = I.net;
      agree = I.agree;
      order = I.order;
      mark = I.mark;
      seen = I.seen;
      at = λ later more. reads_within M A law start w (plain_network w.net.live) I.net.base.now w.at to call row I.at later (broken_may w.disk call bytes later may more);
    }

    trims_keeps : (w : World Node) → Inv M A start w → (copy : Held Node) (upto : ℕ) (cut : WholeCut) (nodes : List Node) → w.at ≡ Opened copy upto → HasCut w.net cut nodes
        → Inv M A start (record w { net = trimmed w.net cut nodes; base = w.base + cut.size; at = Resting })
    trims_keeps w I copy upto cut nodes is has = record {
      net = trim_holds M four w.net I.net cut nodes has.is has.images;
      agree = T.0;
      order = T.1;
      mark = I.mark;
      seen = I.seen;
      at = T.2;
    }
      where
        a : At M A start w (Opened copy upto)
        a = subst (At M A start w) is I.at

        T : (after M (network_in w.net.start cut nodes) (post (process w.net.start.wires (length w.net.start.nodes)) (count_in cut) w.net.entries) ≡ after M start w.journal)
            × HasOrder M start w.journal (network_in w.net.start cut nodes) (post (process w.net.start.wires (length w.net.start.nodes)) (count_in cut) w.net.entries) (w.base + cut.size)
            × WithKept M start (record w { net = trimmed w.net cut nodes; base = w.base + cut.size }) (λ h. RestsBetweenGroups A h w.disk)
        T = trims M four A start w I.net I.agree I.order cut nodes has copy upto a.2 a.4 a.0 a.1 a.3

    -- ## Each event

    pub step_keeps : (w v : World Node) (event : Event Node) → Inv M A start w → Step M A w event v → Inv M A start v
    step_keeps w v (Acts act) I s = subst (Inv M A start) (sym s.3) (act_keeps w I act s.1 s.0 s.2)
    step_keeps w v Copies I s = subst (Inv M A start) (sym s.1) (copies_keeps w I s.0)
    step_keeps w v (CopiesTail cut nodes) I s = subst (Inv M A start) (sym s.2) (copies_tail_keeps w I s.0 cut nodes s.1)
    step_keeps w v (Does call to) I s = subst (Inv M A start) (sym s.1) (does_keeps w I call to s.0)
    step_keeps w v (Breaks call to bytes) I s = subst (Inv M A start) (sym s.2) (breaks_keeps w I call to bytes s.0 s.1)
    step_keeps w v (Trims copy upto cut nodes) I s = subst (Inv M A start) (sym s.2) (trims_keeps w I copy upto cut nodes s.0 s.1)
    step_keeps w v Raises I s = subst (Inv M A start) (sym s) (
        record {
          net = I.net;
          agree = I.agree;
          order = I.order;
          mark = omega (arith, I.mark);
          seen = all_up w.seen w.mark (max w.mark w.stored) (omega arith) I.seen;
          at = mark_at M A start w (max w.mark w.stored) w.seen w.at I.at;
        }
        )
    step_keeps w v ReadsMark I s = subst (Inv M A start) (sym s) (
        record {
          net = I.net;
          agree = I.agree;
          order = I.order;
          mark = I.mark;
          seen = (le_refl w.mark, I.seen);
          at = mark_at M A start w w.mark (w.mark ∷ w.seen) w.at I.at;
        }
        )
    step_keeps w v (Reopens bytes h now) I s = subst (Inv M A start) (sym s.1) (reopens w I bytes h now s.0)

    pub run_keeps : (events : List (Event Node)) (w v : World Node) → Inv M A start w → Run M A w events v → Inv M A start v
    run_keeps [] w v I run = subst (Inv M A start) (sym run) I
    run_keeps (event ∷ events) w v I run = run_keeps events run.0 v (step_keeps w run.0 event I run.1) run.2

    -- ## The start

    pub formatted_holds : (w : World Node) → BeginsFormatted M A start w → Inv M A start w
    formatted_holds w F = record {
      net = subst (CutInvariant M) (sym F.net) (opened_holds M (fresh start) F.opened);
      agree = ap (λ n. after M n.start n.entries) F.net ∙ ap (after M start) (sym F.none.1);
      order = subst (λ journal. HasOrder M start journal w.net.start w.net.entries w.base) (sym F.none.1)
          (subst (λ n. HasOrder M start [] n.start n.entries w.base) (sym F.net) (subst (HasOrder M start [] start []) (sym F.none.0) (order_first M start)));
      mark = omega (arith, F.none.2, F.none.3);
      seen = subst (AllByRecursion (λ r. r ≤ w.mark)) (sym F.none.4) tt;
      at = subst (At M A start w) (sym F.rests.0) (
        record {
          front = [];
          tail = [];
          durable = [];
          rest = [];
          own = ap (λ n. n.entries) F.net ∙ ap (λ es. es ++ []) (sym F.rests.1);
          all = F.none.1 ∙ ap (λ es. es ++ []) (sym F.rests.1);
          count = omega (arith, F.none.0);
          exact = ap (λ n. after M n.start []) F.net;
          order = subst (λ n. HasOrder M start [] n.start [] w.base) (sym F.net) (subst (HasOrder M start [] start []) (sym F.none.0) (order_first M start));
          reach = omega (arith, F.none.2);
        },
        record {
          reads = F.reads ∙ (λ i. Some (record { network = sym (ap (λ n. n.start) F.net) i; entries = []; base = sym F.none.0 i }));
          loose = subst (AreWithin (A.spare w.disk.bytes)) (sym F.synced) tt;
        },
      );
    }

    -- ## What a crash leaves is recovered

    pub recovers : (w : World Node) → Inv M A start w → (bytes : List ℕ) → MayBe w.disk bytes → Recovers M A start w bytes
    recovers w I bytes may = record {
      held = R.held;
      reads = R.is;
      now = F.0;
      replayed = S.exact ∙ F.1;
      no_more = omega (arith, S.count, ap length S.parts, length-append S.first S.rest);
      exact = ap (λ n. after M start (take n w.journal)) (sym S.count) ∙ ap (λ es. after M start (take (length S.first) es)) S.parts
          ∙ ap (after M start) (take_at S.first S.rest (length S.first) refl) ∙ F.1;
      no_less = all_up w.seen w.mark (next_number R.held) (omega (arith, I.mark, S.no_less, S.count)) I.seen;
    }
      where
        R : Reads M A start w.journal w.stored bytes
        R = reads_now w I bytes may

        S : Stands M start w.journal w.stored R.held
        S = R.stands

        F : (u : Network Node) × (after M start S.first ≡ Some u) × (after M u S.rest ≡ Some (plain_network w.net.live))
        F = front_possible M start (plain_network w.net.live) S.first S.rest (ap (after M start) (sym S.parts) ∙ sym I.agree ∙ I.net.base.now)

-- a run from a formatted device keeps the invariant
pub formatted_run : {Node : Type 0} (M : Machine Node) → HasFourLinks M → NeverMarks M → (A : Areas Node) → AreasHold M A → (start : Network Node) (events : List (Event Node)) (first last : World Node)
    → BeginsFormatted M A start first → Run M A first events last → Inv M A start last
formatted_run M four never A law start events first last F run =
    run_keeps M four never A law start F.opened events first last (formatted_holds M four never A law start F.opened first F) run

-- after each run, whatever a crash leaves is recovered
pub run_recovers : {Node : Type 0} (M : Machine Node) → HasFourLinks M → NeverMarks M → (A : Areas Node) → AreasHold M A → (start : Network Node) (events : List (Event Node)) (first last : World Node)
    → BeginsFormatted M A start first → Run M A first events last → (bytes : List ℕ) → MayBe last.disk bytes → Recovers M A start last bytes
run_recovers M four never A law start events first last F run bytes may =
    recovers M four never A law start F.opened last (formatted_run M four never A law start events first last F run) bytes may

-- opening what a crash leaves goes on with the run
pub goes_on : {Node : Type 0} (M : Machine Node) (A : Areas Node) (start : Network Node) (last : World Node) (bytes : List ℕ) → MayBe last.disk bytes → (r : Recovers M A start last bytes)
    → Step M A last (Reopens bytes r.held r.now) (reopened last bytes r.held r.now)
goes_on M A start last bytes may r = (record { may = may; reads = r.reads; is = r.replayed }, refl)

-- at each moment of a run a whole cut holds
pub snapshots : {Node : Type 0} (M : Machine Node) → HasFourLinks M → NeverMarks M → (A : Areas Node) → AreasHold M A → (start : Network Node) (events : List (Event Node)) (first last : World Node)
    → BeginsFormatted M A start first → Run M A first events last → (cut : WholeCut) → whole last.net ≡ Some cut → CutHolds M last.net cut
snapshots M four never A law start events first last F run cut is =
    let I = formatted_run M four never A law start events first last F run in
    whole_holds M four last.net I.net cut is
