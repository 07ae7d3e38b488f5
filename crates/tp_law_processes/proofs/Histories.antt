-- One history of processes, one after the other.
use Rattle.std.proofs.Common.{◌≡◌, ℕ, ◌+◌, ◌-◌, ◌<◌, ◌≤◌, inl, inr, List, [], ◌∷◌, ◌++◌, length, take, drop, Some, Ok, sym, ap, subst, ◌∙◌, arith}
use Rattle.std.specs.Prelude.{slice_get}
use Rattle.tp_law_processes.proofs.Lower.{AllByRecursion, length-take-le, take_all, accepted, Entry, HostIn, NodeState, t414, t414_ends, Network, after, next_number, moment, Opened, next_of, opening, verdict, World, held_opened, crash_opens, Began, Follows, now_is, LeadsToBytes, port_or_fresh, bytes_in}
use Rattle.tp_law_processes.specs.Inputs.{all_in}
use Rattle.tp_law_processes.specs.Processes.{AreInOrder, MayHand, Process, Showing, answered, journal_of, last_left, showings}
use Rattle.tp_law_processes.specs.OneHistory.{HasPlace, OneHistory, OpensAfter}
use Rattle.tp_law_processes.proofs.Accepted.{accepted_alike, accepted_is, accepted_then}
use Rattle.tp_law_processes.proofs.FreshPorts.{none_arrived}
use Rattle.tp_law_processes.proofs.Joined.{after_joined, get_dropped, get_high, get_low, joined, length_joined, take_high, take_low, take_parts}
use Rattle.tp_law_processes.proofs.Makers.{maker, may_confirm}
use Rattle.tp_law_processes.proofs.Parts.{shown_part}
use Rattle.tp_law_processes.proofs.Shows.{IsShowing, facts, hands}
use Rattle.tp_law_processes.proofs.Stops.{IsIdle, answer_stands, least_is, shown_recovers, stopped}

all_weaker : {A : Type 0} (P Q : A → Type 0) (xs : List A) → ((x : A) → P x → Q x) → AllByRecursion P xs → AllByRecursion Q xs
all_weaker P Q [] to all = tt
all_weaker P Q (x ∷ xs) to all = (to x all.0, all_weaker P Q xs to all.1)

-- ## A process in a journal

-- shown where its first entries lead, `least` of them or more
record IsShownIn (start : Network NodeState) (journal : List Entry) (least : ℕ) (x : Showing) : Type 0 where
  number : ℕ
  behind : least ≤ number
  few : number ≤ length journal
  shows : LeadsToBytes start journal number x.port x.from x.bytes

abbrev Acknowledged : (start : Network NodeState) → List Entry → ℕ → Process start → Type 0
Acknowledged start journal number p = moment p.new ≤ p.at → (k : ℕ) → number ≤ k → k < answered p.did → slice_get journal k ≡ slice_get (journal_of p.did) k

abbrev Handed : (start : Network NodeState) → List Entry → (number upto : ℕ) → Process start → Type 0
Handed start journal number upto p =
    (k port byte : ℕ) → number ≤ k → k < upto → slice_get journal k ≡ Some (HostIn port byte)
    → MayHand p.did port (length (all_in start port (take k journal))) byte

record Placed (start : Network NodeState) (journal : List Entry) (least : ℕ) (p : Process start) : Type 0 where
  number : ℕ
  upto : ℕ
  from : least ≤ number
  onward : number ≤ upto
  few : upto ≤ length journal
  found : OpensAfter start (take number journal) p.old.now.bytes
  left : OpensAfter start (take upto journal) p.left
  shown : AllByRecursion (λ x. x.there ≤ p.at → IsShownIn start journal number x) (showings start p.old p.new p.did)
  acknowledged : Acknowledged start journal number p
  handed : Handed start journal number upto p
  own : (k : ℕ) → number ≤ k → k < upto → slice_get journal k ≡ slice_get (journal_of p.did) k

-- one journal for all, which leads to what opens first where that says
record Whole (start : Network NodeState) (was : List ℕ) (o : Opened) (processes : List (Process start)) : Type 0 where
  journal : List Entry
  first : next_of o ≤ length journal
  had : after t414 start (take (next_of o) journal) ≡ Some o.now
  each : AllByRecursion (Placed start journal (next_of o)) processes
  left : OpensAfter start journal (last_left start was processes)
  world : World NodeState
  begins : Began start world (last_left start was processes)

-- ## No process

none_whole : (start : Network NodeState) (before : World NodeState) (was : List ℕ) (o : Opened) → Began start before was → verdict was ≡ Ok o → Whole start was o []
none_whole start before was o began reads =
    let R = began.reached in
    let O = crash_opens start R.events R.first before R.formatted R.run was began.may in
    let same : O.opened ≡ o = let both = sym O.is ∙ reads in cc in
    let n = next_of O.opened in
    let journal = take n before.journal in
    let long : length journal ≡ n = length-take-le n before.journal O.no_more in
    subst (λ (q : Opened). Whole start was q []) same (record {
      journal = journal;
      first = omega (arith, long);
      had = ap (after t414 start) (take_all n journal (omega (arith, long))) ∙ O.exact;
      each = tt;
      left = record { opened = O.opened; reads = O.is; count = long; leads = O.exact };
      world = before;
      begins = began;
    })

-- ## An idle one before others

idle_whole : (start : Network NodeState) (p : Process start) (o : Opened) (processes : List (Process start)) → verdict p.old.now.bytes ≡ Ok o → IsIdle start p → Whole start p.left o processes
    → Whole start p.old.now.bytes o (p ∷ processes)
idle_whole start p o processes reads I W =
    let n = next_of o in record {
      journal = W.journal;
      first = W.first;
      had = W.had;
      each = (
        record {
          number = n;
          upto = n;
          from = omega arith;
          onward = omega arith;
          few = W.first;
          found = record { opened = o; reads = reads; count = length-take-le n W.journal W.first; leads = W.had };
          left = record { opened = o; reads = ap verdict I.same ∙ reads; count = length-take-le n W.journal W.first; leads = W.had };
          shown = all_weaker _ _ (showings start p.old p.new p.did) (λ x later by. absurd (omega (arith, later, by))) I.none;
          acknowledged = λ ended k from below. let none = I.silent ended in absurd (omega (arith, none, below));
          handed = λ k port byte from below there. absurd (omega (arith, from, below));
          own = λ k from below. absurd (omega (arith, from, below));
        },
        W.each,
      );
      left = W.left;
      world = W.world;
      begins = W.begins;
    }

-- ## One that left something, before others

module _ (start : Network NodeState) (p : Process start) (o : Opened) (F : Follows start (journal_of p.did) 0 p.old.now.bytes p.left) (same : F.opened ≡ o)
    (next : Opened) (opens : verdict p.left ≡ Ok next) (processes : List (Process start)) (W : Whole start p.left next processes)
    (none : (port : ℕ) → (port_or_fresh start port).in_base ≡ 0) where
  abbrev own : List Entry
  own = journal_of p.did

  abbrev m : ℕ
  m = next_of next

  at : (next_number F.recovers.held ≡ m) × (after t414 start (take m own) ≡ Some next.now)
  at = now_is start own 0 p.left next opens F.recovers

  there : m ≤ length own
  there = let number = at.0 in let most = F.recovers.no_more in omega (arith, number, most)

  low : next_of o ≤ m
  low = let number = at.0 in let keeps = F.keeps in let is : next_of F.opened ≡ next_of o = ap (λ (q : Opened). next_of q) same in omega (arith, number, keeps, is)

  abbrev whole_journal : List Entry
  whole_journal = joined m own W.journal

  long : length whole_journal ≡ length W.journal
  long = length_joined m own W.journal there W.first

  leads_same : (k : ℕ) → m ≤ k → after t414 start (take k whole_journal) ≡ after t414 start (take k W.journal)
  leads_same k up = after_joined start next.now m k own W.journal up there W.first at.1 W.had

  own_shown : (x : Showing) → IsShowing start own p.old p.new x → x.there ≤ p.at → IsShownIn start whole_journal (next_of o) x
  own_shown x S by =
      let L = S.shows in
      let r = shown_recovers start p x S by in
      let most = least_is start own S.number 0 p.left r F.recovers in
      let number = at.0 in
      let up : S.number ≤ m = omega (arith, most, number) in
      let is : S.opened ≡ F.opened = let both = sym S.reads ∙ F.reads in cc in
      let found : next_of S.opened ≡ next_of o = ap (λ (q : Opened). next_of q) (is ∙ same) in
      let behind = S.behind in
      let first = W.first in record {
        number = S.number;
        behind = omega (arith, behind, found);
        few = omega (arith, up, first, long);
        shows = record { state = L.state; leads = ap (after t414 start) (take_low S.number m own W.journal up there) ∙ L.leads; unconfirmed = L.unconfirmed; are = L.are };
      }

  own_handed : Handed start whole_journal (next_of o) m p
  own_handed k port byte from below is =
      let n = next_of o in
      let part = drop n own in
      let here : slice_get part (k - n) ≡ Some (HostIn port byte) =
      get_dropped k n own from ∙ sym (get_low k m own W.journal below there W.first) ∙ is in
      let may = hands start p.old p.new p.did o (F.reads ∙ ap (λ (q : Opened). Ok q) same) (k - n) port byte here in
      let leads : after t414 start (take n own) ≡ Some o.now = subst (λ (q : Opened). after t414 start (take (next_of q) own) ≡ Some q.now) same F.had in
      let had = accepted_is start o.now (take n own) leads port (none port) in
      let then = accepted_then start port (take n own) (take (k - n) part) in
      let front : take k whole_journal ≡ take n own ++ take (k - n) part =
      take_low k m own W.journal (omega (arith, below)) there ∙ take_parts k n own from (omega (arith, low, there)) in
      let whole : length (all_in start port (take k whole_journal)) ≡ length (all_in start port (take n own ++ take (k - n) part)) =
      ap (λ es. length (all_in start port es)) front in
      let place : accepted (port_or_fresh o.now port) + length (bytes_in port (take (k - n) part)) ≡ length (all_in start port (take k whole_journal)) =
      omega (arith, had, then, whole) in
      subst (λ at. MayHand p.did port at byte) place may

  own_leads : after t414 start (take (next_of o) whole_journal) ≡ Some F.opened.now
  own_leads = ap (after t414 start) (take_low (next_of o) m own W.journal low there) ∙ ap (λ (q : Opened). after t414 start (take (next_of q) own)) (sym same) ∙ F.had

  own_placed : Placed start whole_journal (next_of o) p
  own_placed =
      let first = W.first in
      let all : m ≤ length whole_journal = omega (arith, first, long) in
      let few : next_of o ≤ length whole_journal = omega (arith, low, all) in record {
        number = next_of o;
        upto = m;
        from = omega arith;
        onward = low;
        few = all;
        found = record {
          opened = F.opened;
          reads = F.reads;
          count = length-take-le (next_of o) whole_journal few ∙ ap (λ (q : Opened). next_of q) (sym same);
          leads = own_leads;
        };
        left = record {
          opened = next;
          reads = opens;
          count = length-take-le m whole_journal all;
          leads = ap (after t414 start) (take_low m m own W.journal (omega arith) there) ∙ at.1;
        };
        shown = all_weaker _ _ (showings start p.old p.new p.did) own_shown (facts start p.old p.new p.did).shown;
        acknowledged = λ ended k from below.
            let G = answer_stands start p ended k below in
            let most = least_is start own (answered p.did) 0 p.left G.recovers F.recovers in
            let number = at.0 in
            get_low k m own W.journal (omega (arith, below, most, number)) there W.first;
        handed = own_handed;
        own = λ k from below. get_low k m own W.journal below there W.first;
      }

  opens_later : (k : ℕ) (bytes : List ℕ) → m ≤ k → k ≤ length W.journal → OpensAfter start (take k W.journal) bytes → OpensAfter start (take k whole_journal) bytes
  opens_later k bytes up few O = record {
    opened = O.opened;
    reads = O.reads;
    count = length-take-le k whole_journal (omega (arith, few, long)) ∙ sym (length-take-le k W.journal few) ∙ O.count;
    leads = leads_same k up ∙ O.leads;
  }

  later_shown : (least : ℕ) → m ≤ least → (x : Showing) → IsShownIn start W.journal least x → IsShownIn start whole_journal least x
  later_shown least up x S =
      let L = S.shows in
      let behind = S.behind in
      let few = S.few in record {
        number = S.number;
        behind = behind;
        few = omega (arith, few, long);
        shows = record { state = L.state; leads = leads_same S.number (omega (arith, up, behind)) ∙ L.leads; unconfirmed = L.unconfirmed; are = L.are };
      }

  later_handed : (q : Process start) (P : Placed start W.journal m q) → Handed start whole_journal P.number P.upto q
  later_handed q P k port byte up below is =
      let from = P.from in
      let above : m ≤ k = omega (arith, from, up) in
      let may = P.handed k port byte up below (sym (get_high k m own W.journal above there W.first) ∙ is) in
      let rest = take (k - m) (drop m W.journal) in
      let alike = accepted_alike start next.now port (none port) (take m W.journal) (take m own) rest W.had at.1 in
      let place : length (all_in start port (take k W.journal)) ≡ length (all_in start port (take k whole_journal)) =
      ap (λ es. length (all_in start port es)) (take_parts k m W.journal above W.first)
      ∙ alike
      ∙ ap (λ es. length (all_in start port es)) (sym (take_high k m own W.journal above there)) in
      subst (λ at. MayHand q.did port at byte) place may

  later_placed : (q : Process start) → Placed start W.journal m q → Placed start whole_journal (next_of o) q
  later_placed q P =
      let from = P.from in
      let onward = P.onward in
      let few = P.few in record {
        number = P.number;
        upto = P.upto;
        from = omega (arith, low, from);
        onward = onward;
        few = omega (arith, few, long);
        found = opens_later P.number q.old.now.bytes from (omega (arith, onward, few)) P.found;
        left = opens_later P.upto q.left (omega (arith, from, onward)) few P.left;
        shown = all_weaker _ _ (showings start q.old q.new q.did) (λ x S by. later_shown P.number from x (S by)) P.shown;
        acknowledged = λ ended k up below. get_high k m own W.journal (omega (arith, from, up)) there W.first ∙ P.acknowledged ended k up below;
        handed = later_handed q P;
        own = λ k up below. get_high k m own W.journal (omega (arith, from, up)) there W.first ∙ P.own k up below;
      }

  next_whole : Whole start p.old.now.bytes o (p ∷ processes)
  next_whole =
      let first = W.first in
      let left = W.left in
      let all : take (length W.journal) whole_journal ≡ whole_journal = take_all (length W.journal) whole_journal (omega (arith, long)) in
      let rest : take (length W.journal) W.journal ≡ W.journal = take_all (length W.journal) W.journal (omega arith) in record {
        journal = whole_journal;
        first = omega (arith, low, first, long);
        had = own_leads ∙ ap (λ (q : Opened). Some q.now) same;
        each = (own_placed, all_weaker _ _ processes later_placed W.each);
        left = record {
          opened = left.opened;
          reads = left.reads;
          count = long ∙ left.count;
          leads = ap (after t414 start) (sym all) ∙ leads_same (length W.journal) first ∙ ap (after t414 start) rest ∙ left.leads;
        };
        world = W.world;
        begins = W.begins;
      }

-- ## Over a list of processes

opens_again : (start : Network NodeState) (journal : List Entry) (was left : List ℕ) → Follows start journal 0 was left → (o : Opened) × (verdict left ≡ Ok o)
unfolding verdict
opens_again start journal was left F =
    let H = held_opened (opening t414 t414_ends left) F.recovers.held F.recovers.reads in
    (H.0, H.1)

whole : (start : Network NodeState) (before : World NodeState) (was : List ℕ) (o : Opened) → Began start before was → verdict was ≡ Ok o → (processes : List (Process start)) → AreInOrder start was processes
    → Whole start was o processes
whole start before was o began reads [] order = none_whole start before was o began reads
whole start before was o began reads (p ∷ processes) order =
    let R = began.reached in
    let began_own : Began start before p.old.now.bytes = subst (Began start before) (sym order.0) began in
    let reads_own : verdict p.old.now.bytes ≡ Ok o = ap verdict order.0 ∙ reads in
    let made : Whole start p.old.now.bytes o (p ∷ processes) = elim (stopped start p before began_own o reads_own) [
      | inl F ↦
          let next = opens_again start (journal_of p.did) p.old.now.bytes p.left F in
          let same : F.opened ≡ o = let both = sym F.reads ∙ reads_own in cc in
          next_whole start p o F same next.0 next.1 processes (whole start F.world p.left next.0 F.begins next.1 processes order.1) (none_arrived start R.first R.formatted)
      | inr I ↦
          idle_whole start p o processes reads_own I
          (whole start before p.left o (subst (Began start before) (sym I.same) began_own) (ap verdict I.same ∙ reads_own) processes order.1)
    ] in
    subst (λ bytes. Whole start bytes o (p ∷ processes)) order.0 made

-- the process opened with the number of the first entries
first_is : {least k : ℕ} (start : Network NodeState) (journal : List Entry) (p : Process start) (P : Placed start journal least p) → P.number ≤ k → next_of P.found.opened ≤ k
first_is start journal p P from =
    let onward = P.onward in
    let few = P.few in
    let count = P.found.count in
    let long = length-take-le P.number journal (omega (arith, onward, few)) in
    omega (arith, long, count, from)

pub one_history : (start : Network NodeState) (before : World NodeState) (was : List ℕ) → Began start before was → (processes : List (Process start)) → AreInOrder start was processes
    → OneHistory start was processes
one_history start before was began processes order =
    let R = began.reached in
    let O = crash_opens start R.events R.first before R.formatted R.run was began.may in
    let W = whole start before was O.opened began O.is processes order in record {
      journal = W.journal;
      each = all_weaker (Placed start W.journal (next_of O.opened)) (HasPlace start W.journal) processes
          (λ p P. record {
            number = P.number;
            upto = P.upto;
            onward = P.onward;
            few = P.few;
            found = P.found;
            left = P.left;
            shown = all_weaker _ _ (showings start p.old p.new p.did)
                (λ x S by. let I = S by in shown_part start R.first R.formatted W.journal I.number x.port x.from x.bytes I.shows) P.shown;
            acknowledged = P.acknowledged;
            handed = P.handed;
            confirmed = λ k port to from below is. may_confirm start p.old p.new p.did P.found.opened P.found.reads k port to (first_is start W.journal p P from) (sym (P.own k from below) ∙ is);
            made = λ ended k e from below is.
                maker start p.old p.new p.did P.found.opened P.found.reads k e (first_is start W.journal p P from) below (sym (P.acknowledged ended k from below) ∙ is);
          }) W.each;
      left = W.left;
      world = W.world;
      begins = W.begins;
    }
