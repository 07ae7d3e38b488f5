-- What a hold of the book's lock does for a node.
use Rattle.std.proofs.Common.{◌≡◌, ℕ, zero, suc, Bool, true, false, inl, inr, List, [], ◌∷◌, length, set, get_or, refl, sym, ap, subst, ◌∙◌, Option, Some, None, slice_get, ◌+◌, ◌*◌}
use Rattle.std.specs.Prelude.{Result, Ok, Err, IfErr}
use Rattle.tp_shared.proofs.Lower.{AllByRecursion, process_same, Entry, Run, Take, HostIn, Confirm, Turn, Form, Plain, Turns, Received, NodeState, Network, back, Act, is_trim, set_back, NodeContents, Refusal, JournalFull, StoreBroken, Memory, NothingToTake, SnapshotRunning, PortFull, BookValue, agreed, with_run, without_run, else_if, is_journal_full, reserve_refusal, IsAnswer, Opened, Apart, Whole, TurnMoment, entries_among, Added, EndsTurn, OnWire, IsOpenedIn, OpensIn, opened_acts, opened_entries, Breaks, breaks_whole_listed, breaks_whole_untrimmed, closes_listed, closes_untrimmed, opened_listed, opened_untrimmed, opens_form, whole_refused}
use Rattle.tp_shared.specs.Agreement.{Agreement, answered_with, at_rest, takes_opened}
use Rattle.tp_shared.specs.BookActs.{Grown, NodeActed}
use Rattle.tp_shared.specs.Entries.{IsTurnRefusal, OpenedEntries, AreTakes, TakesOf}
use Rattle.tp_shared.proofs.Untrimmed.{untrimmed, taken, settles_turn, breaks_turn}

-- ## Whose entries

takes_like : (s t : Network NodeState) (number : ℕ) (es : List Entry) → t.wires ≡ s.wires → length t.nodes ≡ length s.nodes → AreTakes t number es → AreTakes s number es
takes_like s t number [] w n all = tt
takes_like s t number (Run i k ∷ es) w n all = (all.0, takes_like s t number es w n all.1)
takes_like s t number (Take line token ∷ es) w n all = (sym (process_same s t w n (Take line token)) ∙ all.0, takes_like s t number es w n all.1)
takes_like s t number (HostIn p x ∷ es) w n all = (all.0, takes_like s t number es w n all.1)
takes_like s t number (Confirm p upto ∷ es) w n all = (all.0, takes_like s t number es w n all.1)
takes_like s t number (Turn i links k ∷ es) w n all = (all.0, takes_like s t number es w n all.1)

-- Takes are those of another network, if its wires and its number of nodes are equal.
pub takes_of_like : (s t : Network NodeState) (number : ℕ) (r : Result ℕ Refusal) (es : List Entry) → t.wires ≡ s.wires → length t.nodes ≡ length s.nodes → TakesOf t number r es → TakesOf s number r es
takes_of_like s t number (Ok count) es w n takes = (takes.0, takes_like s t number es w n takes.1)
takes_of_like s t number (Err e) es w n takes = takes_like s t number es w n takes

-- this is true of the entries of an opening
pub opened_like : (s t : Network NodeState) (number : ℕ) (r : Result Opened Refusal) (es : List Entry) → t.wires ≡ s.wires → length t.nodes ≡ length s.nodes → OpenedEntries t number r es → OpenedEntries s number r es
opened_like s t number (Ok (Apart taken)) es w n are = (are.0, takes_like s t number es w n are.1)
opened_like s t number (Ok (Whole taken)) es w n are = are
opened_like s t number (Err e) es w n (inl takes) = inl (takes_like s t number es w n takes)
opened_like s t number (Err e) es w n (inr one) = inr one

pub grown_like : (One Other : List Entry → Type 0) (b new : BookValue) → ((es : List Entry) → One es → Other es) → Grown One b new → Grown Other b new
grown_like One Other b new like G = record {
  acts = G.acts;
  none = G.none;
  did = G.did;
  are = like (entries_among G.acts) G.are;
  start = G.start;
  entries_are = G.entries_are;
  numbers = G.numbers;
  history = G.history;
  base = G.base;
  ready = G.ready;
  room = G.room;
  floor = G.floor;
  form = G.form;
  broken = G.broken;
}

pub acted_like : (One Other : List Entry → Type 0) (number : ℕ) (a : Agreement) (b new : BookValue) → ((es : List Entry) → One es → Other es) → NodeActed One number a b new → NodeActed Other number a b new
unfolding grown_like
acted_like One Other number a b new like A = record { grown = grown_like One Other b new like A.grown; own = A.own; nodes = A.nodes; runs = A.runs; recorded = A.recorded; frozen = A.frozen }

-- ## Acts of a node

module _ (Are : List Entry → Type 0) (number : ℕ) (acts : List Act) (b mid : BookValue) (node : NodeState) (A : Added number node acts b mid) (none : AllByRecursion (λ act. is_trim act ≡ false) acts) (are : Are (entries_among acts)) where
  grown : Grown Are b mid
  grown = record {
    acts = acts;
    none = none;
    did = A.did;
    are = are;
    start = A.grew.start;
    entries_are = A.grew.entries_are;
    numbers = A.grew.numbers;
    history = A.grew.history;
    base = A.grew.base;
    ready = A.grew.ready;
    room = A.grew.room;
    floor = A.grew.floor;
    form = A.grew.form;
    broken = A.grew.broken;
  }

  module _ (a : Agreement) (same : a.node ≡ node) where
    nodes_are : agreed mid.state ≡ set (agreed b.state) number a.node
    nodes_are = A.nodes ∙ ap (set (agreed b.state) number) (sym same)

    -- no turn is reserved
    pub acted_free : slice_get b.runs number ≡ Some false → a.reserved ≡ false → NodeActed Are number a b mid
    unfolding grown
    acted_free free not = record {
      grown = grown;
      own = A.own;
      nodes = nodes_are;
      runs = A.grew.runs ∙ sym (set_back b.runs number false free) ∙ ap (set b.runs number) (sym not);
      recorded = A.recorded;
      frozen = A.frozen;
    }

    -- one is
    pub acted_reserved : a.reserved ≡ true → NodeActed Are number a b (with_run mid number)
    acted_reserved is = record {
      grown = record {
        acts = acts;
        none = none;
        did = A.did;
        are = are;
        start = A.grew.start;
        entries_are = A.grew.entries_are;
        numbers = A.grew.numbers;
        history = A.grew.history;
        base = A.grew.base;
        ready = A.grew.ready;
        room = A.grew.room;
        floor = A.grew.floor;
        form = A.grew.form;
        broken = A.grew.broken;
      };
      own = A.own;
      nodes = nodes_are;
      runs = ap (λ runs. set runs number true) A.grew.runs ∙ ap (set b.runs number) (sym is);
      recorded = A.recorded;
      frozen = A.frozen;
    }

-- ## A turn is opened

set_found : {A : Type 0} (xs : List A) (i : ℕ) (x y d : A) → slice_get (set xs i x) i ≡ Some y → get_or (set xs i x) i d ≡ x
set_found [] i x y d e = cc
set_found (z ∷ zs) zero x y d e = refl
set_found (z ∷ zs) (suc i) x y d e = set_found zs i x y d e

-- what the book has of a node is what acts made of it
made_node : (all old : List NodeState) (number : ℕ) (x y d : NodeState) → all ≡ set old number x → slice_get all number ≡ Some y → get_or all number d ≡ x
made_node all old number x y d is there = ap (λ ns. get_or ns number d) is ∙ set_found old number x y d (sym (ap (λ ns. slice_get ns number) is) ∙ there)

-- the book has a node
opened_there : (r : Result Opened Refusal) (b : BookValue) (number : ℕ) (n : NodeContents) → IsOpenedIn r b number n → (x : NodeState) × (slice_get (agreed b.state) number ≡ Some x)
opened_there (Ok (Apart taken)) b number n O = (n.live, O.there)
opened_there (Ok (Whole taken)) b number n O = (O.before.live, O.is.there)
opened_there (Err e) b number n O = (n.live, O.there)

pub acted_opens : (form : Form) (number : ℕ) (r : Result Opened Refusal) (s t : TurnMoment) → slice_get s.book.runs number ≡ Some false → OpensIn form number r s t → IsOpenedIn r t.book number t.node
    → NodeActed (OpenedEntries s.book.state.start number r) number (answered_with t.book number t.node r) s.book t.book
acted_opens Plain number (Ok (Apart takes)) s t free O I =
    let r : Result Opened Refusal = Ok (Apart takes) in
    let D = O.settled in
    let mid = O.between in
    let turns = settles_turn number s mid D.acts D.did.did in
    let there = opened_there r t.book number t.node I in
    let book = ap (λ (m : TurnMoment). m.book) O.is in
    let same = made_node (agreed t.book.state) (agreed s.book.state) number mid.node.live there.0 t.node.live (ap (λ (x : BookValue). agreed x.state) book ∙ D.added.nodes) there.1 in
    subst (λ (new : BookValue). NodeActed (OpenedEntries s.book.state.start number r) number (answered_with t.book number t.node r) s.book new) (sym book)
    (acted_reserved (OpenedEntries s.book.state.start number r) number D.acts s.book mid.book mid.node.live D.added (untrimmed D.acts turns) (sym D.did.many, taken s.book.state.start number D.acts turns D.added.own)
    (answered_with t.book number t.node r) same refl)
acted_opens Plain number (Ok (Whole takes)) s t free O I = absurd O
acted_opens Plain number (Err e) s t free O I =
    let r : Result Opened Refusal = Err e in
    let turns = breaks_turn number e s t O.acts O.did in
    acted_free (OpenedEntries s.book.state.start number r) number O.acts s.book t.book t.node.live O.added (untrimmed O.acts turns) (inl (taken s.book.state.start number O.acts turns O.added.own))
    (answered_with t.book number t.node r) (made_node (agreed t.book.state) (agreed s.book.state) number t.node.live t.node.live t.node.live O.added.nodes I.there) free refl
acted_opens Turns number (Ok (Apart takes)) s t free O I = absurd O
acted_opens Turns number (Ok (Whole takes)) s t free O I =
    let r : Result Opened Refusal = Ok (Whole takes) in
    let D = O.closed in
    let mid = O.between in
    let there = opened_there r t.book number t.node I in
    let same = made_node (agreed t.book.state) (agreed s.book.state) number mid.node.live there.0 t.node.live (ap (λ (x : BookValue). agreed x.state) O.book ∙ D.added.nodes) there.1 in
    subst (λ (new : BookValue). NodeActed (OpenedEntries s.book.state.start number r) number (answered_with t.book number t.node r) s.book new) (sym O.book)
    (acted_reserved (OpenedEntries s.book.state.start number r) number D.acts s.book mid.book mid.node.live D.added (closes_untrimmed number s mid D.acts D.did) (closes_listed number s mid D.acts D.did)
    (answered_with t.book number t.node r) same refl)
acted_opens Turns number (Err e) s t free O I =
    let r : Result Opened Refusal = Err e in
    let listed = breaks_whole_listed number e s t O.acts O.did in
    acted_free (OpenedEntries s.book.state.start number r) number O.acts s.book t.book t.node.live O.added (breaks_whole_untrimmed number e s t O.acts O.did) (inr (record { takes = listed.0; are = listed.1 }))
    (answered_with t.book number t.node r) (made_node (agreed t.book.state) (agreed s.book.state) number t.node.live t.node.live t.node.live O.added.nodes I.there) free refl

-- what was received for a turn that is one entry was received in a book that has such entries
pub answered_form : (form : Form) (number : ℕ) (r : Result Opened Refusal) (s t : TurnMoment) → OpensIn form number r s t → (takes : List Received) → takes_opened r ≡ Some takes → form ≡ Turns
answered_form form number (Ok opened) s t O takes given = opens_form form number opened s t O takes given
answered_form form number (Err e) s t O takes given = cc

-- ## Why it fails

stop_refused : (line : ℕ) (e : Refusal) (b : BookValue) → EndsTurn line e b → IsTurnRefusal e
stop_refused line JournalFull b h = tt
stop_refused line StoreBroken b h = tt
stop_refused line Memory b h = tt
stop_refused line NothingToTake b h = absurd h
stop_refused line SnapshotRunning b h = absurd h
stop_refused line PortFull b h = absurd h

wire_refused : (number : ℕ) (o : Option ℕ) (e : Refusal) (s t : TurnMoment) (acts : List Act) → OnWire number o (Err e) s acts t → IsTurnRefusal e
wire_refused number None e s t acts D = let bad = D.0 in cc
wire_refused number (Some line) e s t acts D = stop_refused line e t.book D.ends.1

answer_refused : (why : Option Refusal) (e : Refusal) → ((reason : Refusal) → why ≡ Some reason → IsTurnRefusal reason) → IsAnswer {A = Unit {0}} why (Err e) → IsTurnRefusal e
answer_refused None e each h = subst IsTurnRefusal (sym h) tt
answer_refused (Some reason) e each h = subst IsTurnRefusal (sym h) (each reason refl)

reserve_reason : (broken full : Bool) (reason : Refusal) → else_if (else_if None broken StoreBroken) full JournalFull ≡ Some reason → IsTurnRefusal reason
reserve_reason true full reason e = let is : StoreBroken ≡ reason = cc in subst IsTurnRefusal is tt
reserve_reason false true reason e = let is : JournalFull ≡ reason = cc in subst IsTurnRefusal is tt
reserve_reason false false reason e = cc

breaks_refused : (number : ℕ) (e : Refusal) (s t : TurnMoment) (acts : List Act) → Breaks number e s acts t → IsTurnRefusal e
breaks_refused number e s t acts (inl D) =
    let r = D.did.other_did in
    wire_refused number (back r.between.book.state.start (4 * number + D.link)) e r.between t r.second r.other_did
breaks_refused number e s t acts (inr D) = answer_refused (reserve_refusal t.book) e (λ reason. reserve_reason t.book.broken (is_journal_full t.book 1) reason) D.answer

pub opens_refused : (form : Form) (number : ℕ) (r : Result Opened Refusal) (s t : TurnMoment) → OpensIn form number r s t → IfErr r IsTurnRefusal
opens_refused form number (Ok opened) s t O = tt
opens_refused Plain number (Err e) s t O = breaks_refused number e s t O.acts O.did
opens_refused Turns number (Err e) s t O = whole_refused IsTurnRefusal tt tt tt number e s t O.acts O.did

-- ## It is committed

pub acted_commit : (b new : BookValue) (number : ℕ) (opened : Opened) (count : ℕ) (n : NodeContents) → Added number n.live (opened_acts number opened count) (without_run b number) new
    → NodeActed (λ entries. entries ≡ opened_entries number opened count) number (at_rest n) b new
acted_commit b new number opened count n A = record {
  grown = record {
    acts = opened_acts number opened count;
    none = opened_untrimmed number opened count;
    did = A.did;
    are = opened_listed number opened count;
    start = A.grew.start;
    entries_are = A.grew.entries_are;
    numbers = A.grew.numbers;
    history = A.grew.history;
    base = A.grew.base;
    ready = A.grew.ready;
    room = A.grew.room;
    floor = A.grew.floor;
    form = A.grew.form;
    broken = A.grew.broken;
  };
  own = A.own;
  nodes = A.nodes;
  runs = A.grew.runs;
  recorded = A.recorded;
  frozen = A.frozen;
}
