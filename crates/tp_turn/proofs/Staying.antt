-- A node that has recorded stays frozen as it is through the opening of its turn, or not frozen.
use Rattle.std.proofs.Common.{◌≡◌, ℕ, zero, suc, ◌+◌, ◌*◌, Bool, true, false, cond, inl, inr, List, ap, ◌∙◌, Option, Some, None}
use Rattle.std.specs.Prelude.{not, Result, Ok, Err}
use Rattle.tp_turn.proofs.Lower.{Form, Plain, Turns, back, Act, Snapshot, has_recorded_in, is_asked, Refusal}
use Rattle.tp_turn.specs.declared.left.Left.{Left}
use Rattle.tp_turn.specs.declared.opened.Opened.{Opened}
use Rattle.tp_turn.specs.declared.opened.Opened.TheVariants.{Apart, Whole}
use Rattle.tp_turn.specs.declared.receiving.Taken.{Taken}
use Rattle.tp_turn.specs.Turns.{InOrder}
use Rattle.tp_turn.specs.Moments.{TurnMoment}
use Rattle.tp_turn.specs.Fronts.{AtFront, OnLine, OnWire, OnLink}
use Rattle.tp_turn.specs.Settled.{Records, LeavesLink, Settles, EndsAtLink, frozen_now}
use Rattle.tp_turn.specs.Stages.{Breaks, Opens}
use Rattle.tp_turn.specs.Whole.{ClosesFront, Closes, EndsWhole, OpensWhole}
use Rattle.tp_turn.specs.Opened.{OpensIn}
use Rattle.tp_turn.proofs.Ahead.{receives_kept}

order_stays : (part : ℕ → TurnMoment → List Act → TurnMoment → Type 0) → ((k : ℕ) (s t : TurnMoment) (acts : List Act) → part k s acts t → t.node.frozen ≡ s.node.frozen)
    → (count : ℕ) (s t : TurnMoment) (acts : List Act) → InOrder part count s acts t → t.node.frozen ≡ s.node.frozen
unfolding InOrder
order_stays part each zero s t acts D = ap (λ (m : TurnMoment). m.node.frozen) D.1
order_stays part each (suc count) s t acts D = each count D.between t D.second D.other_did ∙ order_stays part each count s D.between D.first D.one_did

line_stays : (number line : ℕ) (answer : Result Left Refusal) (s t : TurnMoment) (acts : List Act) → OnLine number line answer s acts t → t.node.frozen ≡ s.node.frozen
line_stays number line answer s t acts D = order_stays (λ at. AtFront number line) (λ k a b did A. A.kept) D.count s t acts D.did

wire_stays : (number : ℕ) (o : Option ℕ) (answer : Result Left Refusal) (s t : TurnMoment) (acts : List Act) → OnWire number o answer s acts t → t.node.frozen ≡ s.node.frozen
wire_stays number None answer s t acts D = ap (λ (m : TurnMoment). m.node.frozen) D.2
wire_stays number (Some line) answer s t acts D = line_stays number line answer s t acts D

link_stays : (number link : ℕ) (answer : Result Left Refusal) (s t : TurnMoment) (acts : List Act) → OnLink number link answer s acts t → t.node.frozen ≡ s.node.frozen
link_stays number link answer s t acts D = wire_stays number (back s.book.state.start (4 * number + link)) answer s t acts D

links_stay : (number count : ℕ) (s t : TurnMoment) (acts : List Act) → InOrder (λ link. LeavesLink number link) count s acts t → t.node.frozen ≡ s.node.frozen
links_stay number count s t acts D = order_stays (λ link. LeavesLink number link) (λ k a b did L. link_stays number k (Ok L.why) a b did L.did) count s t acts D

unasked : (given : Option Snapshot) (p : ℕ) → has_recorded_in given p ≡ true → is_asked given p ≡ false
unasked None p e = cc
unasked (Some snap) p e = ap not e

pub records_stay : (number : ℕ) (s t : TurnMoment) (acts : List Act) → Records number s acts t → has_recorded_in s.book.state.snapshot number ≡ true → t.node.frozen ≡ s.node.frozen
records_stay number s t acts R recorded =
    ap (λ n. n.frozen) R.node ∙ ap (λ (asked : Bool). (cond asked (frozen_now s.node) s.node).frozen) (unasked s.book.state.snapshot number recorded)

settles_stay : (number : ℕ) (s t : TurnMoment) (acts : List Act) → Settles number s acts t → has_recorded_in s.book.state.snapshot number ≡ true → t.node.frozen ≡ s.node.frozen
settles_stay number s t acts D recorded = links_stay number 4 D.between t D.second D.other_did ∙ records_stay number s D.between D.first D.one_did recorded

stops_stay : (number : ℕ) (e : Refusal) (s t : TurnMoment) (acts : List Act) → EndsAtLink number e s acts t → has_recorded_in s.book.state.snapshot number ≡ true → t.node.frozen ≡ s.node.frozen
stops_stay number e s t acts D recorded =
    let d = D.did in
    let r = d.other_did in
    link_stays number D.link (Err e) r.between t r.second r.other_did ∙ links_stay number D.link d.between r.between r.first r.one_did ∙ records_stay number s d.between d.first d.one_did recorded

breaks_stay : (number : ℕ) (e : Refusal) (s t : TurnMoment) (acts : List Act) → Breaks number e s acts t → has_recorded_in s.book.state.snapshot number ≡ true → t.node.frozen ≡ s.node.frozen
breaks_stay number e s t acts (inl D) recorded = stops_stay number e s t acts D recorded
breaks_stay number e s t acts (inr D) recorded = settles_stay number s t acts D.did recorded

pub opens_stay : (number : ℕ) (r : Result ℕ Refusal) (s t : TurnMoment) → Opens number r s t → has_recorded_in s.book.state.snapshot number ≡ true → t.node.frozen ≡ s.node.frozen
opens_stay number (Ok takes) s t O recorded = ap (λ (m : TurnMoment). m.node.frozen) O.is ∙ settles_stay number s O.between O.settled.acts O.settled.did.did recorded
opens_stay number (Err e) s t D recorded = breaks_stay number e s t D.acts D.did recorded

-- ## Whole turns

closes_stay : (number : ℕ) (s t : TurnMoment) (acts : List Act) → Closes number s acts t → has_recorded_in s.book.state.snapshot number ≡ true → t.node.frozen ≡ s.node.frozen
closes_stay number s t acts D recorded =
    order_stays (λ link. ClosesFront number link) (λ k a b did C. ap (λ n. n.frozen) C.node) 4 D.between t D.second D.other_did ∙ records_stay number s D.between D.first D.one_did recorded

ends_stay : (number : ℕ) (e : Refusal) (s t : TurnMoment) (acts : List Act) → EndsWhole number e s acts t → t.node.frozen ≡ s.node.frozen
ends_stay number e s t acts (inl D) = ap (λ (m : TurnMoment). m.node.frozen) D.same
ends_stay number e s t acts (inr D) = receives_kept s.book false number D.takes s.node D.sent t.node D.received

pub opens_whole_stay : (number : ℕ) (r : Result Taken Refusal) (s t : TurnMoment) → OpensWhole number r s t → has_recorded_in s.book.state.snapshot number ≡ true → t.node.frozen ≡ s.node.frozen
opens_whole_stay number (Ok taken) s t O recorded =
    receives_kept O.between.book true number taken.takes O.between.node taken.sent.items t.node O.received ∙ closes_stay number s O.between O.closed.acts O.closed.did recorded
opens_whole_stay number (Err e) s t D recorded =
    let d = D.did in
    ends_stay number e d.between t d.second d.other_did ∙ closes_stay number s d.between d.first d.one_did recorded

-- ## In the form of the book

pub opens_in_stay : (form : Form) (number : ℕ) (r : Result Opened Refusal) (s t : TurnMoment) → OpensIn form number r s t → has_recorded_in s.book.state.snapshot number ≡ true → t.node.frozen ≡ s.node.frozen
opens_in_stay Plain number (Ok (Apart taken)) s t O recorded = opens_stay number (Ok taken) s t O recorded
opens_in_stay Plain number (Ok (Whole taken)) s t O recorded = absurd O
opens_in_stay Plain number (Err e) s t O recorded = opens_stay number (Err e) s t O recorded
opens_in_stay Turns number (Ok (Apart taken)) s t O recorded = absurd O
opens_in_stay Turns number (Ok (Whole taken)) s t O recorded = opens_whole_stay number (Ok taken) s t O recorded
opens_in_stay Turns number (Err e) s t O recorded = opens_whole_stay number (Err e) s t O recorded
