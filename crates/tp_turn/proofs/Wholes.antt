-- A whole turn in its stages.
use Rattle.std.proofs.Common.{◌≡◌, ℕ, Bool, true, false, inl, inr, List, [], refl, sym, ap, subst, ◌∙◌, length, Option, Some, None, slice_get}
use Rattle.std.specs.Prelude.{Ok, Err}
use Rattle.tp_turn.proofs.Lower.{Token, Received, node_ranges, kept_behind_steps, LacksFrames, by_link, turn_acts, slice_get-set_same, NodeContents, memory_kept, IsWhy, has_recorded_in, Refusal, JournalFull, BookValue, agreed, with_run, without_run, reserve_refusal, IsAnswer, takes_refusal}
use Rattle.tp_turn.specs.declared.receiving.Taken.{Taken}
use Rattle.tp_turn.specs.declared.stages.Turn.{Turn}
use Rattle.tp_turn.specs.Moments.{TurnMoment, moment_of, Added, Done}
use Rattle.tp_turn.specs.Receiving.{Receives}
use Rattle.tp_turn.specs.Whole.{Closes, EndsWhole, IsOpenWhole, TurnsOnce, TurnsWhole, turn_refusal}
use Rattle.tp_turn.proofs.Adding.{added_none, then_more}
use Rattle.tp_turn.proofs.Ahead.{receives_kept}
use Rattle.tp_turn.proofs.Staging.{freed}

-- ## Room

-- ## What ends it

module _ (number : ℕ) (b : BookValue) (n : NodeContents) where
  -- nothing could be reserved
  pub unreserved : (e : Refusal) → slice_get (agreed b.state) number ≡ Some n.live → IsAnswer {A = Unit {0}} (turn_refusal b (has_recorded_in b.state.snapshot number)) (Err e)
      → Done number (EndsWhole number e) (moment_of b n) (moment_of b n)
  unreserved e there h = record {
    acts = [];
    added = added_none number n.live b there;
    did = inl (record { answer = h; are = refl; same = refl });
  }

  -- what the running snapshot needs was received
  pub needed : (new : BookValue) (m : NodeContents) (takes : List Received) (sent : List (ℕ × Token)) → slice_get b.runs number ≡ Some false → reserve_refusal b ≡ Some JournalFull
      → has_recorded_in b.state.snapshot number ≡ true → takes_refusal b ≡ None → Receives b false number takes n sent m
      → Added number m.live (turn_acts number takes 0) (without_run (with_run b number) number) new → Done number (EndsWhole number JournalFull) (moment_of b n) (moment_of new m)
  needed new m takes sent free full recorded found R A =
      let added : Added number m.live (turn_acts number takes 0) b new = subst (λ x. Added number m.live (turn_acts number takes 0) x new) (freed b number free) A in
      record {
        acts = turn_acts number takes 0;
        added = added;
        did = inr (record { answer = refl; full = full; recorded = recorded; free = found; takes = takes; sent = sent; received = R; are = refl; added = added });
      }

-- a journal that is full for a node that hasn't recorded
pub full_unrecorded : (b : BookValue) (recorded : Bool) → recorded ≡ false → reserve_refusal b ≡ Some JournalFull → IsAnswer {A = Unit {0}} (turn_refusal b recorded) (Err JournalFull)
full_unrecorded b recorded not full =
    subst (λ r. IsAnswer {A = Unit {0}} (turn_refusal b r) (Err JournalFull)) (sym not) (subst (λ o. IsAnswer {A = Unit {0}} o (Err JournalFull)) (sym full) refl)

-- and no room for what one takes that has
pub full_recorded : (b : BookValue) (recorded : Bool) (e : Refusal) → recorded ≡ true → IsAnswer {A = Unit {0}} (takes_refusal b) (Err e) → IsAnswer {A = Unit {0}} (turn_refusal b recorded) (Err e)
full_recorded b recorded e has h = subst (λ r. IsAnswer {A = Unit {0}} (turn_refusal b r) (Err e)) (sym has) h

-- what is received doesn't depend on what is reserved
pub receives_before : (b x : BookValue) (node : ℕ) (all : Bool) (number : ℕ) (takes : List Received) (s : NodeContents) (answers : List (ℕ × Token)) (t : NodeContents) → x ≡ with_run b node → Receives x all number takes s answers t
    → Receives b all number takes s answers t
receives_before b x node all number takes s answers t is R =
    let same : Receives (with_run b node) all number takes s answers t = subst (λ y. Receives y all number takes s answers t) is R in
    record { four = same.four; did = same.did }

-- what is reserved is reserved
pub is_reserved : (b x : BookValue) (number : ℕ) → x ≡ with_run b number → slice_get b.runs number ≡ Some false → slice_get x.runs number ≡ Some true
is_reserved b x number is free = ap (λ y. slice_get y.runs number) is ∙ slice_get-set_same b.runs number true false free

-- no other reason is there for a call that was made
pub made_free : {A : Type 0} (o : Option Refusal) (x : A) → IsAnswer o (Ok x) → o ≡ None
made_free None x h = refl
made_free (Some e) x h = absurd h

-- ## A whole turn

pub whole_done : (number quantum : ℕ) (turn : Turn) (taken : Taken) (s o t : TurnMoment) → slice_get s.book.runs number ≡ Some false → IsOpenWhole number taken s o → turn.takes ≡ length (by_link 0 taken.takes) → Added number t.node.live (turn_acts number taken.takes turn.ran.count) (without_run o.book number) t.book
    → turn.ran.max ≡ quantum → IsWhy turn.ran.why quantum turn.ran.count (LacksFrames (memory_kept t.node) (node_ranges t.node.live)) t.node.live → t.node.frozen ≡ o.node.frozen
    → memory_kept t.node ≡ kept_behind_steps turn.ran.count o.node.live (memory_kept o.node) → Done number (TurnsWhole number quantum (Ok turn)) s t
whole_done number quantum turn taken s o t free O many A max why kept shared =
    let b = O.between in
    let there : slice_get b.book.runs number ≡ Some false = ap (λ runs. slice_get runs number) O.closed.added.grew.runs ∙ free in
    let book : without_run o.book number ≡ b.book = ap (λ x. without_run x number) O.book ∙ freed b.book number there in
    let added : Added number t.node.live (turn_acts number taken.takes turn.ran.count) b.book t.book = subst (λ x. Added number t.node.live (turn_acts number taken.takes turn.ran.count) x t.book) book A in
    then_more number (Closes number) (TurnsOnce number quantum turn) s b t O.closed
    (record {
      acts = turn_acts number taken.takes turn.ran.count;
      added = added;
      did = record {
        takes = taken.takes;
        sent = taken.sent.items;
        ahead = o.node;
        received = O.received;
        many = many;
        are = refl;
        added = added;
        max = max;
        why = why;
        kept = kept ∙ receives_kept b.book true number taken.takes b.node taken.sent.items o.node O.received;
        shared = shared;
      };
    })
