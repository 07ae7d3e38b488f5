-- A turn that was opened in the form of its book.
use Rattle.std.proofs.Common.{◌≡◌, ℕ, ◌≤◌, Bool, true, false, inl, inr, List, [], ◌++◌, refl, sym, ap, subst, ◌∙◌, Some, None}
use Rattle.std.specs.Prelude.{Ok, Err}
use Rattle.tp_turn.proofs.Lower.{Form, Plain, Turns, MAX_STEPS, Received, Token, NodeState, ◌>>=◌, steps, t414, by_link, took_all, turned, Act, IsReceived, IsNodeOfBytes, node_steps, NodeContents, has_recorded_in, Refusal, JournalFull, StoreBroken, Memory, BookValue, world_of, else_if, is_full_for_take, IsAnswer}
use Rattle.tp_turn.specs.declared.opened.Opened.{Opened}
use Rattle.tp_turn.specs.declared.opened.Opened.TheVariants.{Apart, Whole}
use Rattle.tp_turn.specs.Moments.{TurnMoment, IsNodeOf}
use Rattle.tp_turn.specs.Whole.{BreaksWhole, EndsWhole}
use Rattle.tp_turn.specs.Opened.{HasTurnedBy, IsOpenedIn, OpensIn, sent_in, turn_received, tokens_in}

-- ## Why it fails

module _ (P : Refusal → Type 0) (full : P JournalFull) (broken : P StoreBroken) (memory : P Memory) where
  refused_for : (is_broken is_full : Bool) (e : Refusal) → IsAnswer {A = Unit {0}} (else_if (else_if None is_broken StoreBroken) is_full JournalFull) (Err e) → P e
  refused_for true is_full e h = subst P (sym h) broken
  refused_for false true e h = subst P (sym h) full
  refused_for false false e h = subst P (sym h) memory

  ends_refused : (number : ℕ) (e : Refusal) (s t : TurnMoment) (acts : List Act) → EndsWhole number e s acts t → P e
  ends_refused number e s t acts (inl D) = refused_for s.book.broken (is_full_for_take s.book (has_recorded_in s.book.state.snapshot number)) e D.answer
  ends_refused number e s t acts (inr D) = subst P (sym D.answer) full

  -- a whole turn, when it is to be reserved
  pub whole_refused : (number : ℕ) (e : Refusal) (s t : TurnMoment) (acts : List Act) → BreaksWhole number e s acts t → P e
  whole_refused number e s t acts D = ends_refused number e D.between t D.second D.other_did

-- ## A node that is behind what it received

-- one entry is for a book with turns
pub opens_form : (form : Form) (number : ℕ) (opened : Opened) (s t : TurnMoment) → OpensIn form number (Ok opened) s t → (takes : List Received) → turn_received opened ≡ Some takes → form ≡ Turns
opens_form Plain number (Apart taken) s t O takes e = cc
opens_form Plain number (Whole taken) s t O takes e = absurd O
opens_form Turns number opened s t O takes e = refl

-- The node as the book agreed on it, before what it received for one entry.
pub record IsBehind (b : BookValue) (number : ℕ) (opened : Opened) (node : NodeContents) : Type 0 where
  pub before : NodeContents
  pub is : IsNodeOf b number before
  pub received : (takes : List Received) → turn_received opened ≡ Some takes → IsReceived (world_of b).live number takes
  pub took : took_all t414 (tokens_in (turn_received opened)) before.live ≡ Some (node.live, sent_in opened)
  pub kept : node.frozen ≡ before.frozen
  pub image : IsNodeOfBytes node.live

same_takes : (b : BookValue) (number : ℕ) (one other : List Received) → Some one ≡ Some other → IsReceived (world_of b).live number one → IsReceived (world_of b).live number other
same_takes b number one other e R = let same : one ≡ other = cc in subst (IsReceived (world_of b).live number) same R

pub opened_behind : (b : BookValue) (number : ℕ) (opened : Opened) (node : NodeContents) → IsOpenedIn (Ok opened) b number node → IsBehind b number opened node
unfolding took_all
opened_behind b number (Apart taken) node N = record { before = node; is = N; received = λ takes e. cc; took = refl; kept = refl; image = N.image }
opened_behind b number (Whole taken) node A = record {
  before = A.before;
  is = A.is;
  received = λ takes e. same_takes b number taken.takes takes e A.received;
  took = A.took;
  kept = A.kept;
  image = A.image;
}

-- ## It ran

-- tokens are taken, and then steps are made
pub took_then_ran : (tokens sent more : List (ℕ × Token)) (count : ℕ) (before ahead after : NodeState) → took_all t414 tokens before ≡ Some (ahead, sent) → steps t414 count ahead ≡ Some (after, more)
    → turned t414 tokens count before ≡ Some (after, sent ++ more)
unfolding turned
took_then_ran tokens sent more count before ahead after took ran =
    ap (λ o. o >>= λ first. steps t414 count first.0 >>= λ rest. Some (rest.0, first.1 ++ rest.1)) took ∙ ap (λ o. o >>= λ rest. Some (rest.0, sent ++ rest.1)) ran

nothing_sent : (before ahead : NodeState) (sent : List (ℕ × Token)) → took_all t414 [] before ≡ Some (ahead, sent) → before ≡ ahead
unfolding took_all
nothing_sent before ahead sent took = let pair : ◌≡◌ {A = NodeState × List (ℕ × Token)} (before, []) (ahead, sent) = cc in ap (λ p. p.0) pair

-- The node is behind what it received for the turn, and then it ran.
pub turned_by : (b : BookValue) (number : ℕ) (opened : Opened) (count : ℕ) (tokens : List (ℕ × Token)) (before ahead node : NodeContents) → IsNodeOf b number before
    → ((takes : List Received) → turn_received opened ≡ Some takes → (b.form ≡ Turns) × IsReceived (world_of b).live number takes)
    → took_all t414 (tokens_in (turn_received opened)) before.live ≡ Some (ahead.live, sent_in opened) → ahead.frozen ≡ before.frozen → IsNodeOfBytes ahead.live
    → count ≤ MAX_STEPS → steps t414 count ahead.live ≡ Some (node.live, tokens) → node.frozen ≡ ahead.frozen → HasTurnedBy b number opened count tokens node
turned_by b number (Apart taken) count tokens before ahead node N received took kept image few ran same = record {
  before = before;
  is = N;
  few = few;
  made = ap (λ state. steps t414 count state) (nothing_sent before.live ahead.live [] took) ∙ ran;
  kept = same ∙ kept;
}
turned_by b number (Whole taken) count tokens before ahead node N received took kept image few ran same = (
  (received taken.takes refl).0,
  record {
    before = before;
    is = N;
    received = (received taken.takes refl).1;
    few = few;
    made = took_then_ran (by_link 0 taken.takes) taken.sent.items tokens count before.live ahead.live node.live took ran;
    kept = same ∙ kept;
    image = (node_steps count ahead.live (node.live, tokens) image ran).0;
  },
)
