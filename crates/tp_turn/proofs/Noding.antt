-- A turn of the node, as workers make it, is one of a trial.
use Rattle.std.proofs.Common.{◌≡◌, ℕ, zero, suc, ◌+◌, ◌*◌, ◌<◌, ◌≤◌, ◌⊎◌, inl, inr, Bool, true, false, cond, List, [], ◌∷◌, ◌++◌, length, map, get_or, refl, sym, ap, subst, ◌∙◌, arith, length-set, Option, Some, None, slice_get}
use Rattle.std.specs.Prelude.{◌&&◌, is_some, Ok, Err}
use Rattle.tp_turn.proofs.Lower.{append-nil, true≢false, Token, Marker, Nothing, Entry, NUMBER_LIMIT, node_step, node_ranges, back, is_first, on_line, LacksFrames, Act, Close, Journal, Record, received, turn_entries, NodeContents, memory_kept, why_most, why_fewer, lacking_frozen, has_recorded_in, is_asked, BookValue, agreed, next_in_book, network_now, IsAnswer, Refusal, Memory}
use Rattle.tp_turn.specs.Moments.{TurnMoment}
use Rattle.tp_turn.specs.Receiving.{IsAtEnd, ReceivesOf, offered, offered_on}
use Rattle.tp_turn.specs.Settled.{Records, frozen_now}
use Rattle.tp_turn.specs.Turns.{InOrder}
use Rattle.tp_turn.specs.Whole.{close_acts, ClosesFront, Closes, TurnsOnce, TurnsWhole, turn_refusal}
use Rattle.tp_turn.specs.declared.stages.Turn.{Turn}
use Rattle.tp_turn.specs.declared.take.TheConstants.{TURN_ENTRIES}
use Rattle.tp_turn.proofs.Ahead.{order_part}
use Rattle.tp_turn.proofs.Answering.{each_kept}
use Rattle.tp_turn.proofs.Entering.{entries_either}
use Rattle.tp_turn.specs.Lone.{IsLoneBook, LoneValue, Made, lone_value}
use Rattle.tp_turn.specs.TrialTurns.{standing_on, IsNodeTurn}
use Rattle.tp_turn.proofs.Calm.{Goes, goes_one, goes_none, nothing_refused, run_refused, same_value, back_now}

-- the book, and the node, which isn't frozen
pub record IsCalm (m : TurnMoment) : Type 0 where
  pub book : IsLoneBook m.book
  pub thawed : m.node.frozen ≡ None

-- nothing was done that changes what the book holds
record Rests (s t : TurnMoment) : Type 0 where
  calm : IsCalm t
  value : lone_value s.book ≡ lone_value t.book

-- a node that isn't frozen lacks no frame
never_lacks : (n : NodeContents) (ranges : List (ℕ × ℕ)) → n.frozen ≡ None → LacksFrames (memory_kept n) ranges → ⊥
never_lacks n ranges thawed lacks = true≢false (sym (lacking_frozen n ranges lacks) ∙ ap is_some thawed)

-- ## No snapshot runs

rests : (s t : TurnMoment) (acts : List Act) → IsCalm s → Goes [] s.book t.book → t.node.frozen ≡ None → Rests s t
rests s t acts C G thawed = record { calm = record { book = G.book; thawed = thawed }; value = same_value s.book t.book G }

-- so the node doesn't record
records : (s t : TurnMoment) (acts : List Act) → IsCalm s → Records 0 s acts t → Rests s t
records s t acts C R =
    let not : is_asked s.book.state.snapshot 0 ≡ false = ap (λ o. is_asked o 0) C.book.idle in
    let none : acts ≡ [] = R.are ∙ ap (λ asked. cond asked (Record 0 ∷ []) []) not in
    let same : t.node ≡ s.node = R.node ∙ ap (λ asked. cond asked (frozen_now s.node) s.node) not in
    rests s t acts C (goes_none s.book t.book C.book acts R.added.did R.added.grew (ap length R.added.nodes ∙ length-set (agreed s.book.state) 0 t.node.live) none)
    (ap (λ (n : NodeContents). n.frozen) same ∙ C.thawed)

-- and no line is closed
none_closed : (b : BookValue) → IsLoneBook b → (o : Option ℕ) → close_acts b 0 o ≡ []
none_closed b L None = refl
none_closed b L (Some line) =
    let not : has_recorded_in b.state.snapshot 0 ≡ false = ap (λ o. has_recorded_in o 0) L.idle in
    ap (λ recorded. cond (is_first (on_line b.state.lines line) Marker && recorded) (Close line ∷ []) []) not ∙ either (is_first (on_line b.state.lines line) Marker)
  where
    either : (first : Bool) → cond (first && false) (Close line ∷ []) [] ≡ []
    either true = refl
    either false = refl

closes : (link : ℕ) (s t : TurnMoment) (acts : List Act) → IsCalm s → ClosesFront 0 link s acts t → Rests s t
closes link s t acts C D =
    rests s t acts C
    (goes_none s.book t.book C.book acts D.added.did D.added.grew (ap length D.added.nodes ∙ length-set (agreed s.book.state) 0 t.node.live) (D.are ∙ none_closed s.book C.book (back s.book.state.start (4 * 0 + link))))
    (ap (λ (n : NodeContents). n.frozen) D.node ∙ C.thawed)

all_close : (n : ℕ) (s t : TurnMoment) (acts : List Act) → IsCalm s → InOrder (λ link. ClosesFront 0 link) n s acts t → Rests s t
unfolding InOrder
all_close zero s t acts C D = subst (Rests s) (sym D.1) (record { calm = C; value = refl })
all_close (suc n) s t acts C D =
    let A = all_close n s D.between D.first C D.one_did in
    let B = closes n D.between t D.second A.calm D.other_did in
    record { calm = B.calm; value = A.value ∙ B.value }

at_markers : (s t : TurnMoment) (acts : List Act) → IsCalm s → Closes 0 s acts t → Rests s t
at_markers s t acts C D =
    let A = records s D.between D.first C D.one_did in
    let B = all_close 4 D.between t D.second A.calm D.other_did in
    record { calm = B.calm; value = A.value ∙ B.value }

-- ## The entry

-- what a line has for its node is all that is there
offered_all : (b : BookValue) → IsLoneBook b → (link : ℕ) → offered_on b true 0 link ≡ standing_on (network_now b) (back (network_now b) (4 * 0 + link))
offered_all b L link = same (back b.state.start (4 * 0 + link)) ∙ ap (standing_on (network_now b)) (back_now b L (4 * 0 + link))
  where
    same : (o : Option ℕ) → offered b true o ≡ standing_on (network_now b) o
    same None = refl
    same (Some line) = refl

module _ (quantum : ℕ) (turn : Turn) (s t : TurnMoment) (acts : List Act) (C : IsCalm s) (D : TurnsOnce 0 quantum turn s acts t) (there : slice_get (agreed t.book.state) 0 ≡ Some t.node.live) where
  -- it lacks no frame, so all was received
  receives_all : (link : ℕ) → link < 4 → received (get_or D.takes link Nothing) ≡ standing_on (network_now s.book) (back (network_now s.book) (4 * 0 + link))
  receives_all link four =
      let P = order_part (λ k. ReceivesOf k (offered_on s.book true 0 k) (get_or D.takes k Nothing)) (λ k x answers y R. each_kept k (received (get_or D.takes k Nothing)) x answers y R.did) 4 s.node D.sent D.ahead D.received.did link four in
      sym (ended P.to P.did.rest P.did.are (P.kept ∙ C.thawed) P.did.end) ∙ offered_all s.book C.book link
    where
      ended : (n : NodeContents) (rest : List Token) → offered_on s.book true 0 link ≡ received (get_or D.takes link Nothing) ++ rest → n.frozen ≡ None → IsAtEnd link rest n → offered_on s.book true 0 link ≡ received (get_or D.takes link Nothing)
      ended n [] are thawed end = are ∙ append-nil (received (get_or D.takes link Nothing))
      ended n (token ∷ rest) are thawed end = absurd (never_lacks n _ thawed end)

  thawed : t.node.frozen ≡ None
  thawed = D.kept ∙ C.thawed

  many : length (agreed t.book.state) ≡ length (agreed s.book.state)
  many = ap length D.added.nodes ∙ length-set (agreed s.book.state) 0 t.node.live

  least : turn.ran.count < quantum → node_step t.node.live ≡ None
  least less =
      why_fewer turn.ran.why quantum turn.ran.count (LacksFrames (memory_kept t.node) (node_ranges t.node.live)) t.node.live D.why (never_lacks t.node _ thawed) less

  most : turn.ran.count ≤ quantum
  most = why_most turn.ran.why quantum turn.ran.count (LacksFrames (memory_kept t.node) (node_ranges t.node.live)) t.node.live D.why

  abbrev entries : List Entry
  entries = turn_entries 0 D.takes turn.ran.count

  -- there is at most one
  one_at_most : (entries ≡ []) ⊎ ((e : Entry) × (entries ≡ e ∷ []))
  one_at_most = entries_either (λ es. (es ≡ []) ⊎ ((e : Entry) × (es ≡ e ∷ []))) 0 D.takes turn.ran.count (inl refl) (inr (_, refl)) (λ k. inr (_, refl))

  goes : Goes entries s.book t.book × (length entries ≤ 1)
  goes = elim one_at_most [
    | inl none ↦ (
      subst (λ es. Goes es s.book t.book) (sym none) (goes_none s.book t.book C.book acts D.added.did D.added.grew many (D.are ∙ ap (map Journal) none)),
      omega (arith, ap length none),
    )
    | inr some ↦ (
      subst (λ es. Goes es s.book t.book) (sym some.1) (goes_one s.book t.book C.book acts D.added.did D.added.grew many some.0 (D.are ∙ ap (map Journal) some.1)),
      omega (arith, ap length some.1),
    )
  ]

  turns : IsCalm t × Made (IsNodeTurn quantum 0) TURN_ENTRIES (lone_value s.book) (lone_value t.book)
  turns = (
    record { book = goes.0.book; thawed = thawed },
    record {
      entries = entries;
      few = omega (arith, goes.1);
      counted = goes.0.count;
      did = record {
        takes = D.takes;
        four = D.received.four;
        whole = receives_all;
        count = turn.ran.count;
        few = most;
        are = refl;
        leads = goes.0.leads;
        now = t.node.live;
        there = there;
        all = least;
      };
    },
  )

-- ## A whole turn

pub node_turned : (quantum : ℕ) (turn : Turn) (s t : TurnMoment) (acts : List Act) → IsCalm s → TurnsWhole 0 quantum (Ok turn) s acts t
    → slice_get (agreed t.book.state) 0 ≡ Some t.node.live → IsCalm t × Made (IsNodeTurn quantum 0) TURN_ENTRIES (lone_value s.book) (lone_value t.book)
node_turned quantum turn s t acts C D there =
    let A = at_markers s D.between D.first C D.one_did in
    let B = turns quantum turn D.between t D.second A.calm D.other_did there in
    (B.0, subst (λ v. Made (IsNodeTurn quantum 0) TURN_ENTRIES v (lone_value t.book)) (sym A.value) B.1)

-- ## A turn that fails

-- it can only be that memory is out
pub node_refused : (quantum : ℕ) (e : Refusal) (s t : TurnMoment) (acts : List Act) → IsCalm s → next_in_book s.book + TURN_ENTRIES + 1 < NUMBER_LIMIT → TurnsWhole 0 quantum (Err e) s acts t → e ≡ Memory
node_refused quantum e s t acts C left D =
    let A = at_markers s D.between D.first C D.one_did in
    let b = D.between.book in
    let number : next_in_book s.book ≡ next_in_book b = ap (λ (v : LoneValue). v.entries) A.value in
    let few : next_in_book b + 1 < NUMBER_LIMIT = omega (arith, left, number) in
    elim D.other_did [
      | inl U ↦ run_refused b A.calm.book few (Unit {0}) e (subst (λ recorded. IsAnswer {A = Unit {0}} (turn_refusal b recorded) (Err e)) (ap (λ o. has_recorded_in o 0) A.calm.book.idle) U.answer)
      | inr N ↦ absurd (let none = nothing_refused b A.calm.book few in let full = N.full in cc)
    ]
