-- A node that received is ahead of its book, and stays so whatever others do.
use Rattle.std.proofs.Common.{◌≡◌, ◌≢◌, ℕ, zero, suc, ◌+◌, ◌*◌, ◌<◌, ◌≤◌, ◌⊎◌, inl, inr, Bool, true, false, cond, List, [], ◌∷◌, ◌++◌, length, map, get_or, refl, sym, ap, subst, ◌∙◌, arith, append_assoc, Option, Some, None}
use Rattle.std.specs.Prelude.{◌||◌}
use Rattle.tp_turn.proofs.Lower.{append-nil, cases_eq, AllByRecursion, option_map, MAX_STEPS, Token, Data, Ack, Marker, Received, Nothing, t414, ◌>>=◌, back, line_of, on_line, receiver, steps, before, by_link, received, took_all, turned, Act, Begin, Record, Journal, Close, Trim, acted, process, IsNotOf, IsReceived, received_after, IsNodeOfBytes, has_four_links, node_steps, NodeContents, BookValue, agreed, world_of, BookKeeps, needs_take, length-agreed}
use Rattle.tp_turn.specs.Turns.{InOrder}
use Rattle.tp_turn.specs.Moments.{IsNodeOf, entries_among}
use Rattle.tp_turn.specs.Receiving.{Answered, IsAhead, Receives, ReceivesOf, offered, offered_on}
use Rattle.tp_turn.specs.Whole.{HasTurnedOn}
use Rattle.tp_turn.proofs.Answering.{each_took, each_kept, took_more}
use Rattle.tp_turn.proofs.Possible.{comes_in}
use Rattle.tp_turn.proofs.Standing.{StandsOn, are_received}

-- ## On four links

one_more : {S E : Type 0} (part : ℕ → S → List E → S → Type 0) (count : ℕ) (a b c : S) (first second all : List E) → InOrder part count a first b → part count b second c → all ≡ first ++ second → InOrder part (suc count) a all c
unfolding InOrder
one_more part count a b c first second all A B are = record { between = b; first = first; second = second; are = are; one_did = A; other_did = B }

none_yet : {S E : Type 0} (part : ℕ → S → List E → S → Type 0) (a : S) (all : List E) → all ≡ [] → InOrder part 0 a all a
unfolding InOrder
none_yet part a all none = (none, refl)

module _ (b : BookValue) (all : Bool) (number : ℕ) (first second third fourth : Received) where
  abbrev takes : List Received
  takes = first ∷ second ∷ third ∷ fourth ∷ []

  abbrev part : ℕ → Received → NodeContents → List (ℕ × Token) → NodeContents → Type 0
  part link one = ReceivesOf link (offered_on b all number link) one

  pub receives : (m0 m1 m2 m3 m4 : NodeContents) (s0 s1 s2 s3 s4 : List (ℕ × Token)) → s0 ≡ [] → Answered (part 0 first) m0 s0 m1 s1 → Answered (part 1 second) m1 s1 m2 s2 → Answered (part 2 third) m2 s2 m3 s3
      → Answered (part 3 fourth) m3 s3 m4 s4 → Receives b all number takes m0 s4 m4
  receives m0 m1 m2 m3 m4 s0 s1 s2 s3 s4 none A B C D =
      let each : ℕ → NodeContents → List (ℕ × Token) → NodeContents → Type 0 = λ link. part link (get_or takes link Nothing) in
      record {
        four = refl;
        did =
            one_more each 3 m0 m3 m4 s3 D.answers s4
            (one_more each 2 m0 m2 m3 s2 C.answers s3
            (one_more each 1 m0 m1 m2 s1 B.answers s2
            (one_more each 0 m0 m0 m1 s0 A.answers s1 (none_yet each m0 s0 none) A.did A.are)
            B.did B.are)
            C.did C.are)
            D.did D.are;
      }

-- the node stays frozen as it was, or not frozen
order_kept : (part : ℕ → NodeContents → List (ℕ × Token) → NodeContents → Type 0) → ((link : ℕ) (x : NodeContents) (answers : List (ℕ × Token)) (y : NodeContents) → part link x answers y → y.frozen ≡ x.frozen)
    → (count : ℕ) (s : NodeContents) (answers : List (ℕ × Token)) (t : NodeContents) → InOrder part count s answers t → t.frozen ≡ s.frozen
unfolding InOrder
order_kept part each zero s answers t D = ap (λ (n : NodeContents). n.frozen) D.1
order_kept part each (suc count) s answers t D = each count D.between D.second t D.other_did ∙ order_kept part each count s D.first D.between D.one_did

-- what is done at one of the links, and that the node is then still frozen as it was, or not frozen
pub record AtLink (part : NodeContents → List (ℕ × Token) → NodeContents → Type 0) (s : NodeContents) : Type 0 where
  pub from : NodeContents
  pub answers : List (ℕ × Token)
  pub to : NodeContents
  pub did : part from answers to
  pub kept : to.frozen ≡ s.frozen

pub order_part : (part : ℕ → NodeContents → List (ℕ × Token) → NodeContents → Type 0) → ((link : ℕ) (x : NodeContents) (answers : List (ℕ × Token)) (y : NodeContents) → part link x answers y → y.frozen ≡ x.frozen)
    → (count : ℕ) (s : NodeContents) (answers : List (ℕ × Token)) (t : NodeContents) → InOrder part count s answers t → (link : ℕ) → link < count → AtLink (part link) s
unfolding InOrder
order_part part each zero s answers t D link below = absurd (omega (arith, below))
order_part part each (suc count) s answers t D link below = elim (cases_eq link count) [
  | inl same ↦ subst (λ k. AtLink (part k) s) (sym same) (record { from = D.between; answers = D.second; to = t; did = D.other_did; kept = each count D.between D.second t D.other_did ∙ order_kept part each count s D.first D.between D.one_did })
  | inr other ↦ order_part part each count s D.first D.between D.one_did link (omega (arith, below, other))
]

pub receives_kept : (b : BookValue) (all : Bool) (number : ℕ) (takes : List Received) (s : NodeContents) (answers : List (ℕ × Token)) (t : NodeContents) → Receives b all number takes s answers t → t.frozen ≡ s.frozen
receives_kept b all number takes s answers t R =
    order_kept (λ link. ReceivesOf link (offered_on b all number link) (get_or takes link Nothing))
    (λ link x answers y D. each_kept link (received (get_or takes link Nothing)) x answers y D.did) 4 s answers t R.did

-- ## What was received is at the front

before_front : (ts : List Token) → (rest : List Token) × (ts ≡ before ts ++ rest)
before_front [] = ([], refl)
before_front (Data byte ∷ ts) = let R = before_front ts in (R.0, ap (λ us. Data byte ∷ us) R.1)
before_front (Ack ∷ ts) = let R = before_front ts in (R.0, ap (λ us. Ack ∷ us) R.1)
before_front (Marker ∷ ts) = (Marker ∷ ts, refl)

none_of_none : (ts us : List Token) → [] ≡ ts ++ us → ts ≡ []
none_of_none [] us e = refl
none_of_none (t ∷ ts) us e = cc

module _ (b : BookValue) (K : BookKeeps b.state) (all : Bool) (number link : ℕ) (below : number < length (agreed b.state)) (four : link < 4) (one : Received) where
  stands_on : (rest : List Token) → offered_on b all number link ≡ received one ++ rest → (received one ≡ []) ⊎ StandsOn (world_of b).live number link (received one)
  stands_on rest are = go (back b.state.start (4 * number + link)) refl are
    where
      go : (o : Option ℕ) → back b.state.start (4 * number + link) ≡ o → offered b all o ≡ received one ++ rest → (received one ≡ []) ⊎ StandsOn (world_of b).live number link (received one)
      go None to are = inl (none_of_none (received one) rest are)
      go (Some line) to are = either (all || needs_take b line) are
        where
          from : back (world_of b).live (4 * number + link) ≡ Some line
          from = ap (λ n. option_map (line_of n) (receiver b.state.start.wires (4 * number + link))) (length-agreed b.state K) ∙ to

          either : (c : Bool) → cond c (before (on_line b.state.lines line)) [] ≡ received one ++ rest → (received one ≡ []) ⊎ StandsOn (world_of b).live number link (received one)
          either true are =
              let F = before_front (on_line b.state.lines line) in
              inr (record {
                line = line;
                from = from;
                goes = comes_in b.state K number link line below four from;
                rest = rest ++ F.0;
                front = F.1 ∙ ap (λ ts. ts ++ F.0) are ∙ append_assoc (received one) rest F.0;
              })
          either false are = inl (none_of_none (received one) rest are)

module _ (b : BookValue) (K : BookKeeps b.state) (all : Bool) (number : ℕ) (below : number < length (agreed b.state)) (first second third fourth : Received) where
  abbrev the_takes : List Received
  the_takes = first ∷ second ∷ third ∷ fourth ∷ []

  abbrev on : ℕ → Received → NodeContents → List (ℕ × Token) → NodeContents → Type 0
  on link one = ReceivesOf link (offered_on b all number link) one

  -- the answers, one link's after another's
  answers_are : (s0 s1 s2 s3 s4 a c d e : List (ℕ × Token)) → s0 ≡ [] → s1 ≡ s0 ++ a → s2 ≡ s1 ++ c → s3 ≡ s2 ++ d → s4 ≡ s3 ++ e → a ++ (c ++ (d ++ (e ++ []))) ≡ s4
  answers_are s0 s1 s2 s3 s4 a c d e none A C D E =
      let one : s1 ≡ a = A ∙ ap (λ ms. ms ++ a) none in
      let two : s2 ≡ a ++ c = C ∙ ap (λ ms. ms ++ c) one in
      let three : s3 ≡ (a ++ c) ++ d = D ∙ ap (λ ms. ms ++ d) two in
      ap (λ ms. a ++ (c ++ (d ++ ms))) (append-nil e) ∙ sym (append_assoc a c (d ++ e)) ∙ sym (append_assoc (a ++ c) d e) ∙ ap (λ ms. ms ++ e) (sym three) ∙ sym E

  pub ahead : (m0 m1 m2 m3 m4 : NodeContents) (s0 s1 s2 s3 s4 : List (ℕ × Token)) → s0 ≡ [] → Answered (on 0 first) m0 s0 m1 s1 → Answered (on 1 second) m1 s1 m2 s2 → Answered (on 2 third) m2 s2 m3 s3
      → Answered (on 3 fourth) m3 s3 m4 s4 → IsNodeOf b number m0 → IsNodeOfBytes m4.live → IsAhead b number the_takes s4 m4
  unfolding took_all
  ahead m0 m1 m2 m3 m4 s0 s1 s2 s3 s4 none A C D E N image =
      let made4 = took_more (map (λ token. (3, token)) (received fourth)) [] m3.live m4.live m4.live E.answers [] (each_took 3 (received fourth) m3 E.answers m4 E.did.did) refl in
      let made3 = took_more (map (λ token. (2, token)) (received third)) (by_link 3 (fourth ∷ [])) m2.live m3.live m4.live D.answers (E.answers ++ []) (each_took 2 (received third) m2 D.answers m3 D.did.did) made4 in
      let made2 = took_more (map (λ token. (1, token)) (received second)) (by_link 2 (third ∷ fourth ∷ [])) m1.live m2.live m4.live C.answers (D.answers ++ (E.answers ++ [])) (each_took 1 (received second) m1 C.answers m2 C.did.did) made3 in
      let made1 = took_more (map (λ token. (0, token)) (received first)) (by_link 1 (second ∷ third ∷ fourth ∷ [])) m0.live m1.live m4.live A.answers (C.answers ++ (D.answers ++ (E.answers ++ [])))
      (each_took 0 (received first) m0 A.answers m1 A.did.did) made2 in
      record {
        before = m0;
        is = N;
        received = are_received (world_of b).live number the_takes (
          stands_on b K all number 0 below (omega arith) first A.did.rest A.did.are,
          (
            stands_on b K all number 1 below (omega arith) second C.did.rest C.did.are,
            (stands_on b K all number 2 below (omega arith) third D.did.rest D.did.are, (stands_on b K all number 3 below (omega arith) fourth E.did.rest E.did.are, tt)),
          ),
        );
        took = made1 ∙ ap (λ ms. Some (m4.live, ms)) (answers_are s0 s1 s2 s3 s4 A.answers C.answers D.answers E.answers none A.are C.are D.are E.are);
        kept = each_kept 3 (received fourth) m3 E.answers m4 E.did.did ∙ each_kept 2 (received third) m2 D.answers m3 D.did.did ∙ each_kept 1 (received second) m1 C.answers m2 C.did.did ∙ each_kept 0 (received first) m0 A.answers m1 A.did.did;
        image = image;
      }

-- ## It runs

pub ran_ahead : (b : BookValue) (number : ℕ) (takes : List Received) (sent tokens : List (ℕ × Token)) (count : ℕ) (n m : NodeContents) → IsAhead b number takes sent n → count ≤ MAX_STEPS
    → steps t414 count n.live ≡ Some (m.live, tokens) → m.frozen ≡ n.frozen → HasTurnedOn b number takes count (sent ++ tokens) m
unfolding turned
ran_ahead b number takes sent tokens count n m A few ran same = record {
  before = A.before;
  is = A.is;
  received = A.received;
  few = few;
  made = ap (λ o. o >>= λ first. steps t414 count first.0 >>= λ rest. Some (rest.0, first.1 ++ rest.1)) A.took ∙ ap (λ o. o >>= λ rest. Some (rest.0, sent ++ rest.1)) ran;
  kept = same ∙ A.kept;
  image = (node_steps count n.live (m.live, tokens) A.image ran).0;
}

-- a node that makes no step has turned, too
pub rests_ahead : (b : BookValue) (number : ℕ) (takes : List Received) (sent : List (ℕ × Token)) (n : NodeContents) → IsAhead b number takes sent n → HasTurnedOn b number takes 0 sent n
unfolding steps
rests_ahead b number takes sent n A =
    subst (λ tokens. HasTurnedOn b number takes 0 tokens n) (append-nil sent) (ran_ahead b number takes sent [] 0 n n A (omega arith) refl refl)

-- ## What others do

-- no entry of another process is one of the node
pub not_of : (b : BookValue) (number other : ℕ) → other ≢ number → (acts : List Act)
    → AllByRecursion (λ e. process b.state.start.wires (length (agreed b.state)) e ≡ other) (entries_among acts) → AllByRecursion (IsNotOf (world_of b).live number) acts
not_of b number other apart [] own = tt
not_of b number other apart (Begin ∷ acts) own = (tt, not_of b number other apart acts own)
not_of b number other apart (Record node ∷ acts) own = (tt, not_of b number other apart acts own)
not_of b number other apart (Journal entry ∷ acts) own = (λ same. apart (sym own.0 ∙ same), not_of b number other apart acts own.1)
not_of b number other apart (Close line ∷ acts) own = (tt, not_of b number other apart acts own)
not_of b number other apart (Trim ∷ acts) own = (tt, not_of b number other apart acts own)

-- What a node received stays at the front of its lines, whatever is done that is no entry of the node.
pub received_stays : (a b : BookValue) (number : ℕ) (takes : List Received) (acts : List Act) → acted t414 (world_of a) acts ≡ Some (world_of b) → AllByRecursion (IsNotOf (world_of a).live number) acts
    → IsReceived (world_of a).live number takes → IsReceived (world_of b).live number takes
received_stays a b number takes acts did others R = received_after t414 has_four_links number takes (world_of a) (world_of b) acts did others R
