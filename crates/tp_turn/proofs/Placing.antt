-- There is place at a node's ends for what is at the front of its lines, as long as it takes tokens from the front.
use Rattle.std.proofs.Common.{◌≡◌, ◌≢◌, ℕ, ◌+◌, ◌*◌, ◌<◌, ◌≤◌, Bool, true, false, cond, List, [], ◌∷◌, length, refl, sym, ap, subst, ◌∙◌, arith, Option, Some, None, slice_get}
use Rattle.std.specs.Prelude.{◌||◌, IsSome}
use Rattle.tp_turn.proofs.Lower.{option_map, Token, Data, Ack, Marker, Received, IsNode, NodeState, took, waits, holds, back, for_line, line_of, on_line, receiver, before, is_marker, data_of, ack_of, datas, acks, received, bit, bit_small, bit_none, bit_some, took_keeps, takes_data, takes_ack, for_line-here, for_line-other, NodeContents, BookValue, agreed, BookKeeps, needs_take, length-agreed}
use Rattle.tp_turn.specs.Receiving.{Answered, HasPlace, ReceivesOf, TakesEach, offered, offered_on}
use Rattle.tp_turn.proofs.Possible.{comes_in, datas_front, acks_front}

-- ## One token

-- a token that has place is taken
pub placed_taken : (link : ℕ) (token : Token) (rest : List Token) (node : NodeState) → IsNode node → link < 4 → is_marker token ≡ false → HasPlace link (token ∷ rest) node → IsSome (took node link token)
placed_taken link (Data byte) rest node N four plain P =
    let most : 1 + datas rest + bit (holds node link) ≤ 1 = P.free in
    let none : bit (holds node link) ≡ 0 = omega (arith, most) in
    takes_data node link byte N four (bit_none (holds node link) none)
placed_taken link Ack rest node N four plain P =
    let some : 1 + acks rest ≤ bit (waits node link) = P.awaited in
    takes_ack node link N four (bit_some (waits node link) (omega (arith, some)))
placed_taken link Marker rest node N four plain P = cc

-- and then there is place for those after it
pub placed_behind : (link : ℕ) (token : Token) (rest : List Token) (node : NodeState) (x : NodeState × List (ℕ × Token)) → took node link token ≡ Some x → HasPlace link (token ∷ rest) node → HasPlace link rest x.0
placed_behind link token rest node x did P =
    let K = took_keeps node link token x did in
    let here : for_line link ((link, token) ∷ []) ≡ token ∷ [] = for_line-here link token [] in
    let bytes : datas (for_line link ((link, token) ∷ [])) ≡ data_of token + 0 = ap datas here in
    let answers : acks (for_line link ((link, token) ∷ [])) ≡ ack_of token + 0 = ap acks here in
    let free : data_of token + datas rest + bit (holds node link) ≤ 1 = P.free in
    let awaited : ack_of token + acks rest ≤ bit (waits node link) = P.awaited in
    let inn = K.inn link in
    let out = K.out link in
    record { free = omega (arith, inn, bytes, free); awaited = omega (arith, out, answers, awaited) }

-- and still for those on another link
placed_beside : (j link : ℕ) (token : Token) (tokens : List Token) (node : NodeState) (x : NodeState × List (ℕ × Token)) → took node j token ≡ Some x → j ≢ link → HasPlace link tokens node → HasPlace link tokens x.0
placed_beside j link token tokens node x did apart P =
    let K = took_keeps node j token x did in
    let none : for_line link ((j, token) ∷ []) ≡ [] = for_line-other j link token [] apart in
    let bytes : datas (for_line link ((j, token) ∷ [])) ≡ 0 = ap datas none in
    let answers : acks (for_line link ((j, token) ∷ [])) ≡ 0 = ap acks none in
    let inn = K.inn link in
    let out = K.out link in
    record { free = omega (arith, inn, bytes, P.free); awaited = omega (arith, out, answers, P.awaited) }

-- a place stays when tokens were taken on another link
pub placed_apart : (j link : ℕ) (tokens others : List Token) (s : NodeContents) (answers : List (ℕ × Token)) (t : NodeContents) → j ≢ link → TakesEach j tokens s answers t → HasPlace link others s.live → HasPlace link others t.live
unfolding TakesEach
placed_apart j link [] others s answers t apart T P = subst (λ n. HasPlace link others n.live) (sym T.1) P
placed_apart j link (token ∷ tokens) others s answers t apart T P =
    placed_apart j link tokens others T.between T.second t apart T.other_did (placed_beside j link token others s.live (T.between.live, T.first) T.one_did.took apart P)

pub placed_next : (j link : ℕ) (there others : List Token) (one : Received) (a b : NodeContents) (first second : List (ℕ × Token)) → j ≢ link → Answered (ReceivesOf j there one) a first b second → HasPlace link others a.live → HasPlace link others b.live
placed_next j link there others one a b first second apart D P = placed_apart j link (received one) others a D.answers b apart D.did.did P

-- ## At the front of a line

placed_none : (link : ℕ) (node : NodeState) → HasPlace link [] node
placed_none link node = record { free = omega (arith, bit_small (holds node link)); awaited = omega arith }

-- there is place for what a line has for its node
pub placed_offered : (b : BookValue) → BookKeeps b.state → (all : Bool) (number link : ℕ) (node : NodeState) → number < length (agreed b.state) → link < 4 → slice_get (agreed b.state) number ≡ Some node
    → HasPlace link (offered_on b all number link) node
placed_offered b K all number link node below four there = go (back b.state.start (4 * number + link)) refl
  where
    go : (o : Option ℕ) → back b.state.start (4 * number + link) ≡ o → HasPlace link (offered b all o) node
    go None to = placed_none link node
    go (Some line) to =
        let goes = comes_in b.state K number link line below four (ap (λ n. option_map (line_of n) (receiver b.state.start.wires (4 * number + link))) (length-agreed b.state K) ∙ to) in
        either (all || needs_take b line)
        (record { free = datas_front b.state K line number link node goes there; awaited = acks_front b.state K line number link node goes there })
      where
        either : (c : Bool) → HasPlace link (before (on_line b.state.lines line)) node → HasPlace link (cond c (before (on_line b.state.lines line)) []) node
        either true P = P
        either false P = placed_none link node
