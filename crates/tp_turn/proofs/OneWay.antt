-- Turns have one outcome: from one network a number of turns makes one list of entries, and ends in one network.
use Rattle.std.proofs.Common.{◌≡◌, ℕ, zero, suc, ◌+◌, ◌*◌, ◌%◌, ◌<◌, ◌≤◌, Bool, true, false, cond, inl, inr, List, [], ◌∷◌, ◌++◌, length, map, drop, get_or, refl, sym, ap, subst, ◌∙◌, arith, Option, Some, None, slice_get}
use Rattle.std.specs.Prelude.{◌==◌, ◌&&◌, nat_lt, nat_le}
use Rattle.tp_turn.proofs.Lower.{option_map, cases_lt, cases_eq, cases_Bool, leb-true, le-ltb, ltb-false, ext_get_or, Token, Data, Ack, Marker, Received, Nothing, JustData, JustAck, DataThenAck, AckThenData, WireEnd, Link, AtPort, Entry, Run, Take, Turn, MAX_STEPS, MAX_HELD, NodeState, t414, ◌>>=◌, Network, Port, Own, OfNode, OfHost, own, steps, back, receiver, on_line, is_first, process, of_node, does, next, port_took, after, by_link, received, took_all, turn_entries, has_four_links, run_of, by_two, first_is, Step, step_of, own_node, step_own_same, turn_step, map_some, cond_some, after_one, first_possible, take_behind, take_marker, port_takes_none, steps_fewer, takeable_of, is_full_for}
use Rattle.tp_turn.specs.declared.take.TheConstants.{TAKES}
use Rattle.tp_turn.specs.Tried.{lone_network}
use Rattle.tp_turn.specs.Turns.{Then, InOrder}
use Rattle.tp_turn.specs.TrialTurns.{StaysOnLine, port_there, TookAll, TookBack, TookIn, IsNodeTurn, IsTurnOf, AreTurns}
use Rattle.tp_turn.specs.Output.{IsOutput}

-- what isn't possible can't be
not_both : {A : Type 0} (o : Option A) (x : A) → o ≡ None → o ≡ Some x → ⊥
not_both o x none some = cc

-- an act that makes one list of entries from a network, and ends in one network
abbrev OneWay : (Network NodeState → List Entry → Network NodeState → Type 0) → Type 0
OneWay act = (s t u : Network NodeState) (xs ys : List Entry) → act s xs t → act s ys u → (xs ≡ ys) × (t ≡ u)

-- ## Takes

-- what a line leaves isn't taken
module _ (s v : Network NodeState) (line : ℕ) (token : Token) (h : next t414 s (Take line token) ≡ Some v) where
  first : is_first (on_line s.lines line) token ≡ true
  first = elim (cases_Bool (is_first (on_line s.lines line) token)) [
    | inl stands ↦ stands
    | inr other ↦ absurd (not_both (next t414 s (Take line token)) v (take_behind s line token other) h)
  ]

  stands : on_line s.lines line ≡ token ∷ drop 1 (on_line s.lines line)
  stands = first_is (on_line s.lines line) token first

  unmarked : token ≡ Marker → ⊥
  unmarked is = not_both (next t414 s (Take line token)) v (ap (λ t. next t414 s (Take line t)) is ∙ take_marker s line) h

  untakeable : (t : Token) (rest : List Token) → token ≡ t → takeable_of (t ∷ rest) ≡ None → ⊥
  untakeable (Data b) rest is none = cc
  untakeable Ack rest is none = cc
  untakeable Marker rest is none = unmarked is

  full_port : (p : ℕ) → receiver s.wires line ≡ Some (AtPort p) → (port : Port) → slice_get s.ports p ≡ Some port → (t : Token) → token ≡ t → is_full_for (Some port) t ≡ true → ⊥
  full_port p to port at (Data b) is full =
      let most : nat_lt (length port.outputs) MAX_HELD ≡ false = le-ltb (length port.outputs) MAX_HELD (leb-true MAX_HELD (length port.outputs) full) in
      let none : port_took (Data b) port ≡ None = ap (λ c. cond c (Some (record port { outputs = port.outputs ++ b ∷ [] }, Ack ∷ [])) None) most in
      not_both (next t414 s (Take line token)) v
      (ap (λ t. next t414 s (Take line t)) is ∙ port_takes_none s line p (Data b) to (ap (λ o. o >>= port_took (Data b)) at ∙ none)) h
  full_port p to port at Ack is full = cc
  full_port p to port at Marker is full = cc

  full_at : (p : ℕ) → receiver s.wires line ≡ Some (AtPort p) → (o : Option Port) → slice_get s.ports p ≡ o → is_full_for o token ≡ true → ⊥
  full_at p to None at full = cc
  full_at p to (Some port) at full = full_port p to port at token refl full

  full_end : (end : Option WireEnd) → receiver s.wires line ≡ end → is_full_for (port_there s.ports end) token ≡ true → ⊥
  full_end None to full = cc
  full_end (Some (Link i k)) to full = cc
  full_end (Some (AtPort p)) to full = full_at p to (slice_get s.ports p) refl full

  not_left : StaysOnLine s line → ⊥
  not_left (inl none) = untakeable token (drop 1 (on_line s.lines line)) refl (ap takeable_of (sym stands) ∙ none)
  not_left (inr full) =
      full_end (receiver s.wires line) refl
      (ap (λ ts. is_full_for (port_there s.ports (receiver s.wires line)) (get_or ts 0 Marker)) (sym stands) ∙ full)

-- the tokens that leave nothing which can be taken, up to a number
same_takes : (line most : ℕ) (s t u : Network NodeState) (xs ys : List Token) → length xs ≤ most → length ys ≤ most → after t414 s (map (λ token. Take line token) xs) ≡ Some t → after t414 s (map (λ token. Take line token) ys) ≡ Some u
    → (length xs < most → StaysOnLine t line) → (length ys < most → StaysOnLine u line) → xs ≡ ys
unfolding after
same_takes line most s t u [] [] few less a b all none = refl
same_takes line most s t u [] (y ∷ ys) few less a b all none =
    let is : s ≡ t = cc in
    let N = first_possible t414 s u (Take line y) (map (λ token. Take line token) ys) b in
    absurd (not_left s N.0 line y N.1 (subst (λ x. StaysOnLine x line) (sym is) (all (omega arith))))
same_takes line most s t u (x ∷ xs) [] few less a b all none =
    let is : s ≡ u = cc in
    let N = first_possible t414 s t (Take line x) (map (λ token. Take line token) xs) a in
    absurd (not_left s N.0 line x N.1 (subst (λ x. StaysOnLine x line) (sym is) (none (omega arith))))
same_takes line zero s t u (x ∷ xs) (y ∷ ys) few less a b all none = absurd (omega (arith, few))
same_takes line (suc most) s t u (x ∷ xs) (y ∷ ys) few less a b all none =
    let N = first_possible t414 s t (Take line x) (map (λ token. Take line token) xs) a in
    let M = first_possible t414 s u (Take line y) (map (λ token. Take line token) ys) b in
    let same : x ≡ y = let both = sym (stands s N.0 line x N.1) ∙ stands s M.0 line y M.1 in cc in
    let next_is : N.0 ≡ M.0 = let one = ap (λ token. next t414 s (Take line token)) same in cc (one, N.1, M.1) in
    let rest = same_takes line most N.0 t u xs ys (omega (arith, few)) (omega (arith, less)) N.2 (ap (λ v. after t414 v (map (λ token. Take line token) ys)) next_is ∙ M.2) (λ l. all (omega (arith, l))) (λ l. none (omega (arith, l))) in
    ap (λ z. z ∷ xs) same ∙ ap (λ zs. y ∷ zs) rest

-- one network after one list of entries
same_end : (s t u : Network NodeState) (xs ys : List Entry) → xs ≡ ys → after t414 s xs ≡ Some t → after t414 s ys ≡ Some u → t ≡ u
same_end s t u xs ys same a b = let both : Some t ≡ Some u = sym a ∙ ap (after t414 s) same ∙ b in cc

took_one_way : (line : ℕ) → OneWay (TookAll line)
took_one_way line s t u xs ys T U =
    let a : after t414 s (map (λ token. Take line token) T.took.tokens) ≡ Some t = ap (after t414 s) (sym T.took.are) ∙ T.took.leads in
    let b : after t414 s (map (λ token. Take line token) U.took.tokens) ≡ Some u = ap (after t414 s) (sym U.took.are) ∙ U.took.leads in
    let tokens = same_takes line TAKES s t u T.took.tokens U.took.tokens (omega (arith, T.took.many, T.few)) (omega (arith, U.took.many, U.few)) a b
    (λ l. T.all (omega (arith, l, T.took.many))) (λ l. U.all (omega (arith, l, U.took.many))) in
    let same : xs ≡ ys = T.took.are ∙ ap (map (λ token. Take line token)) tokens ∙ sym U.took.are in
    (same, same_end s t u xs ys same T.took.leads U.took.leads)

back_one_way : (o : Option ℕ) → OneWay (TookBack o)
back_one_way None s t u xs ys T U = (T.0 ∙ sym U.0, T.1 ∙ sym U.1)
back_one_way (Some line) s t u xs ys T U = took_one_way line s t u xs ys T U

in_one_way : (out : ℕ) → OneWay (TookIn out)
in_one_way out s t u xs ys T U = back_one_way (back s out) s t u xs ys T U

-- ## A node's turn

-- what was received is known by its tokens
by_tokens : (one : Received) → by_two (slice_get (received one) 0) (slice_get (received one) 1) ≡ one
by_tokens Nothing = refl
by_tokens (JustData byte) = refl
by_tokens JustAck = refl
by_tokens (DataThenAck byte) = refl
by_tokens (AckThenData byte) = refl

same_received : (one other : Received) → received one ≡ received other → one ≡ other
same_received one other same = sym (by_tokens one) ∙ ap (λ ts. by_two (slice_get ts 0) (slice_get ts 1)) same ∙ by_tokens other

-- a turn, taken apart
record TurnApart (s t : Network NodeState) (i : ℕ) (takes : List Received) (count : ℕ) : Type 0 where
  node : NodeState
  there : slice_get s.nodes i ≡ Some node
  ahead : NodeState × List (ℕ × Token)
  took : took_all t414 (by_link 0 takes) node ≡ Some ahead
  behind : NodeState × List (ℕ × Token)
  ran : steps t414 count ahead.0 ≡ Some behind
  stands : slice_get t.nodes i ≡ Some behind.0

-- what the entry leaves of its node
left_node : (s t : Network NodeState) (e : Entry) (i : ℕ) (S : Step t414 s e t) → process s.wires (length s.nodes) e ≡ i → (n : NodeState) (sent : List (ℕ × Token)) → of_node i (n, sent) ≡ (S.now, S.sends) → slice_get t.nodes i ≡ Some n
left_node s t e i S mine n sent is =
    let now : OfNode n ≡ S.now = ap (λ (r : Own NodeState × List (ℕ × Token)). r.0) is in
    (own_node t i n (ap (own t) (sym mine) ∙ step_own_same t414 has_four_links s e t S ∙ ap Some (sym now))).1

no_tokens : (ms : List (ℕ × Token)) → nat_lt 0 (length ms) ≡ false → ms ≡ []
no_tokens [] h = refl
no_tokens (m ∷ ms) h = let none = ltb-false 0 (length (m ∷ ms)) h in absurd (omega (arith, none))

module _ (s t : Network NodeState) (i : ℕ) (takes : List Received) where
  run_apart : (k : ℕ) → by_link 0 takes ≡ [] → next t414 s (Run i k) ≡ Some t → TurnApart s t i takes k
  unfolding process does took_all
  run_apart k none h = let S = step_of t414 s (Run i k) t h in go S S.was S.own_was S.change
    where
      go : (S : Step t414 s (Run i k) t) (was : Own NodeState) → own s i ≡ Some was → does t414 s.wires (length s.nodes) (Run i k) was ≡ Some (S.now, S.sends) → TurnApart s t i takes k
      go S (OfHost ports) o e = cc
      go S (OfNode n) o e =
          let C = cond_some (nat_lt 0 k && nat_le k MAX_STEPS) (option_map (of_node i) (steps t414 k n)) (S.now, S.sends) e in
          let Q = map_some (of_node i) (steps t414 k n) (S.now, S.sends) C.1 in
          record {
            node = n;
            there = (own_node s i n o).1;
            ahead = (n, []);
            took = ap (λ ms. took_all t414 ms n) none;
            behind = Q.0;
            ran = Q.1;
            stands = left_node s t (Run i k) i S refl Q.0.0 Q.0.1 Q.2;
          }

  taking_apart : (k : ℕ) → next t414 s (Turn i takes k) ≡ Some t → TurnApart s t i takes k
  unfolding process does
  taking_apart k h = let S = step_of t414 s (Turn i takes k) t h in go S S.was S.own_was S.change
    where
      go : (S : Step t414 s (Turn i takes k) t) (was : Own NodeState) → own s i ≡ Some was → does t414 s.wires (length s.nodes) (Turn i takes k) was ≡ Some (S.now, S.sends) → TurnApart s t i takes k
      go S (OfHost ports) o e = cc
      go S (OfNode n) o e =
          let T = turn_step t414 s.wires (length s.nodes) i takes k n (S.now, S.sends) e in
          record {
            node = n;
            there = (own_node s i n o).1;
            ahead = T.taken_all;
            took = T.takes_all;
            behind = T.run;
            ran = T.runs;
            stands = left_node s t (Turn i takes k) i S refl T.run.0 (T.taken_all.1 ++ T.run.1) T.is;
          }

  rest_apart : by_link 0 takes ≡ [] → s ≡ t → (now : NodeState) → slice_get t.nodes i ≡ Some now → TurnApart s t i takes 0
  unfolding took_all steps
  rest_apart none same now there = record {
    node = now;
    there = ap (λ x. slice_get x.nodes i) same ∙ there;
    ahead = (now, []);
    took = ap (λ ms. took_all t414 ms now) none;
    behind = (now, []);
    ran = refl;
    stands = there;
  }

  turn_apart : (count : ℕ) → after t414 s (turn_entries i takes count) ≡ Some t → (now : NodeState) → slice_get t.nodes i ≡ Some now → TurnApart s t i takes count
  unfolding after
  turn_apart count leads now there = go (nat_lt 0 (length (by_link 0 takes))) refl count leads
    where
      go : (some : Bool) → nat_lt 0 (length (by_link 0 takes)) ≡ some → (k : ℕ) → after t414 s (cond some (Turn i takes k ∷ []) (run_of i k)) ≡ Some t → TurnApart s t i takes k
      go true some k h = taking_apart k (sym (after_one t414 s (Turn i takes k)) ∙ h)
      go false none zero h = let same : s ≡ t = cc in rest_apart (no_tokens (by_link 0 takes) none) same now there
      go false none (suc k) h = run_apart (suc k) (no_tokens (by_link 0 takes) none) (sym (after_one t414 s (Run i (suc k))) ∙ h)

module _ (quantum i : ℕ) (s t u : Network NodeState) (xs ys : List Entry) (R : IsNodeTurn quantum i s xs t) (Q : IsNodeTurn quantum i s ys u) where
  takes_same : R.takes ≡ Q.takes
  takes_same = ext_get_or Nothing R.takes Q.takes (R.four ∙ sym Q.four) (λ link below.
      let four : link < 4 = omega (arith, below, R.four) in
      same_received (get_or R.takes link Nothing) (get_or Q.takes link Nothing) (R.whole link four ∙ sym (Q.whole link four)))

  -- of two turns neither is shorter
  no_shorter : R.count < Q.count → ⊥
  no_shorter less =
      let A = turn_apart s t i R.takes R.count (ap (after t414 s) (sym R.are) ∙ R.leads) R.now R.there in
      let B = turn_apart s u i Q.takes Q.count (ap (after t414 s) (sym Q.are) ∙ Q.leads) Q.now Q.there in
      let node : A.node ≡ B.node = cc (A.there, B.there) in
      let took : took_all t414 (by_link 0 R.takes) A.node ≡ took_all t414 (by_link 0 Q.takes) B.node = ap (λ takes. took_all t414 (by_link 0 takes) A.node) takes_same ∙ ap (took_all t414 (by_link 0 Q.takes)) node in
      let ahead : A.ahead ≡ B.ahead = let both : Some A.ahead ≡ Some B.ahead = sym A.took ∙ took ∙ B.took in cc in
      let ran : steps t414 R.count B.ahead.0 ≡ Some A.behind = ap (λ (x : NodeState × List (ℕ × Token)). steps t414 R.count x.0) (sym ahead) ∙ A.ran in
      let now : A.behind.0 ≡ R.now = cc (A.stands, R.there) in
      let none = R.all (omega (arith, less, Q.few)) in
      not_both (steps t414 Q.count B.ahead.0) B.behind (steps_fewer t414 R.count Q.count B.ahead.0 A.behind ran (rw now none) less) B.ran

node_one_way : (quantum i : ℕ) → OneWay (IsNodeTurn quantum i)
node_one_way quantum i s t u xs ys R Q =
    let count : R.count ≡ Q.count = elim (cases_lt R.count Q.count) [
      | inl less ↦ absurd (no_shorter quantum i s t u xs ys R Q less)
      | inr more ↦ elim (cases_eq R.count Q.count) [
        | inl same ↦ same
        | inr other ↦ absurd (no_shorter quantum i s u t ys xs Q R (omega (arith, more, other)))
      ]
    ] in
    let same : xs ≡ ys = R.are ∙ ap (λ takes. turn_entries i takes R.count) (takes_same quantum i s t u xs ys R Q) ∙ ap (turn_entries i Q.takes) count ∙ sym Q.are in
    (same, same_end s t u xs ys same R.leads Q.leads)

-- ## Acts in order

then_one_way : (one other : Network NodeState → List Entry → Network NodeState → Type 0) → OneWay one → OneWay other → OneWay (Then one other)
then_one_way one other first second s t u xs ys D E =
    let front = first s D.between E.between D.first E.first D.one_did E.one_did in
    let rest = second D.between t u D.second E.second D.other_did (subst (λ m. other m E.second u) (sym front.1) E.other_did) in
    (D.are ∙ ap (λ es. es ++ D.second) front.0 ∙ ap (λ es. E.first ++ es) rest.0 ∙ sym E.are, rest.1)

order_one_way : (act : ℕ → Network NodeState → List Entry → Network NodeState → Type 0) → ((k : ℕ) → OneWay (act k)) → (n : ℕ) → OneWay (InOrder act n)
unfolding InOrder
order_one_way act each zero s t u xs ys D E = (D.0 ∙ sym E.0, D.1 ∙ sym E.1)
order_one_way act each (suc n) s t u xs ys D E = then_one_way (InOrder act n) (act n) (order_one_way act each n) (each n) s t u xs ys D E

turn_one_way : (quantum : ℕ) (of_node : Bool) → OneWay (IsTurnOf quantum of_node)
turn_one_way quantum true s t u xs ys D E = node_one_way quantum 0 s t u xs ys D E
turn_one_way quantum false s t u xs ys D E =
    order_one_way (λ p. TookIn (4 * length s.nodes + p)) (λ p. in_one_way (4 * length s.nodes + p)) (length s.ports) s t u xs ys D E

turns_one_way : (quantum turns : ℕ) → OneWay (AreTurns quantum turns)
turns_one_way quantum turns s t u xs ys D E = order_one_way (λ number. IsTurnOf quantum (number % 2 == 0)) (λ k. turn_one_way quantum (k % 2 == 0)) turns s t u xs ys D E

-- ## The output

pub one_output : (node : NodeState) (turns quantum : ℕ) (output other : List ℕ) → IsOutput node turns quantum output → IsOutput node turns quantum other → output ≡ other
one_output node turns quantum output other D E =
    let same = (turns_one_way quantum turns (lone_network node) D.end E.end D.entries E.entries D.turned E.turned).1 in
    let ports : slice_get D.end.ports 0 ≡ slice_get E.end.ports 0 = ap (λ (s : Network NodeState). slice_get s.ports 0) same in
    let port : D.held.port ≡ E.held.port = cc (ports, D.held.there, E.held.there) in
    D.held.is ∙ ap (λ (p : Port). p.outputs) port ∙ sym E.held.is
