-- Each kind of entry, if it isn't possible.
use Rattle.std.proofs.Common.{◌≡◌, ℕ, zero, suc, ◌<◌, true, false, List, [], ◌++◌, length, refl, sym, ap, ◌∙◌, arith, Option, Some, None, slice_get}
use Rattle.std.specs.Prelude.{nat_lt, nat_le, ◌&&◌, is_some}
use Rattle.tp_replay.proofs.Lower.{option_map, true≢false, and_from, Token, Marker, Received, WireEnd, AtPort, Run, Take, HostIn, Confirm, Turn, MAX_STEPS, NodeState, t414, ◌>>=◌, Machine, steps, Port, Network, Own, OfNode, OfHost, own, receiver, process_at, on_line, is_first, taken, by_link, by_line, comes_in, took_all, process, takes, of_node, of_port, receives, port_took, handed_in, confirmed, does, next, step_of, own_host, own_node, port_step, TurnStep, turn_step, turn_fronts, taken_cons, step_takes_unmarked, bind_some, map_some, cond_some, never_marks}

-- what isn't some is none
none_of : {A : Type 0} (o : Option A) → ((x : A) → o ≡ Some x → ⊥) → o ≡ None
none_of None h = refl
none_of (Some x) h = absurd (h x refl)

-- ## Runs

record RunStep (s : Network NodeState) (i k : ℕ) : Type 0 where
  node : NodeState
  there : slice_get s.nodes i ≡ Some node
  some : (nat_lt 0 k && nat_le k MAX_STEPS) ≡ true
  after : NodeState × List (ℕ × Token)
  ran : steps t414 k node ≡ Some after

run_apart : (s : Network NodeState) (i k : ℕ) (t : Network NodeState) → next t414 s (Run i k) ≡ Some t → RunStep s i k
unfolding process does
run_apart s i k t h = let S = step_of t414 s (Run i k) t h in go S.was S.own_was (S.now, S.sends) S.change
  where
    go : (was : Own NodeState) → own s i ≡ Some was → (r : Own NodeState × List (ℕ × Token)) → does t414 s.wires (length s.nodes) (Run i k) was ≡ Some r → RunStep s i k
    go (OfHost ports) o r e = cc
    go (OfNode n) o r e =
        let C = cond_some (nat_lt 0 k && nat_le k MAX_STEPS) (option_map (of_node i) (steps t414 k n)) r e in
        let Q = map_some (of_node i) (steps t414 k n) r C.1 in
        record { node = n; there = (own_node s i n o).1; some = C.0; after = Q.0; ran = Q.1 }

pub run_nowhere : (s : Network NodeState) (i k : ℕ) → slice_get s.nodes i ≡ None → next t414 s (Run i k) ≡ None
run_nowhere s i k none = none_of (next t414 s (Run i k)) (λ t h. let R = run_apart s i k t h in cc (R.there, none))

pub run_uncounted : (s : Network NodeState) (i k : ℕ) → (nat_lt 0 k && nat_le k MAX_STEPS) ≡ false → next t414 s (Run i k) ≡ None
run_uncounted s i k none = none_of (next t414 s (Run i k)) (λ t h. let R = run_apart s i k t h in cc (R.some, none))

pub run_short : (s : Network NodeState) (i k : ℕ) (n : NodeState) → slice_get s.nodes i ≡ Some n → steps t414 k n ≡ None → next t414 s (Run i k) ≡ None
run_short s i k n there none =
    none_of (next t414 s (Run i k))
    (λ t h. let R = run_apart s i k t h in
    let same : R.node ≡ n = cc (R.there, there) in
    let ran : steps t414 k n ≡ Some R.after = rw same at R.ran in
    cc (ran, none))

-- the steps after the first one
abbrev goes_on : {Node : Type 0} → Machine Node → ℕ → Node × List (ℕ × Token) → Option (Node × List (ℕ × Token))
goes_on M count first = steps M count first.0 >>= λ rest. Some (rest.0, first.1 ++ rest.1)

-- if a run ends there are no more steps
pub steps_fewer : {Node : Type 0} (M : Machine Node) (made count : ℕ) (n : Node) (now : Node × List (ℕ × Token)) → steps M made n ≡ Some now → M.step now.0 ≡ None → made < count → steps M count n ≡ None
unfolding steps
steps_fewer M zero zero n now ran none fewer = absurd (omega arith)
steps_fewer {Node} M zero (suc count) n now ran none fewer =
    let same : ◌≡◌ {A = Node × List (ℕ × Token)} (n, []) now = cc in
    let here : M.step n ≡ None = ap (λ r. M.step r.0) same ∙ none in
    ap (λ o. o >>= goes_on M count) here
steps_fewer M (suc made) zero n now ran none fewer = absurd (omega arith)
steps_fewer {Node} M (suc made) (suc count) n now ran none fewer =
    let A = bind_some (M.step n) (goes_on M made) now ran in
    let B = bind_some (steps M made A.0.0) (λ rest. Some (rest.0, A.0.1 ++ rest.1)) now A.2 in
    let same : ◌≡◌ {A = Node × List (ℕ × Token)} (B.0.0, A.0.1 ++ B.0.1) now = cc in
    let last : M.step B.0.0 ≡ None = ap (λ r. M.step r.0) same ∙ none in
    let rest : steps M count A.0.0 ≡ None = steps_fewer M made count A.0.0 B.0 B.1 last (omega arith) in
    let step : steps M (suc count) n ≡ goes_on M count A.0 = ap (λ o. o >>= goes_on M count) A.1 in
    let none : goes_on M count A.0 ≡ None = ap (λ o. o >>= λ rest. Some (rest.0, A.0.1 ++ rest.1)) rest in
    step ∙ none

-- ## Takes

-- what a take that is possible takes
record TakeStep (s : Network NodeState) (line : ℕ) (token : Token) : Type 0 where
  front : is_first (on_line s.lines line) token ≡ true
  was : Own NodeState
  own_was : own s (process_at (length s.nodes) (receiver s.wires line)) ≡ Some was
  r : Own NodeState × List (ℕ × Token)
  took : receives t414 (length s.nodes) (receiver s.wires line) token was ≡ Some r

take_apart : (s : Network NodeState) (line : ℕ) (token : Token) (t : Network NodeState) → next t414 s (Take line token) ≡ Some t → TakeStep s line token
unfolding process does takes
take_apart s line token t h =
    let S = step_of t414 s (Take line token) t h in
    record { front = (taken_cons s.lines (line, token) [] S.out S.takes_out).0; was = S.was; own_was = S.own_was; r = (S.now, S.sends); took = S.change }

pub take_behind : (s : Network NodeState) (line : ℕ) (token : Token) → is_first (on_line s.lines line) token ≡ false → next t414 s (Take line token) ≡ None
take_behind s line token none = none_of (next t414 s (Take line token)) (λ t h. let R = take_apart s line token t h in cc (R.front, none))

-- nobody receives it there
received : (N : ℕ) (end : Option WireEnd) (token : Token) (was : Own NodeState) (r : Own NodeState × List (ℕ × Token)) → receives t414 N end token was ≡ Some r → end ≡ None → ⊥
unfolding receives
received N None token (OfNode n) r e none = cc
received N None token (OfHost ports) r e none = cc
received N (Some end) token was r e none = cc

pub take_unwired : (s : Network NodeState) (line : ℕ) (token : Token) → receiver s.wires line ≡ None → next t414 s (Take line token) ≡ None
take_unwired s line token none =
    none_of (next t414 s (Take line token)) (λ t h. let R = take_apart s line token t h in received (length s.nodes) (receiver s.wires line) token R.was R.r R.took none)

pub take_marker : (s : Network NodeState) (line : ℕ) → next t414 s (Take line Marker) ≡ None
unfolding takes
take_marker s line =
    none_of (next t414 s (Take line Marker)) (λ t h. true≢false (step_takes_unmarked t414 never_marks s (Take line Marker) t (step_of t414 s (Take line Marker) t h)).0)

-- a change of a port that is possible
record PortChange (s : Network NodeState) (p : ℕ) (change : Port → Option (Port × List Token)) : Type 0 where
  port : Port
  there : slice_get s.ports p ≡ Some port
  after : Port × List Token
  is : change port ≡ Some after

port_change : (s : Network NodeState) (p : ℕ) (change : Port → Option (Port × List Token)) (ports : List Port) (r : Own NodeState × List (ℕ × Token)) → s.ports ≡ ports → of_port (length s.nodes) p ports change ≡ Some r
    → PortChange s p change
port_change s p change ports r same e =
    let P = port_step (length s.nodes) p ports change r e in
    record { port = P.port; there = ap (λ ps. slice_get ps p) same ∙ P.at; after = P.changed; is = P.change_is }

port_takes_apart : (s : Network NodeState) (line p : ℕ) (token : Token) (t : Network NodeState) → receiver s.wires line ≡ Some (AtPort p) → next t414 s (Take line token) ≡ Some t → PortChange s p (port_took token)
unfolding receives
port_takes_apart s line p token t to h =
    let R = take_apart s line token t h in
    go R.was (ap (λ end. own s (process_at (length s.nodes) end)) (sym to) ∙ R.own_was) R.r (ap (λ end. receives t414 (length s.nodes) end token R.was) (sym to) ∙ R.took)
  where
    go : (was : Own NodeState) → own s (length s.nodes) ≡ Some was → (r : Own NodeState × List (ℕ × Token)) → receives t414 (length s.nodes) (Some (AtPort p)) token was ≡ Some r → PortChange s p (port_took token)
    go (OfNode n) o r e = cc
    go (OfHost ports) o r e = port_change s p (port_took token) ports r (own_host s (length s.nodes) ports o).1 e

hand_in_apart : (s : Network NodeState) (p byte : ℕ) (t : Network NodeState) → next t414 s (HostIn p byte) ≡ Some t → PortChange s p (handed_in byte)
unfolding process does
hand_in_apart s p byte t h = let S = step_of t414 s (HostIn p byte) t h in go S.was S.own_was (S.now, S.sends) S.change
  where
    go : (was : Own NodeState) → own s (length s.nodes) ≡ Some was → (r : Own NodeState × List (ℕ × Token)) → does t414 s.wires (length s.nodes) (HostIn p byte) was ≡ Some r → PortChange s p (handed_in byte)
    go (OfNode n) o r e = cc
    go (OfHost ports) o r e = port_change s p (handed_in byte) ports r (own_host s (length s.nodes) ports o).1 e

confirm_apart : (s : Network NodeState) (p upto : ℕ) (t : Network NodeState) → next t414 s (Confirm p upto) ≡ Some t → PortChange s p (confirmed upto)
unfolding process does
confirm_apart s p upto t h = let S = step_of t414 s (Confirm p upto) t h in go S.was S.own_was (S.now, S.sends) S.change
  where
    go : (was : Own NodeState) → own s (length s.nodes) ≡ Some was → (r : Own NodeState × List (ℕ × Token)) → does t414 s.wires (length s.nodes) (Confirm p upto) was ≡ Some r → PortChange s p (confirmed upto)
    go (OfNode n) o r e = cc
    go (OfHost ports) o r e = port_change s p (confirmed upto) ports r (own_host s (length s.nodes) ports o).1 e

-- if there is no such port, or it can't do it
unchanged : (s : Network NodeState) (p : ℕ) (change : Port → Option (Port × List Token)) → slice_get s.ports p >>= change ≡ None → PortChange s p change → ⊥
unchanged s p change none P = let both : slice_get s.ports p >>= change ≡ Some P.after = rw P.there P.is in cc (none, both)

pub port_takes_none : (s : Network NodeState) (line p : ℕ) (token : Token) → receiver s.wires line ≡ Some (AtPort p) → slice_get s.ports p >>= port_took token ≡ None → next t414 s (Take line token) ≡ None
port_takes_none s line p token to none = none_of (next t414 s (Take line token)) (λ t h. unchanged s p (port_took token) none (port_takes_apart s line p token t to h))

pub hand_in_none : (s : Network NodeState) (p byte : ℕ) → slice_get s.ports p >>= handed_in byte ≡ None → next t414 s (HostIn p byte) ≡ None
hand_in_none s p byte none = none_of (next t414 s (HostIn p byte)) (λ t h. unchanged s p (handed_in byte) none (hand_in_apart s p byte t h))

pub confirm_none : (s : Network NodeState) (p upto : ℕ) → slice_get s.ports p >>= confirmed upto ≡ None → next t414 s (Confirm p upto) ≡ None
confirm_none s p upto none = none_of (next t414 s (Confirm p upto)) (λ t h. unchanged s p (confirmed upto) none (confirm_apart s p upto t h))

-- ## Turns

-- what a turn that is possible does to its node
record TurnSteps (s : Network NodeState) (i : ℕ) (links : List Received) (k : ℕ) : Type 0 where
  node : NodeState
  there : slice_get s.nodes i ≡ Some node
  r : Own NodeState × List (ℕ × Token)
  steps : TurnStep t414 s.wires (length s.nodes) i (by_link 0 links) k node r

turn_apart : (s : Network NodeState) (i : ℕ) (links : List Received) (k : ℕ) (t : Network NodeState) → next t414 s (Turn i links k) ≡ Some t → TurnSteps s i links k
unfolding process does
turn_apart s i links k t h = let S = step_of t414 s (Turn i links k) t h in go S.was S.own_was (S.now, S.sends) S.change
  where
    go : (was : Own NodeState) → own s i ≡ Some was → (r : Own NodeState × List (ℕ × Token)) → does t414 s.wires (length s.nodes) (Turn i links k) was ≡ Some r → TurnSteps s i links k
    go (OfHost ports) o r e = cc
    go (OfNode n) o r e = record { node = n; there = (own_node s i n o).1; r = r; steps = turn_step t414 s.wires (length s.nodes) i links k n r e }

pub turn_nowhere : (s : Network NodeState) (i : ℕ) (links : List Received) (k : ℕ) → slice_get s.nodes i ≡ None → next t414 s (Turn i links k) ≡ None
turn_nowhere s i links k none = none_of (next t414 s (Turn i links k)) (λ t h. let F = turn_fronts t414 s t i links k h in cc (F.there, none))

pub turn_uncounted : (s : Network NodeState) (i : ℕ) (links : List Received) (k : ℕ) → (nat_lt 0 (length (by_link 0 links)) && nat_le k MAX_STEPS) ≡ false → next t414 s (Turn i links k) ≡ None
turn_uncounted s i links k none =
    none_of (next t414 s (Turn i links k))
    (λ t h. let F = turn_fronts t414 s t i links k h in
    let is = and_from (nat_lt 0 (length (by_link 0 links))) (nat_le k MAX_STEPS) F.some F.few in
    true≢false (sym is ∙ none))

-- if a token didn't come in on its link, or isn't among the first of its line
pub turn_behind : (s : Network NodeState) (i : ℕ) (links : List Received) (k : ℕ)
    → (comes_in s.wires (length s.nodes) i (by_link 0 links) && is_some (taken s.lines (by_line s.wires (length s.nodes) i (by_link 0 links)))) ≡ false → next t414 s (Turn i links k) ≡ None
unfolding takes
turn_behind s i links k none =
    none_of (next t414 s (Turn i links k))
    (λ t h. let F = turn_fronts t414 s t i links k h in
    let is = and_from (comes_in s.wires (length s.nodes) i (by_link 0 links)) (is_some (taken s.lines (by_line s.wires (length s.nodes) i (by_link 0 links)))) F.into (ap is_some F.front) in
    true≢false (sym is ∙ none))

-- if the node can't make the steps
pub turn_short : (s : Network NodeState) (i : ℕ) (links : List Received) (k : ℕ) (n : NodeState) (mid : NodeState × List (ℕ × Token)) → slice_get s.nodes i ≡ Some n
    → took_all t414 (by_link 0 links) n ≡ Some mid → steps t414 k mid.0 ≡ None → next t414 s (Turn i links k) ≡ None
turn_short s i links k n mid there took none =
    none_of (next t414 s (Turn i links k))
    (λ t h. let R = turn_apart s i links k t h in
    let same : R.node ≡ n = cc (R.there, there) in
    let all : took_all t414 (by_link 0 links) n ≡ Some R.steps.taken_all = rw same at R.steps.takes_all in
    let alike : R.steps.taken_all ≡ mid = cc (all, took) in
    let ran : steps t414 k mid.0 ≡ Some R.steps.run = rw alike at R.steps.runs in
    cc (ran, none))
