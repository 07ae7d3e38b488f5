-- An entry touches its own process alone, the fronts of lines that come in to it and the backs of lines that go out
-- from it.
use Rattle.std.proofs.Common.{◌≡◌, ◌≢◌, ℕ, zero, suc, ◌+◌, ◌*◌, ◌<◌, Bool, true, false, cond, List, [], ◌∷◌, ◌++◌, length, map, set, refl, sym, ap, subst, ◌∙◌, arith, Option, Some, None, length-set, slice_get, eqb-true, eq-eqb, ne_eqb}
use Rattle.std.specs.Prelude.{◌==◌, nat_lt, nat_le, ◌&&◌}
use Rattle.tp_law_network.proofs.Lower.{option_map, AllByRecursion, and_parts, lt-ltb, le-ltb, slice_get_within, Token, Received, WireEnd, Link, AtPort, Entry, Run, Take, HostIn, Confirm, Turn, MAX_STEPS, Machine, steps, Port, Network, Own, OfNode, OfHost, own, put, receiver, has_wire, process_at, taken, sent, process, takes, port_took, handed_in, confirmed, of_node, of_port, receives, does, next, HasFourLinks, acts, by_link, by_line, incoming, is_link, comes_in, took_all, turned, owner, taker}
use Rattle.tp_law_network.proofs.Lines.{length_taken, length_sent}
use Rattle.tp_law_network.proofs.Partial.{all_append, bind_some, map_some, cond_some, slice_get-set_same, slice_get-set_other}

-- ## One entry, taken apart

-- What the entry takes leaves `out`; its process was in one state and is in another, and sent `sends`.
pub record Step {Node : Type 0} (M : Machine Node) (s : Network Node) (e : Entry) (t : Network Node) : Type 0 where
  pub out : List (List Token)
  pub takes_out : taken s.lines (takes s.wires (length s.nodes) e) ≡ Some out
  pub was : Own Node
  pub own_was : own s (process s.wires (length s.nodes) e) ≡ Some was
  pub now : Own Node
  pub sends : List (ℕ × Token)
  pub change : does M s.wires (length s.nodes) e was ≡ Some (now, sends)
  pub makes : put (record s { lines = sent (has_wire s.wires) out sends }) (process s.wires (length s.nodes) e) now ≡ t

pub step_of : {Node : Type 0} (M : Machine Node) (s : Network Node) (e : Entry) (t : Network Node) → next M s e ≡ Some t → Step M s e t
unfolding next acts
step_of M s e t h =
    let L = bind_some (taken s.lines (takes s.wires (length s.nodes) e)) _ t h in
    let B = bind_some (own s (process s.wires (length s.nodes) e)) _ t L.2 in
    let C = bind_some (does M s.wires (length s.nodes) e B.0) _ t B.2 in
    record { out = L.0; takes_out = L.1; was = B.0; own_was = B.1; now = C.0.0; sends = C.0.1; change = C.1; makes = cc }

pub next_from : {Node : Type 0} (M : Machine Node) (s : Network Node) (e : Entry) (t : Network Node) → Step M s e t → next M s e ≡ Some t
unfolding next acts
next_from M s e t S = rw (S.takes_out, S.own_was, S.change, S.makes)

-- ## States of processes

-- two states of one process: a node's, or the host's with as many ports
abbrev pub AreAlike : {Node : Type 0} → Own Node → Own Node → Type 0
AreAlike (OfNode n) (OfNode m) = Unit {0}
AreAlike (OfHost ports) (OfHost others) = length others ≡ length ports
AreAlike (OfNode n) (OfHost ports) = ⊥
AreAlike (OfHost ports) (OfNode n) = ⊥

pub own_node : {Node : Type 0} (s : Network Node) (p : ℕ) (n : Node) → own s p ≡ Some (OfNode n) → (p < length s.nodes) × (slice_get s.nodes p ≡ Some n)
unfolding own
own_node {Node} s p n e = go (p == length s.nodes) e
  where
    go : (b : Bool) → cond b (Some (OfHost s.ports)) (option_map OfNode (slice_get s.nodes p)) ≡ Some (OfNode n) → (p < length s.nodes) × (slice_get s.nodes p ≡ Some n)
    go true e = cc
    go false e =
        let M = map_some OfNode (slice_get s.nodes p) (OfNode n) e in
        let at : slice_get s.nodes p ≡ Some n = cc in
        (slice_get_within s.nodes p n at, at)

pub own_host : {Node : Type 0} (s : Network Node) (p : ℕ) (ports : List Port) → own s p ≡ Some (OfHost ports) → (p ≡ length s.nodes) × (s.ports ≡ ports)
unfolding own
own_host {Node} s p ports e = go (p == length s.nodes) refl e
  where
    go : (b : Bool) → (p == length s.nodes) ≡ b → cond b (Some (OfHost s.ports)) (option_map OfNode (slice_get s.nodes p)) ≡ Some (OfHost ports) → (p ≡ length s.nodes) × (s.ports ≡ ports)
    go true is e = (eqb-true p (length s.nodes) is, cc)
    go false is e = let M = map_some OfNode (slice_get s.nodes p) (OfHost ports) e in cc

pub own-node : {Node : Type 0} (s : Network Node) (p : ℕ) → p ≢ length s.nodes → own s p ≡ option_map OfNode (slice_get s.nodes p)
unfolding own
own-node s p n = rw (ne_eqb p (length s.nodes) n)

pub own-host : {Node : Type 0} (s : Network Node) → own s (length s.nodes) ≡ Some (OfHost s.ports)
unfolding own
own-host s = rw (eq-eqb (length s.nodes) (length s.nodes) refl)

pub own-lines : {Node : Type 0} (s : Network Node) (lines : List (List Token)) (p : ℕ) → own (record s { lines = lines }) p ≡ own s p
unfolding own
own-lines s lines p = refl

-- putting another state of a process changes nothing else
pub put-wires : {Node : Type 0} (s : Network Node) (p : ℕ) (y : Own Node) → (put s p y).wires ≡ s.wires
unfolding put
put-wires s p (OfNode n) = refl
put-wires s p (OfHost ports) = refl

pub put-lines : {Node : Type 0} (s : Network Node) (p : ℕ) (y : Own Node) → (put s p y).lines ≡ s.lines
unfolding put
put-lines s p (OfNode n) = refl
put-lines s p (OfHost ports) = refl

pub put-length : {Node : Type 0} (s : Network Node) (p : ℕ) (y : Own Node) → length (put s p y).nodes ≡ length s.nodes
unfolding put
put-length s p (OfNode n) = length-set s.nodes p n
put-length s p (OfHost ports) = refl

pub put-ports : {Node : Type 0} (s : Network Node) (p : ℕ) (x y : Own Node) → own s p ≡ Some x → AreAlike x y → length (put s p y).ports ≡ length s.ports
unfolding put
put-ports s p x (OfNode n) e a = refl
put-ports s p (OfNode n) (OfHost ports) e a = absurd a
put-ports s p (OfHost others) (OfHost ports) e a = a ∙ ap length (sym (own_host s p others e).1)

pub own-put_same : {Node : Type 0} (s : Network Node) (p : ℕ) (x y : Own Node) → own s p ≡ Some x → AreAlike x y → own (put s p y) p ≡ Some y
unfolding put
own-put_same s p (OfNode m) (OfNode n) e a =
    let at = own_node s p m e in
    own-node (record s { nodes = set s.nodes p n }) p (λ h. omega (arith, at.0, h, length-set s.nodes p n))
    ∙ ap (option_map OfNode) (slice_get-set_same s.nodes p n m at.1)
own-put_same s p (OfHost others) (OfHost ports) e a = rw (own_host s p others e).0 (own-host (record s { ports = ports }))
own-put_same s p (OfNode m) (OfHost ports) e a = absurd a
own-put_same s p (OfHost others) (OfNode n) e a = absurd a

pub own-put_other : {Node : Type 0} (s : Network Node) (p q : ℕ) (x y : Own Node) → own s p ≡ Some x → AreAlike x y → q ≢ p → own (put s p y) q ≡ own s q
unfolding put own
own-put_other s p q (OfNode m) (OfNode n) e a apart = rw (length-set s.nodes p n, slice_get-set_other s.nodes p q n apart)
own-put_other s p q (OfHost others) (OfHost ports) e a apart =
    let away : q ≢ length s.nodes = (λ h. apart (h ∙ sym (own_host s p others e).0)) in
    rw (ne_eqb q (length s.nodes) away)
own-put_other s p q (OfNode m) (OfHost ports) e a apart = absurd a
own-put_other s p q (OfHost others) (OfNode n) e a apart = absurd a

-- ## Whose entry it is, and what it takes

-- networks with the same wires and as many nodes, ports and lines
pub record SameShape {Node : Type 0} (s t : Network Node) : Type 0 where
  pub wires : t.wires ≡ s.wires
  pub nodes : length t.nodes ≡ length s.nodes
  pub ports : length t.ports ≡ length s.ports
  pub lines : length t.lines ≡ length s.lines

pub process_same : {Node : Type 0} (s t : Network Node) → t.wires ≡ s.wires → length t.nodes ≡ length s.nodes → (e : Entry) → process t.wires (length t.nodes) e ≡ process s.wires (length s.nodes) e
process_same s t w n e = ap (λ wires. process wires (length t.nodes) e) w ∙ ap (λ N. process s.wires N e) n

pub takes_same : {Node : Type 0} (s t : Network Node) → t.wires ≡ s.wires → length t.nodes ≡ length s.nodes → (e : Entry) → takes t.wires (length t.nodes) e ≡ takes s.wires (length s.nodes) e
takes_same s t w n e = ap (λ wires. takes wires (length t.nodes) e) w ∙ ap (λ N. takes s.wires N e) n

-- ## A turn's tokens

-- the end at which a token of a turn comes in
pub link_is : (i k : ℕ) (end : Option WireEnd) → is_link i k end ≡ true → end ≡ Some (Link i k)
link_is i k None e = cc
link_is i k (Some (AtPort p)) e = cc
link_is i k (Some (Link j l)) e =
    let both = and_parts (j == i) (l == k) e in
    ap (λ a. Some (Link a l)) (eqb-true j i both.0) ∙ ap (λ b. Some (Link i b)) (eqb-true l k both.1)

-- a token of a turn comes in on its link, and the others on theirs
pub comes_first : (wires : List (Option WireEnd)) (N i : ℕ) (m : ℕ × Token) (ms : List (ℕ × Token)) → comes_in wires N i (m ∷ ms) ≡ true
    → (receiver wires (incoming wires N i m.0) ≡ Some (Link i m.0)) × (comes_in wires N i ms ≡ true)
comes_first wires N i m ms e =
    let both = and_parts (is_link i m.0 (receiver wires (incoming wires N i m.0))) (comes_in wires N i ms) e in
    (link_is i m.0 (receiver wires (incoming wires N i m.0)) both.0, both.1)

-- What a turn that is possible does, taken apart.
pub record TurnStep {Node : Type 0} (M : Machine Node) (wires : List (Option WireEnd)) (N i : ℕ) (tokens : List (ℕ × Token)) (k : ℕ) (node : Node) (r : Own Node × List (ℕ × Token)) : Type 0 where
  pub into : comes_in wires N i tokens ≡ true
  pub some : nat_lt 0 (length tokens) ≡ true
  pub few : nat_le k MAX_STEPS ≡ true
  pub taken_all : Node × List (ℕ × Token)
  pub takes_all : took_all M tokens node ≡ Some taken_all
  pub run : Node × List (ℕ × Token)
  pub runs : steps M k taken_all.0 ≡ Some run
  pub is : of_node i (run.0, taken_all.1 ++ run.1) ≡ r

pub turn_step : {Node : Type 0} (M : Machine Node) (wires : List (Option WireEnd)) (N i : ℕ) (links : List Received) (k : ℕ) (node : Node) (r : Own Node × List (ℕ × Token))
    → does M wires N (Turn i links k) (OfNode node) ≡ Some r → TurnStep M wires N i (by_link 0 links) k node r
unfolding does turned
turn_step {Node} M wires N i links k node r e =
    let tokens = by_link 0 links in
    let C = cond_some (comes_in wires N i tokens && (nat_lt 0 (length tokens) && nat_le k MAX_STEPS)) (option_map (of_node i) (turned M tokens k node)) r e in
    let into = and_parts (comes_in wires N i tokens) (nat_lt 0 (length tokens) && nat_le k MAX_STEPS) C.0 in
    let more = and_parts (nat_lt 0 (length tokens)) (nat_le k MAX_STEPS) into.1 in
    let Q = map_some (of_node i) (turned M tokens k node) r C.1 in
    let F = bind_some (took_all M tokens node) _ Q.0 Q.1 in
    let R = bind_some (steps M k F.0.0) _ Q.0 F.2 in
    let is : ◌≡◌ {A = Node × List (ℕ × Token)} (R.0.0, F.0.1 ++ R.0.1) Q.0 = cc in
    record { into = into.0; some = more.0; few = more.1; taken_all = F.0; takes_all = F.1; run = R.0; runs = R.1; is = ap (of_node i) is ∙ Q.2 }

pub turn_own : {Node : Type 0} (s : Network Node) (i : ℕ) (ms : List (ℕ × Token)) → comes_in s.wires (length s.nodes) i ms ≡ true
    → AllByRecursion (λ m. taker s m.0 ≡ i) (by_line s.wires (length s.nodes) i ms)
turn_own s i [] e = tt
turn_own s i (m ∷ ms) e = let C = comes_first s.wires (length s.nodes) i m ms e in (ap (process_at (length s.nodes)) C.0, turn_own s i ms C.1)

-- what an entry takes comes in to its process
pub takes_own : {Node : Type 0} (M : Machine Node) (s : Network Node) (e : Entry) (x : Own Node) (r : Own Node × List (ℕ × Token)) → does M s.wires (length s.nodes) e x ≡ Some r
    → AllByRecursion (λ m. taker s m.0 ≡ process s.wires (length s.nodes) e) (takes s.wires (length s.nodes) e)
unfolding takes process does
takes_own M s (Run i k) x r d = tt
takes_own M s (Take l token) x r d = (refl, tt)
takes_own M s (HostIn p b) x r d = tt
takes_own M s (Confirm p upto) x r d = tt
takes_own M s (Turn i links k) (OfNode n) r d = turn_own s i (by_link 0 links) (turn_step M s.wires (length s.nodes) i links k n r d).into
takes_own M s (Turn i links k) (OfHost ports) r d = cc

-- ## What its process does

-- a port's change, taken apart
pub record PortStep {Node : Type 0} (N p : ℕ) (ports : List Port) (change : Port → Option (Port × List Token)) (r : Own Node × List (ℕ × Token)) : Type 0 where
  pub port : Port
  pub at : slice_get ports p ≡ Some port
  pub changed : Port × List Token
  pub change_is : change port ≡ Some changed
  pub is : ◌≡◌ {A = Own Node × List (ℕ × Token)} (OfHost (set ports p changed.0), map (λ token. (4 * N + p, token)) changed.1) r

pub port_step : {Node : Type 0} (N p : ℕ) (ports : List Port) (change : Port → Option (Port × List Token)) (r : Own Node × List (ℕ × Token))
    → of_port N p ports change ≡ Some r → PortStep N p ports change r
unfolding of_port
port_step N p ports change r e =
    let P = bind_some (slice_get ports p) _ r e in
    let C = bind_some (change P.0) _ r P.2 in
    record { port = P.0; at = P.1; changed = C.0; change_is = C.1; is = cc }

all_map : {A B : Type 0} (P : A → Type 0) (Q : B → Type 0) (f : A → B) (xs : List A) → ((x : A) → P x → Q (f x)) → AllByRecursion P xs → AllByRecursion Q (map f xs)
all_map P Q f [] h a = tt
all_map P Q f (x ∷ xs) h a = (h x a.0, all_map P Q f xs h a.1)

all_mapped : {A B : Type 0} (Q : B → Type 0) (f : A → B) (xs : List A) → ((x : A) → Q (f x)) → AllByRecursion Q (map f xs)
all_mapped Q f [] h = tt
all_mapped Q f (x ∷ xs) h = (h x, all_mapped Q f xs h)

-- the lines of a node's links and of the host's ports
pub owner_of_link : (N i k : ℕ) → i < N → k < 4 → owner N (4 * i + k) ≡ i
owner_of_link N i k h j = rw (lt-ltb (4 * i + k) (4 * N) (omega arith)) (omega arith)

pub owner_of_port : (N p : ℕ) → owner N (4 * N + p) ≡ N
owner_of_port N p = rw (le-ltb (4 * N + p) (4 * N) (omega arith))

-- all that steps send leaves on links 0 to 3
pub steps_links : {Node : Type 0} (M : Machine Node) → HasFourLinks M → (k : ℕ) (n : Node) (r : Node × List (ℕ × Token)) → steps M k n ≡ Some r → AllByRecursion (λ m. m.0 < 4) r.1
unfolding steps
steps_links {Node} M four zero n r e =
    let is : ◌≡◌ {A = Node × List (ℕ × Token)} (n, []) r = cc in
    subst (λ x. AllByRecursion (λ m. m.0 < 4) x.1) is tt
steps_links {Node} M four (suc k) n r e =
    let F = bind_some (M.step n) _ r e in
    let R = bind_some (steps M k F.0.0) _ r F.2 in
    let is : ◌≡◌ {A = Node × List (ℕ × Token)} (R.0.0, F.0.1 ++ R.0.1) r = cc in
    subst (λ x. AllByRecursion (λ m. m.0 < 4) x.1) is
    (all_append (λ m. m.0 < 4) F.0.1 R.0.1 (four.step n F.0 F.1) (steps_links M four k F.0.0 R.0 R.1))

-- so it does for tokens that are taken
pub took_all_links : {Node : Type 0} (M : Machine Node) → HasFourLinks M → (ms : List (ℕ × Token)) (n : Node) (r : Node × List (ℕ × Token)) → took_all M ms n ≡ Some r → AllByRecursion (λ m. m.0 < 4) r.1
unfolding took_all
took_all_links {Node} M four [] n r e =
    let is : ◌≡◌ {A = Node × List (ℕ × Token)} (n, []) r = cc in
    subst (λ x. AllByRecursion (λ m. m.0 < 4) x.1) is tt
took_all_links {Node} M four (m ∷ ms) n r e =
    let F = bind_some (M.took n m.0 m.1) _ r e in
    let R = bind_some (took_all M ms F.0.0) _ r F.2 in
    let is : ◌≡◌ {A = Node × List (ℕ × Token)} (R.0.0, F.0.1 ++ R.0.1) r = cc in
    subst (λ x. AllByRecursion (λ m. m.0 < 4) x.1) is
    (all_append (λ m. m.0 < 4) F.0.1 R.0.1 (four.took n m.0 m.1 F.0 F.1) (took_all_links M four ms F.0.0 R.0 R.1))

-- what leaves a node on its links goes out from it
from_node : {Node : Type 0} (N i : ℕ) (r : Node × List (ℕ × Token)) → i < N → AllByRecursion (λ m. m.0 < 4) r.1 → AllByRecursion (λ m. owner N m.0 ≡ i) (of_node i r).1
from_node N i r h all = all_map (λ m. m.0 < 4) (λ m. owner N m.0 ≡ i) (λ m. (4 * i + m.0, m.1)) r.1 (λ m j. owner_of_link N i m.0 h j) all

from_port : {Node : Type 0} (N p : ℕ) (ports : List Port) (change : Port → Option (Port × List Token)) (r : Own Node × List (ℕ × Token))
    → of_port N p ports change ≡ Some r → AreAlike (OfHost ports) r.0 × AllByRecursion (λ m. owner N m.0 ≡ N) r.1
from_port {Node} N p ports change r e =
    let P = port_step N p ports change r e in
    subst (λ x. AreAlike (OfHost ports) x.0 × AllByRecursion (λ m. owner N m.0 ≡ N) x.1) P.is
    (length-set ports p P.changed.0, all_mapped (λ m. owner N m.0 ≡ N) (λ token. (4 * N + p, token)) P.changed.1 (λ token. owner_of_port N p))

-- the process at an end receives: its state stays one of its kind, and what it sends goes out from it
receives_local : {Node : Type 0} (M : Machine Node) → HasFourLinks M → (N : ℕ) (end : Option WireEnd) (token : Token) (x : Own Node) (r : Own Node × List (ℕ × Token))
    → ((n : Node) → x ≡ OfNode n → process_at N end < N) → receives M N end token x ≡ Some r
    → AreAlike x r.0 × AllByRecursion (λ m. owner N m.0 ≡ process_at N end) r.1
unfolding receives
receives_local M four N (Some (Link i k)) token (OfNode n) r h e =
    let Q = map_some (of_node i) (M.took n k token) r e in
    subst (λ y. AreAlike (OfNode n) y.0 × AllByRecursion (λ m. owner N m.0 ≡ i) y.1) Q.2 (tt, from_node N i Q.0 (h n refl) (four.took n k token Q.0 Q.1))
receives_local M four N (Some (AtPort p)) token (OfHost ports) r h e = from_port N p ports (port_took token) r e
receives_local M four N (Some (Link i k)) token (OfHost ports) r h e = cc
receives_local M four N (Some (AtPort p)) token (OfNode n) r h e = cc
receives_local M four N None token (OfNode n) r h e = cc
receives_local M four N None token (OfHost ports) r h e = cc

-- An entry: the state of its process stays one of its kind, and what it sends goes out from its process.
does_local : {Node : Type 0} (M : Machine Node) → HasFourLinks M → (s : Network Node) (e : Entry) (x : Own Node) (r : Own Node × List (ℕ × Token))
    → ((n : Node) → x ≡ OfNode n → process s.wires (length s.nodes) e < length s.nodes) → does M s.wires (length s.nodes) e x ≡ Some r
    → AreAlike x r.0 × AllByRecursion (λ m. owner (length s.nodes) m.0 ≡ process s.wires (length s.nodes) e) r.1
unfolding does process
does_local M four s (Run i k) (OfNode n) r h e =
    let C = cond_some (nat_lt 0 k && nat_le k MAX_STEPS) (option_map (of_node i) (steps M k n)) r e in
    let Q = map_some (of_node i) (steps M k n) r C.1 in
    subst (λ y. AreAlike (OfNode n) y.0 × AllByRecursion (λ m. owner (length s.nodes) m.0 ≡ i) y.1) Q.2
    (tt, from_node (length s.nodes) i Q.0 (h n refl) (steps_links M four k n Q.0 Q.1))
does_local M four s (Run i k) (OfHost ports) r h e = cc
does_local M four s (Take l token) x r h e = receives_local M four (length s.nodes) (receiver s.wires l) token x r h e
does_local M four s (HostIn p b) (OfHost ports) r h e = from_port (length s.nodes) p ports (handed_in b) r e
does_local M four s (HostIn p b) (OfNode n) r h e = cc
does_local M four s (Confirm p upto) (OfHost ports) r h e = from_port (length s.nodes) p ports (confirmed upto) r e
does_local M four s (Confirm p upto) (OfNode n) r h e = cc
does_local M four s (Turn i links k) (OfNode n) r h e =
    let T = turn_step M s.wires (length s.nodes) i links k n r e in
    subst (λ y. AreAlike (OfNode n) y.0 × AllByRecursion (λ m. owner (length s.nodes) m.0 ≡ i) y.1) T.is (
      tt,
      from_node (length s.nodes) i (T.run.0, T.taken_all.1 ++ T.run.1) (h n refl)
          (all_append (λ m. m.0 < 4) T.taken_all.1 T.run.1 (took_all_links M four (by_link 0 links) n T.taken_all T.takes_all) (steps_links M four k T.taken_all.0 T.run T.runs)),
    )
does_local M four s (Turn i links k) (OfHost ports) r h e = cc

below_all : {Node : Type 0} (s : Network Node) (e : Entry) (x : Own Node) → own s (process s.wires (length s.nodes) e) ≡ Some x → (n : Node) → x ≡ OfNode n → process s.wires (length s.nodes) e < length s.nodes
below_all s e x o n is = (own_node s (process s.wires (length s.nodes) e) n (o ∙ ap Some is)).0

-- the state of its process stays one of its kind
pub does_stays : {Node : Type 0} (M : Machine Node) → HasFourLinks M → (s : Network Node) (e : Entry) (x : Own Node) (r : Own Node × List (ℕ × Token))
    → own s (process s.wires (length s.nodes) e) ≡ Some x → does M s.wires (length s.nodes) e x ≡ Some r → AreAlike x r.0
does_stays M four s e x r o d = (does_local M four s e x r (below_all s e x o) d).0

-- what it sends goes out from its process
pub sends_own : {Node : Type 0} (M : Machine Node) → HasFourLinks M → (s : Network Node) (e : Entry) (x : Own Node) (r : Own Node × List (ℕ × Token))
    → own s (process s.wires (length s.nodes) e) ≡ Some x → does M s.wires (length s.nodes) e x ≡ Some r → AllByRecursion (λ m. owner (length s.nodes) m.0 ≡ process s.wires (length s.nodes) e) r.1
sends_own M four s e x r o d = (does_local M four s e x r (below_all s e x o) d).1

-- ## The network after an entry

module _ {Node : Type 0} (M : Machine Node) (four : HasFourLinks M) (s : Network Node) (e : Entry) (t : Network Node) (S : Step M s e t) where
  pub step_alike : AreAlike S.was S.now
  step_alike = does_stays M four s e S.was (S.now, S.sends) S.own_was S.change

  pub step_sends : AllByRecursion (λ m. owner (length s.nodes) m.0 ≡ process s.wires (length s.nodes) e) S.sends
  step_sends = sends_own M four s e S.was (S.now, S.sends) S.own_was S.change

  -- what it takes comes in to its process
  pub step_takes : AllByRecursion (λ m. taker s m.0 ≡ process s.wires (length s.nodes) e) (takes s.wires (length s.nodes) e)
  step_takes = takes_own M s e S.was (S.now, S.sends) S.change

  pub step_lines : t.lines ≡ sent (has_wire s.wires) S.out S.sends
  step_lines = ap (λ u. u.lines) (sym S.makes) ∙ put-lines (record s { lines = sent (has_wire s.wires) S.out S.sends }) (process s.wires (length s.nodes) e) S.now

  -- the network with the lines that the entry leaves
  abbrev between : Network Node
  between = record s { lines = sent (has_wire s.wires) S.out S.sends }

  was_own : own between (process s.wires (length s.nodes) e) ≡ Some S.was
  was_own = own-lines s (sent (has_wire s.wires) S.out S.sends) (process s.wires (length s.nodes) e) ∙ S.own_was

  pub step_own_same : own t (process s.wires (length s.nodes) e) ≡ Some S.now
  step_own_same = ap (λ u. own u (process s.wires (length s.nodes) e)) (sym S.makes) ∙ own-put_same between (process s.wires (length s.nodes) e) S.was S.now was_own step_alike

  pub step_own_other : (q : ℕ) → q ≢ process s.wires (length s.nodes) e → own t q ≡ own s q
  step_own_other q apart = ap (λ u. own u q) (sym S.makes) ∙ own-put_other between (process s.wires (length s.nodes) e) q S.was S.now was_own step_alike apart
      ∙ own-lines s (sent (has_wire s.wires) S.out S.sends) q

  pub step_shape : SameShape s t
  step_shape = record {
    wires = ap (λ u. u.wires) (sym S.makes) ∙ put-wires between (process s.wires (length s.nodes) e) S.now;
    nodes = ap (λ u. length u.nodes) (sym S.makes) ∙ put-length between (process s.wires (length s.nodes) e) S.now;
    ports = ap (λ u. length u.ports) (sym S.makes) ∙ put-ports between (process s.wires (length s.nodes) e) S.was S.now was_own step_alike;
    lines = ap length step_lines ∙ length_sent (has_wire s.wires) S.out S.sends ∙ length_taken s.lines (takes s.wires (length s.nodes) e) S.out S.takes_out;
  }

-- an entry keeps the network's shape
pub next_shape : {Node : Type 0} (M : Machine Node) → HasFourLinks M → (s : Network Node) (e : Entry) (t : Network Node) → next M s e ≡ Some t → SameShape s t
next_shape M four s e t h = step_shape M four s e t (step_of M s e t h)

pub process_kept : {Node : Type 0} (s t : Network Node) → SameShape s t → (e : Entry) → process t.wires (length t.nodes) e ≡ process s.wires (length s.nodes) e
process_kept s t K e = process_same s t K.wires K.nodes e
