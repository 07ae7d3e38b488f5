-- What the host does at the fronts of lines, one act after another.
use Rattle.std.proofs.Common.{◌≡◌, ℕ, ◌+◌, ◌*◌, ◌<◌, Bool, true, false, List, [], ◌∷◌, ◌++◌, get_or, length, refl, sym, ap, subst, ◌∙◌, arith, add-one, Option, Some, None, slice_get}
use Rattle.std.specs.Prelude.{◌-◌, ◌||◌, Result, Ok, Err}
use Rattle.tp_turn.proofs.Lower.{AllByRecursion, append-nil, Token, Data, Ack, Marker, AtPort, Take, NodeState, Network, Port, receiver, back, on_line, is_first, t414, process, port_took, is_marker, Act, Journal, Close, happens, all_append, NodeContents, has_recorded_in, BookValue, agreed, world_of, next_in_book, front_of, HostTook, after_close, Refusal, Full, StoreBroken, Memory, NothingToTake, SnapshotRunning, NoRoom, one_act, no_act}
use Rattle.tp_turn.specs.Books.{Grew}
use Rattle.tp_turn.specs.Turns.{Then, InOrder}
use Rattle.tp_turn.specs.Moments.{IsNodeOf, entries_among}
use Rattle.tp_turn.specs.Fronts.{front_act}
use Rattle.tp_turn.specs.Hosted.{HostAdded, HostDone, PortAtFront, PortIsLeft, PortIsStop, PortAnswers, PortLineEnds, OnPortLine, OnPortWire, OnPort, LeavesPorts, StopsAtPort, HostTurns, is_for_room}
use Rattle.tp_turn.specs.declared.left.Left.{Left}
use Rattle.tp_turn.specs.declared.left.Left.TheVariants.{NoWire, Enough, Empty, Marked, NoFrame, PortFull, JournalFull}
use Rattle.tp_turn.specs.declared.take.TheConstants.{TAKES}
use Rattle.tp_turn.proofs.Grown.{grew_none, grew_more, grew_next}
use Rattle.tp_turn.proofs.Adding.{acted_more, entries_more}
use Rattle.tp_turn.proofs.Fronted.{front_takes, front_marker, collected_recorded, closed_recorded, close_agreed}

-- ## Acts of the host

pub host_none : (b : BookValue) → HostAdded [] b b
host_none b = record { did = no_act (world_of b); grew = grew_none b; own = tt; nodes = refl; recorded = λ process. refl; frozen = refl }

pub host_more : (first second : List Act) (a b c : BookValue) → HostAdded first a b → HostAdded second b c → HostAdded (first ++ second) a c
host_more first second a b c A B = record {
  did = acted_more (world_of a) (world_of b) (world_of c) first second A.did B.did;
  grew = subst (λ es. Grew es a c) (sym (entries_more first second)) (grew_more (entries_among first) (entries_among second) a b c A.grew B.grew);
  own = subst (AllByRecursion (λ e. process a.state.start.wires (length a.state.start.nodes) e ≡ length a.state.start.nodes)) (sym (entries_more first second))
      (all_append (λ e. process a.state.start.wires (length a.state.start.nodes) e ≡ length a.state.start.nodes) (entries_among first) (entries_among second) A.own
      (subst (λ s. AllByRecursion (λ e. process s.wires (length s.nodes) e ≡ length s.nodes) (entries_among second)) A.grew.start B.own));
  nodes = B.nodes ∙ A.nodes;
  recorded = λ process. B.recorded process ∙ A.recorded process;
  frozen = B.frozen ∙ A.frozen;
}

pub host_then : (one other : BookValue → List Act → BookValue → Type 0) (a b c : BookValue) → HostDone one a b → HostDone other b c → HostDone (Then one other) a c
host_then one other a b c A B = record {
  acts = A.acts ++ B.acts;
  added = host_more A.acts B.acts a b c A.added B.added;
  did = record { between = b; first = A.acts; second = B.acts; are = refl; one_did = A.did; other_did = B.did };
}

pub host_order_none : (part : ℕ → BookValue → List Act → BookValue → Type 0) (b : BookValue) → HostDone (InOrder part 0) b b
unfolding InOrder
host_order_none part b = record { acts = []; added = host_none b; did = (refl, refl) }

pub host_order_more : (part : ℕ → BookValue → List Act → BookValue → Type 0) (count : ℕ) (a b c : BookValue) → HostDone (InOrder part count) a b → HostDone (part count) b c → HostDone (InOrder part (count + 1)) a c
unfolding InOrder
host_order_more part count a b c A B = subst (λ n. HostDone (InOrder part n) a c) (sym (add-one count)) (host_then (InOrder part count) (part count) a b c A B)

pub ports_none : (b : BookValue) → HostDone (LeavesPorts 0 false) b b
unfolding LeavesPorts
ports_none b = record { acts = []; added = host_none b; did = (refl, refl, refl) }

pub ports_more : (count : ℕ) (earlier full : Bool) (why : Left) (a b c : BookValue) → full ≡ (earlier || is_for_room why) → HostDone (LeavesPorts count earlier) a b → HostDone (OnPort count (Ok why)) b c
    → HostDone (LeavesPorts (count + 1) full) a c
unfolding LeavesPorts
ports_more count earlier full why a b c is A B =
    let both = host_then (LeavesPorts count earlier) (OnPort count (Ok why)) a b c A B in
    subst (λ n. HostDone (LeavesPorts n full) a c) (sym (add-one count))
    (record { acts = both.acts; added = both.added; did = record { earlier = earlier; why = why; is = is; did = both.did } })

-- ## One act

take_own : (s : Network NodeState) (line port : ℕ) (token : Token) → receiver s.wires line ≡ Some (AtPort port) → process s.wires (length s.nodes) (Take line token) ≡ length s.nodes
unfolding process
take_own s line port token goes = rw goes refl

-- a port takes no Marker
port_plain : (token : Token) (port : Port) (after : Port × List Token) → port_took token port ≡ Some after → is_marker token ≡ false
port_plain (Data byte) port after e = refl
port_plain Ack port after e = refl
port_plain Marker port after e = cc

pub port_taken : (b new : BookValue) (line port : ℕ) → receiver b.state.start.wires line ≡ Some (AtPort port) → (H : HostTook b new line) → agreed new.state ≡ agreed b.state
    → happens t414 (world_of b) (Journal (Take line (front_of b line))) ≡ Some (world_of new) → HostDone (PortAtFront line) b new
port_taken b new line port goes H nodes act =
    let added : HostAdded (Journal (Take line (front_of b line)) ∷ []) b new =
    record {
      did = one_act (world_of b) (world_of new) (Journal (Take line (front_of b line))) act;
      grew = subst (Grew (Take line (front_of b line) ∷ []) b) (sym H.is)
          (record { start = refl; entries_are = refl; numbers = refl; base = refl; runs = refl; ready = refl; broken = refl; room = refl; history = refl; generation = refl; floor = refl; form = refl });
      own = (take_own b.state.start line port (front_of b line) goes, tt);
      nodes = nodes;
      recorded = λ process. ap (λ x. has_recorded_in x.state.snapshot process) H.is ∙ collected_recorded b.state.snapshot _ process _;
      frozen = ap (λ x. x.frozen) H.is;
    } in
    record {
      acts = Journal (Take line (front_of b line)) ∷ [];
      added = added;
      did = record { are = ap (λ a. a ∷ []) (sym (front_takes line (front_of b line) (port_plain (front_of b line) H.before H.after H.took))); added = added };
    }

pub port_closed : (b new : BookValue) (line : ℕ) → new ≡ after_close b line → is_first (on_line b.state.lines line) Marker ≡ true → happens t414 (world_of b) (Close line) ≡ Some (world_of new) → HostDone (PortAtFront line) b new
port_closed b new line is first act =
    let added : HostAdded (Close line ∷ []) b new =
    record {
      did = one_act (world_of b) (world_of new) (Close line) act;
      grew = subst (Grew [] b) (sym is)
          (record { start = refl; entries_are = sym (append-nil b.state.entries); numbers = sym (append-nil b.numbers); base = refl; runs = refl; ready = refl; broken = refl; room = refl; history = sym (append-nil b.history); generation = refl; floor = refl; form = refl });
      own = tt;
      nodes = ap (λ x. agreed x.state) is ∙ close_agreed b line;
      recorded = λ process. ap (λ x. has_recorded_in x.state.snapshot process) is ∙ closed_recorded b.state.snapshot line process;
      frozen = ap (λ x. x.frozen) is;
    } in
    record {
      acts = Close line ∷ [];
      added = added;
      did = record { are = ap (λ token. front_act line token ∷ []) (sym (front_marker (on_line b.state.lines line) first)); added = added };
    }

-- ## A line

pub port_none : (line : ℕ) (o : Option Left) (s t : BookValue) → o ≡ None → PortAnswers line (Ok o) s t → HostDone (PortAtFront line) s t
port_none line o s t e h = subst (λ o. PortAnswers line (Ok o) s t) e h

pub port_some : (line : ℕ) (o : Option Left) (why : Left) (s t : BookValue) → o ≡ Some why → PortAnswers line (Ok o) s t → (t ≡ s) × PortIsLeft line why s
port_some line o why s t e h = subst (λ o. PortAnswers line (Ok o) s t) e h

ends_left : (line count : ℕ) (why : Left) (b : BookValue) → count < TAKES → PortIsLeft line why b → PortLineEnds line count (Ok why) b
ends_left line count NoWire b few h = absurd h
ends_left line count Enough b few h = absurd h
ends_left line count Empty b few h = (few, h)
ends_left line count Marked b few h = (few, h)
ends_left line count NoFrame b few h = absurd h
ends_left line count PortFull b few h = (few, h)
ends_left line count JournalFull b few h = (few, h)

module _ (line count : ℕ) (a b : BookValue) (D : HostDone (InOrder (λ at. PortAtFront line) count) a b) where
  pub port_left : (why : Left) (c : BookValue) → c ≡ b → count < TAKES → PortIsLeft line why b → HostDone (OnPortLine line (Ok why)) a c
  port_left why c same few h =
      subst (HostDone (OnPortLine line (Ok why)) a) (sym same)
      (record { acts = D.acts; added = D.added; did = record { count = count; did = D.did; ends = ends_left line count why b few h } })

  pub port_stops : (e : Refusal) (c : BookValue) → c ≡ b → count < TAKES → PortIsStop line e b → HostDone (OnPortLine line (Err e)) a c
  port_stops e c same few h =
      subst (HostDone (OnPortLine line (Err e)) a) (sym same)
      (record { acts = D.acts; added = D.added; did = record { count = count; did = D.did; ends = (few, h) } })

  pub port_enough : count ≡ TAKES → HostDone (OnPortLine line (Ok Enough)) a b
  port_enough all = record { acts = D.acts; added = D.added; did = record { count = count; did = D.did; ends = all } }

pub port_wired : (port line : ℕ) (answer : Result Left Refusal) (a b : BookValue) → back a.state.start (4 * length a.state.start.nodes + port) ≡ Some line → HostDone (OnPortLine line answer) a b
    → HostDone (OnPort port answer) a b
port_wired port line answer a b to D = record { acts = D.acts; added = D.added; did = subst (λ o. OnPortWire o answer a D.acts b) (sym to) D.did }

pub port_unwired : (port : ℕ) (a : BookValue) → back a.state.start (4 * length a.state.start.nodes + port) ≡ None → HostDone (OnPort port (Ok NoWire)) a a
port_unwired port a to = record { acts = []; added = host_none a; did = subst (λ o. OnPortWire o (Ok NoWire) a [] a) (sym to) (refl, refl, refl) }

-- ## A whole turn

pub host_takes : (takes : ℕ) (a b : BookValue) → HostDone (LeavesPorts (length a.state.ports) false) a b → takes ≡ next_in_book b - next_in_book a → HostDone (HostTurns (Ok takes)) a b
host_takes takes a b D many = record { acts = D.acts; added = D.added; did = record { many = omega (arith, many, grew_next (entries_among D.acts) a b D.added.grew); did = D.did } }

pub host_full : (a b : BookValue) → HostDone (LeavesPorts (length a.state.ports) true) a b → HostDone (HostTurns (Err Full)) a b
host_full a b D = record { acts = D.acts; added = D.added; did = D.did }

-- what ends the turn at a line is neither of the other refusals
stops_as : (e : Refusal) (line : ℕ) (b s t : BookValue) (acts : List Act) → PortIsStop line e b → StopsAtPort e s acts t → HostTurns (Err e) s acts t
stops_as Full line b s t acts h S = absurd h
stops_as StoreBroken line b s t acts h S = S
stops_as Memory line b s t acts h S = S
stops_as NothingToTake line b s t acts h S = absurd h
stops_as SnapshotRunning line b s t acts h S = absurd h
stops_as NoRoom line b s t acts h S = absurd h

stop_of : (o : Option ℕ) (e : Refusal) (s t : BookValue) (acts : List Act) → OnPortWire o (Err e) s acts t → (line : ℕ) × PortIsStop line e t
stop_of None e s t acts h = cc
stop_of (Some line) e s t acts D = (line, D.ends.1)

pub host_stops : (port : ℕ) (full : Bool) (e : Refusal) (a b c : BookValue) → port < length a.state.ports → HostDone (LeavesPorts port full) a b → HostDone (OnPort port (Err e)) b c → HostDone (HostTurns (Err e)) a c
host_stops port full e a b c there A B =
    let both = host_then (LeavesPorts port full) (OnPort port (Err e)) a b c A B in
    let why = stop_of (back b.state.start (4 * length b.state.start.nodes + port)) e b c B.acts B.did in
    record {
      acts = both.acts;
      added = both.added;
      did = stops_as e why.0 c a c both.acts why.1 (record { port = port; there = there; full = full; did = both.did });
    }

-- ## The nodes

pub nodes_stay : (number : ℕ) (n : NodeContents) (acts : List Act) (a b : BookValue) → HostAdded acts a b → IsNodeOf a number n → IsNodeOf b number n
nodes_stay number n acts a b A N = record {
  there = ap (λ ns. slice_get ns number) A.nodes ∙ N.there;
  image = N.image;
  recorded = λ some. A.recorded number ∙ N.recorded some;
  kept = λ here its h t. N.kept here its h (ap (λ xs. get_or xs number None) (sym A.frozen) ∙ t);
}
