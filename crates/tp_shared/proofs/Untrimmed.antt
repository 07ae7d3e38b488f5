-- The acts of a turn: a node records, a token is taken, a Marker is taken. None of them is a trim, and their entries are Takes.
use Rattle.std.proofs.Common.{◌≡◌, ℕ, zero, suc, Bool, true, false, cond, inl, inr, List, [], ◌∷◌, ◌++◌, ◌+◌, ◌*◌, length, refl, sym, subst, Option, Some, None}
use Rattle.std.specs.Prelude.{Result, Ok, Err}
use Rattle.tp_shared.proofs.Lower.{AllByRecursion, Token, Data, Ack, Marker, Run, Take, HostIn, Confirm, Turn, NodeState, Network, back, process, Act, Begin, Record, Journal, Close, Trim, is_trim, all_append, is_asked, BookValue, front_of, Refusal, JournalFull, StoreBroken, Memory, NothingToTake, SnapshotRunning, PortFull, Left, InOrder, TurnMoment, entries_among, front_act, AtFront, OnLine, OnWire, OnLink, Records, LeavesLink, Settles, EndsAtLink, Breaks, PortAtFront, OnPortLine, OnPortWire, OnPort, LeavesPorts, StopsAtPort, HostTurns}
use Rattle.tp_shared.specs.Entries.{AreTakes}

abbrev pub IsTurnAct : Act → Type 0
IsTurnAct Begin = ⊥
IsTurnAct (Record node) = Unit {0}
IsTurnAct (Journal (Run node count)) = ⊥
IsTurnAct (Journal (Take line token)) = Unit {0}
IsTurnAct (Journal (HostIn port byte)) = ⊥
IsTurnAct (Journal (Confirm port upto)) = ⊥
IsTurnAct (Journal (Turn node takes count)) = ⊥
IsTurnAct (Close line) = Unit {0}
IsTurnAct Trim = ⊥

abbrev pub AreTurnActs : List Act → Type 0
AreTurnActs = AllByRecursion IsTurnAct

-- ## What they are

pub untrimmed : (acts : List Act) → AreTurnActs acts → AllByRecursion (λ act. is_trim act ≡ false) acts
untrimmed [] all = tt
untrimmed (Begin ∷ acts) all = absurd all.0
untrimmed (Record node ∷ acts) all = (refl, untrimmed acts all.1)
untrimmed (Journal entry ∷ acts) all = (refl, untrimmed acts all.1)
untrimmed (Close line ∷ acts) all = (refl, untrimmed acts all.1)
untrimmed (Trim ∷ acts) all = absurd all.0

pub taken : (s : Network NodeState) (number : ℕ) (acts : List Act) → AreTurnActs acts → AllByRecursion (λ e. process s.wires (length s.nodes) e ≡ number) (entries_among acts) → AreTakes s number (entries_among acts)
taken s number [] all own = tt
taken s number (Begin ∷ acts) all own = absurd all.0
taken s number (Record node ∷ acts) all own = taken s number acts all.1 own
taken s number (Journal (Run node count) ∷ acts) all own = absurd all.0
taken s number (Journal (Take line token) ∷ acts) all own = (own.0, taken s number acts all.1 own.1)
taken s number (Journal (HostIn port byte) ∷ acts) all own = absurd all.0
taken s number (Journal (Confirm port upto) ∷ acts) all own = absurd all.0
taken s number (Journal (Turn node takes count) ∷ acts) all own = absurd all.0
taken s number (Close line ∷ acts) all own = taken s number acts all.1 own
taken s number (Trim ∷ acts) all own = absurd all.0

-- ## Parts in order

front_turns : (line : ℕ) (token : Token) → AreTurnActs (front_act line token ∷ [])
front_turns line (Data byte) = (tt, tt)
front_turns line Ack = (tt, tt)
front_turns line Marker = (tt, tt)

none_turns : (acts : List Act) → acts ≡ [] → AreTurnActs acts
none_turns acts e = subst AreTurnActs (sym e) tt

both_turn : (acts first second : List Act) → acts ≡ first ++ second → AreTurnActs first → AreTurnActs second → AreTurnActs acts
both_turn acts first second are one other = subst AreTurnActs (sym are) (all_append IsTurnAct first second one other)

order_turns : {S : Type 0} (part : ℕ → S → List Act → S → Type 0) → ((k : ℕ) (s t : S) (acts : List Act) → part k s acts t → AreTurnActs acts)
    → (count : ℕ) (s t : S) (acts : List Act) → InOrder part count s acts t → AreTurnActs acts
unfolding InOrder
order_turns part each zero s t acts D = none_turns acts D.0
order_turns part each (suc count) s t acts D = both_turn acts D.first D.second D.are (order_turns part each count s D.between D.first D.one_did) (each count D.between t D.second D.other_did)

-- ## A node

line_turns : (number line : ℕ) (answer : Result Left Refusal) (s t : TurnMoment) (acts : List Act) → OnLine number line answer s acts t → AreTurnActs acts
line_turns number line answer s t acts D =
    order_turns (λ at. AtFront number line) (λ k a b did A. subst AreTurnActs (sym A.are) (front_turns line (front_of a.book line))) D.count s t acts D.did

wire_turns : (number : ℕ) (o : Option ℕ) (answer : Result Left Refusal) (s t : TurnMoment) (acts : List Act) → OnWire number o answer s acts t → AreTurnActs acts
wire_turns number None answer s t acts D = none_turns acts D.1
wire_turns number (Some line) answer s t acts D = line_turns number line answer s t acts D

link_turns : (number link : ℕ) (answer : Result Left Refusal) (s t : TurnMoment) (acts : List Act) → OnLink number link answer s acts t → AreTurnActs acts
link_turns number link answer s t acts D = wire_turns number (back s.book.state.start (4 * number + link)) answer s t acts D

record_turns : (number : ℕ) (asked : Bool) → AreTurnActs (cond asked (Record number ∷ []) [])
record_turns number true = (tt, tt)
record_turns number false = tt

records_turn : (number : ℕ) (s t : TurnMoment) (acts : List Act) → Records number s acts t → AreTurnActs acts
records_turn number s t acts R = subst AreTurnActs (sym R.are) (record_turns number (is_asked s.book.state.snapshot number))

links_turn : (number count : ℕ) (s t : TurnMoment) (acts : List Act) → InOrder (λ link. LeavesLink number link) count s acts t → AreTurnActs acts
links_turn number count s t acts D = order_turns (λ link. LeavesLink number link) (λ k a b did L. link_turns number k (Ok L.why) a b did L.did) count s t acts D

pub settles_turn : (number : ℕ) (s t : TurnMoment) (acts : List Act) → Settles number s acts t → AreTurnActs acts
settles_turn number s t acts D = both_turn acts D.first D.second D.are (records_turn number s D.between D.first D.one_did) (links_turn number 4 D.between t D.second D.other_did)

stops_turn : (number : ℕ) (e : Refusal) (s t : TurnMoment) (acts : List Act) → EndsAtLink number e s acts t → AreTurnActs acts
stops_turn number e s t acts D =
    let d = D.did in
    let r = d.other_did in
    both_turn acts d.first d.second d.are (records_turn number s d.between d.first d.one_did)
    (both_turn d.second r.first r.second r.are (links_turn number D.link d.between r.between r.first r.one_did) (link_turns number D.link (Err e) r.between t r.second r.other_did))

pub breaks_turn : (number : ℕ) (e : Refusal) (s t : TurnMoment) (acts : List Act) → Breaks number e s acts t → AreTurnActs acts
breaks_turn number e s t acts (inl D) = stops_turn number e s t acts D
breaks_turn number e s t acts (inr D) = settles_turn number s t acts D.did

-- ## The host

port_line_turns : (line : ℕ) (answer : Result Left Refusal) (s t : BookValue) (acts : List Act) → OnPortLine line answer s acts t → AreTurnActs acts
port_line_turns line answer s t acts D =
    order_turns (λ at. PortAtFront line) (λ k a b did A. subst AreTurnActs (sym A.are) (front_turns line (front_of a line))) D.count s t acts D.did

port_wire_turns : (o : Option ℕ) (answer : Result Left Refusal) (s t : BookValue) (acts : List Act) → OnPortWire o answer s acts t → AreTurnActs acts
port_wire_turns None answer s t acts D = none_turns acts D.1
port_wire_turns (Some line) answer s t acts D = port_line_turns line answer s t acts D

port_turns : (port : ℕ) (answer : Result Left Refusal) (s t : BookValue) (acts : List Act) → OnPort port answer s acts t → AreTurnActs acts
port_turns port answer s t acts D = port_wire_turns (back s.state.start (4 * length s.state.start.nodes + port)) answer s t acts D

ports_turn : (count : ℕ) (full : Bool) (s t : BookValue) (acts : List Act) → LeavesPorts count full s acts t → AreTurnActs acts
unfolding LeavesPorts
ports_turn zero full s t acts D = none_turns acts D.1
ports_turn (suc count) full s t acts D =
    let d = D.did in
    both_turn acts d.first d.second d.are (ports_turn count D.earlier s d.between d.first d.one_did) (port_turns count (Ok D.why) d.between t d.second d.other_did)

stops_port : (e : Refusal) (s t : BookValue) (acts : List Act) → StopsAtPort e s acts t → AreTurnActs acts
stops_port e s t acts D =
    let d = D.did in
    both_turn acts d.first d.second d.are (ports_turn D.port D.full s d.between d.first d.one_did) (port_turns D.port (Err e) d.between t d.second d.other_did)

pub host_turns : (r : Result ℕ Refusal) (s t : BookValue) (acts : List Act) → HostTurns r s acts t → AreTurnActs acts
host_turns (Ok takes) s t acts D = ports_turn (length s.state.ports) false s t acts D.did
host_turns (Err JournalFull) s t acts D = ports_turn (length s.state.ports) true s t acts D
host_turns (Err StoreBroken) s t acts D = stops_port StoreBroken s t acts D
host_turns (Err Memory) s t acts D = stops_port Memory s t acts D
host_turns (Err NothingToTake) s t acts D = absurd D
host_turns (Err SnapshotRunning) s t acts D = absurd D
host_turns (Err PortFull) s t acts D = absurd D
