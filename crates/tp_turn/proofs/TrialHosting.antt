-- A turn of the host, as workers make it, is one of a trial.
use Rattle.std.proofs.Common.{◌≡◌, ℕ, zero, suc, ◌+◌, ◌*◌, ◌<◌, ◌≤◌, Bool, true, false, inl, inr, List, [], length, refl, sym, ap, subst, ◌∙◌, arith, add-one, Option, Some, None, get_or}
use Rattle.std.specs.Prelude.{◌||◌, Ok, Err}
use Rattle.tp_turn.proofs.Lower.{Marker, NUMBER_LIMIT, back, on_line, receiver, Act, BookValue, agreed, next_in_book, front_of, network_now, is_full_for, takeable_of, Refusal, Full, StoreBroken, Memory, NothingToTake, SnapshotRunning, NoRoom}
use Rattle.tp_turn.specs.Hosted.{PortAtFront, PortIsLeft, PortIsStop, PortLineEnds, OnPortLine, OnPortWire, OnPort, LeavesPorts, HostTurns, is_for_room}
use Rattle.tp_turn.specs.Turns.{InOrder}
use Rattle.tp_turn.specs.declared.left.Left.{Left}
use Rattle.tp_turn.specs.declared.left.Left.TheVariants.{NoWire, Enough, Empty, Marked, NoFrame, PortFull, JournalFull}
use Rattle.tp_turn.specs.declared.take.TheConstants.{TAKES}
use Rattle.tp_turn.specs.Lone.{IsLoneBook, Made, lone_value}
use Rattle.tp_turn.specs.TrialTurns.{StaysOnLine, TookSo, TookAll, TookBack, TookIn, IsHostTurn}
use Rattle.tp_turn.specs.declared.take.TheConstants.{TURN_ENTRIES}
use Rattle.tp_turn.proofs.Calm.{front_goes, took_goes, host_refused, host_not_full, host_not_broken, marker_stays, port_same, back_now}
use Rattle.tp_turn.proofs.Made.{Act as Part, took_none, took_more, took_all, made_more, order_none, order_next}

-- an act was done, and nothing else has changed
record Leads (act : Part) (most : ℕ) (a b : BookValue) : Type 0 where
  book : IsLoneBook b
  made : Made act most (lone_value a) (lone_value b)

-- ## Takes from a line

at_front : (line : ℕ) (a b : BookValue) (acts : List Act) → IsLoneBook a → PortAtFront line a acts b → Leads (TookSo line 1) 1 a b
at_front line a b acts L F =
    let G = front_goes a b L acts F.added.did F.added.grew (ap length F.added.nodes) line (front_of a line) F.are in
    record { book = G.book; made = took_goes a b line (front_of a line) G }

fronts : (line count : ℕ) (a b : BookValue) (acts : List Act) → IsLoneBook a → InOrder (λ at. PortAtFront line) count a acts b → Leads (TookSo line count) count a b
unfolding InOrder
fronts line zero a b acts L D = subst (Leads (TookSo line 0) 0 a) (sym D.1) (record { book = L; made = took_none (lone_value a) line })
fronts line (suc count) a b acts L D =
    let A = fronts line count a D.between D.first L D.one_did in
    let B = at_front line D.between b D.second A.book D.other_did in
    subst (λ n. Leads (TookSo line n) n a b) (add-one count) (record { book = B.book; made = took_more (lone_value a) (lone_value D.between) (lone_value b) line count A.made B.made })

full_so : (b : BookValue) → IsLoneBook b → (line : ℕ) → next_in_book b + 1 < NUMBER_LIMIT → PortIsLeft line PortFull b → StaysOnLine (network_now b) line
full_so b L line left h = elim (host_refused b L left line NoRoom h) [
  | inl none ↦ absurd (let is : NoRoom ≡ NothingToTake = none in cc)
  | inr full ↦ inr (ap (λ o. is_full_for o (get_or (on_line b.state.lines line) 0 Marker)) (sym (port_same b (receiver b.state.start.wires line))) ∙ full)
]

-- why it was left
left_so : (line : ℕ) (why : Left) (b : BookValue) → IsLoneBook b → next_in_book b + 1 < NUMBER_LIMIT → PortIsLeft line why b → StaysOnLine (network_now b) line
left_so line NoWire b L left h = absurd h
left_so line Enough b L left h = absurd h
left_so line Empty b L left h = inl (ap takeable_of h)
left_so line Marked b L left h = inl (marker_stays (on_line b.state.lines line) h.0)
left_so line NoFrame b L left h = absurd h
left_so line PortFull b L left h = full_so b L line left h
left_so line JournalFull b L left h = absurd (host_not_full b L left line h)

record Ends (line count : ℕ) (why : Left) (b : BookValue) : Type 0 where
  few : count ≤ TAKES
  all : count < TAKES → StaysOnLine (network_now b) line
  room : is_for_room why ≡ false

ends_so : (line count : ℕ) (why : Left) (b : BookValue) → IsLoneBook b → (count ≤ TAKES → next_in_book b + 1 < NUMBER_LIMIT) → PortLineEnds line count (Ok why) b → Ends line count why b
ends_so line count NoWire b L left h = absurd h
ends_so line count Enough b L left h = record { few = omega (arith, h); all = λ less. absurd (omega (arith, h, less)); room = refl }
ends_so line count Empty b L left h = record { few = omega (arith, h.0); all = λ less. left_so line Empty b L (left (omega (arith, less))) h.1; room = refl }
ends_so line count Marked b L left h = record { few = omega (arith, h.0); all = λ less. left_so line Marked b L (left (omega (arith, less))) h.1; room = refl }
ends_so line count NoFrame b L left h = absurd h
ends_so line count PortFull b L left h = record { few = omega (arith, h.0); all = λ less. left_so line PortFull b L (left (omega (arith, less))) h.1; room = refl }
ends_so line count JournalFull b L left h = absurd (host_not_full b L (left (omega (arith, h.0))) line h.1)

-- All that may be taken was taken, and the line wasn't left for lack of room in the journal.
record LeftBy (act : Part) (why : Left) (a b : BookValue) : Type 0 where
  leads : Leads act TAKES a b
  room : is_for_room why ≡ false

line_all : (line : ℕ) (why : Left) (a b : BookValue) (acts : List Act) → IsLoneBook a → next_in_book a + TAKES + 1 < NUMBER_LIMIT → OnPortLine line (Ok why) a acts b → LeftBy (TookAll line) why a b
line_all line why a b acts L left O =
    let A = fronts line O.count a b acts L O.did in
    let ends = ends_so line O.count why b A.book (λ few. omega (arith, few, left, A.made.counted, A.made.few)) O.ends in
    record { leads = record { book = A.book; made = took_all (lone_value a) (lone_value b) line O.count A.made ends.few ends.all }; room = ends.room }

-- ## Takes at ports

no_wire : (why : Left) → why ≡ NoWire → is_for_room why ≡ false
no_wire why is = ap is_for_room is

on_wire : (o : Option ℕ) (why : Left) (a b : BookValue) (acts : List Act) → IsLoneBook a → next_in_book a + TAKES + 1 < NUMBER_LIMIT → OnPortWire o (Ok why) a acts b → LeftBy (TookBack o) why a b
on_wire None why a b acts L left D =
    subst (LeftBy (TookBack None) why a) (sym D.2)
    (record {
      leads = record { book = L; made = record { entries = []; few = omega arith; counted = omega arith; did = (refl, refl) } };
      room = no_wire why (let is = D.0 in cc);
    })
on_wire (Some line) why a b acts L left D =
    let A = line_all line why a b acts L left D in
    record { leads = record { book = A.leads.book; made = record { entries = A.leads.made.entries; few = A.leads.made.few; counted = A.leads.made.counted; did = A.leads.made.did } }; room = A.room }

at_port : (port : ℕ) (why : Left) (a b : BookValue) (acts : List Act) → IsLoneBook a → next_in_book a + TAKES + 1 < NUMBER_LIMIT → OnPort port (Ok why) a acts b → LeftBy (TookIn (4 * 1 + port)) why a b
at_port port why a b acts L left D =
    let A = on_wire (back a.state.start (4 * length a.state.start.nodes + port)) why a b acts L left D in
    let to : back a.state.start (4 * length a.state.start.nodes + port) ≡ back (network_now a) (4 * 1 + port) =
    ap (λ n. back a.state.start (4 * n + port)) L.nodes ∙ back_now a L (4 * 1 + port) in
    record {
      leads = record {
        book = A.leads.book;
        made = record {
          entries = A.leads.made.entries;
          few = A.leads.made.few;
          counted = A.leads.made.counted;
          did = subst (λ o. TookBack o (network_now a) A.leads.made.entries (network_now b)) to A.leads.made.did;
        };
      };
      room = A.room;
    }

-- ports in order, if the journal was full for none
record Ports (n : ℕ) (full : Bool) (a b : BookValue) : Type 0 where
  leads : Leads (InOrder (λ p. TookIn (4 * 1 + p)) n) (TAKES * n) a b
  room : full ≡ false

ports : (n : ℕ) (full : Bool) (a b : BookValue) (acts : List Act) → IsLoneBook a → next_in_book a + TAKES * n + 1 < NUMBER_LIMIT → LeavesPorts n full a acts b → Ports n full a b
unfolding LeavesPorts
ports zero full a b acts L left D =
    subst (Ports 0 full a) (sym D.2)
    (record {
      leads = record { book = L; made = made_more (InOrder (λ p. TookIn (4 * 1 + p)) 0) 0 (TAKES * 0) (lone_value a) (lone_value a) (omega arith) (order_none (λ p. TookIn (4 * 1 + p)) (lone_value a)) };
      room = D.0;
    })
ports (suc n) full a b acts L left D =
    let A = ports n D.earlier a D.did.between D.did.first L (omega (arith, left)) D.did.one_did in
    let B = at_port n D.why D.did.between b D.did.second A.leads.book (omega (arith, left, A.leads.made.counted, A.leads.made.few)) D.did.other_did in
    record {
      leads = record {
        book = B.leads.book;
        made = order_next (λ p. TookIn (4 * 1 + p)) n (TAKES * n) TAKES (TAKES * suc n) (lone_value a) (lone_value D.did.between) (lone_value b) (omega arith) A.leads.made B.leads.made;
      };
      room = D.is ∙ ap (λ x. x || is_for_room D.why) A.room ∙ B.room;
    }

-- ## A whole turn

pub host_turned : (takes : ℕ) (a b : BookValue) (acts : List Act) → IsLoneBook a → next_in_book a + TURN_ENTRIES + 1 < NUMBER_LIMIT → HostTurns (Ok takes) a acts b
    → IsLoneBook b × Made IsHostTurn TURN_ENTRIES (lone_value a) (lone_value b)
host_turned takes a b acts L left D =
    let P = ports (length a.state.ports) false a b acts L (omega (arith, left, L.ports)) D.did in
    let is : (n : ℕ) → n ≡ 1 → InOrder (λ p. TookIn (4 * n + p)) (length a.state.ports) (network_now a) P.leads.made.entries (network_now b) =
    λ n nodes. subst (λ x. InOrder (λ p. TookIn (4 * x + p)) (length a.state.ports) (network_now a) P.leads.made.entries (network_now b)) (sym nodes) P.leads.made.did in (
      P.leads.book,
      record { entries = P.leads.made.entries; few = omega (arith, P.leads.made.few, L.ports); counted = P.leads.made.counted; did = is (length (agreed a.state)) L.many },
    )

-- ## A turn that fails

stop_so : (line : ℕ) (e : Refusal) (b : BookValue) → b.broken ≡ false → PortIsStop line e b → e ≡ Memory
stop_so line Full b whole h = absurd h
stop_so line StoreBroken b whole h = absurd (host_not_broken b whole line h)
stop_so line Memory b whole h = refl
stop_so line NothingToTake b whole h = absurd h
stop_so line SnapshotRunning b whole h = absurd h
stop_so line NoRoom b whole h = absurd h

wire_stop : (o : Option ℕ) (e : Refusal) (a b : BookValue) (acts : List Act) → b.broken ≡ false → OnPortWire o (Err e) a acts b → e ≡ Memory
wire_stop None e a b acts whole D = cc
wire_stop (Some line) e a b acts whole D = stop_so line e b whole D.ends.1

-- it can only be that memory is out
pub host_refused_so : (e : Refusal) (a b : BookValue) (acts : List Act) → IsLoneBook a → next_in_book a + TURN_ENTRIES + 1 < NUMBER_LIMIT → b.broken ≡ false → HostTurns (Err e) a acts b → e ≡ Memory
host_refused_so Full a b acts L left whole D = let P = ports (length a.state.ports) true a b acts L (omega (arith, left, L.ports)) D in let no = P.room in cc
host_refused_so StoreBroken a b acts L left whole D = wire_stop _ StoreBroken _ b _ whole D.did.other_did
host_refused_so Memory a b acts L left whole D = refl
host_refused_so NothingToTake a b acts L left whole D = absurd D
host_refused_so SnapshotRunning a b acts L left whole D = absurd D
host_refused_so NoRoom a b acts L left whole D = absurd D
