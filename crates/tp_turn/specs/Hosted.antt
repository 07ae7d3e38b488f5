-- The host's turn: what it does at the fronts of the lines that come to its ports, and why it leaves them.
use Rattle.std.specs.Prelude.{◌≡◌, ◌<◌, ℕ, zero, suc, ◌+◌, ◌*◌, Bool, true, false, ◌||◌, List, [], ◌∷◌, length, Option, Some, None, Result, Ok, Err}
use Rattle.tp_turn.specs.Lower.{AllByRecursion, Marker, t414, back, on_line, is_first, process, Act, acted, has_recorded_in, Refusal, JournalFull, StoreBroken, Memory, NothingToTake, SnapshotRunning, PortFull, BookValue, agreed, world_of, front_of, host_refusal}
use Rattle.tp_turn.specs.declared.left.Left.{Left}
use Rattle.tp_turn.specs.declared.left.Left.TheVariants as left
use Rattle.tp_turn.specs.declared.take.TheConstants.{TAKES}
use Rattle.tp_turn.specs.Books.{Grew}
use Rattle.tp_turn.specs.Turns.{Then, InOrder}
use Rattle.tp_turn.specs.Moments.{entries_among}
use Rattle.tp_turn.specs.Fronts.{front_act}

-- `acts` of the host were done, and nothing else: the entries among them are the host's. The agreed nodes and the frozen ones stay, and so
-- does which processes have recorded.
pub record HostAdded (acts : List Act) (old new : BookValue) : Type 0 where
  pub did : acted t414 (world_of old) acts ≡ Some (world_of new)
  pub grew : Grew (entries_among acts) old new
  pub own : AllByRecursion (λ e. process old.state.start.wires (length old.state.start.nodes) e ≡ length old.state.start.nodes) (entries_among acts)
  pub nodes : agreed new.state ≡ agreed old.state
  pub recorded : (process : ℕ) → has_recorded_in new.state.snapshot process ≡ has_recorded_in old.state.snapshot process
  pub frozen : new.frozen ≡ old.frozen

-- A part of the host's turn was done: it is seen as the book before it, its acts in order, and the book after it.
pub record HostDone (part : BookValue → List Act → BookValue → Type 0) (old new : BookValue) : Type 0 where
  pub acts : List Act
  pub added : HostAdded acts old new
  pub did : part old acts new

-- The port takes the token at the front of the line, or the Marker there.
pub record PortAtFront (line : ℕ) (s : BookValue) (acts : List Act) (t : BookValue) : Type 0 where
  pub are : acts ≡ front_act line (front_of s line) ∷ []
  pub added : HostAdded acts s t

-- Why a line is left:
-- - it is empty;
-- - or a Marker is at the front, and no snapshot runs in which the host has recorded;
-- - or a byte is at the front, and the port's outputs are full;
-- - or the journal is full.
abbrev pub PortIsLeft : ℕ → Left → BookValue → Type 0
PortIsLeft line left.NoWire b = ⊥
PortIsLeft line left.Enough b = ⊥
PortIsLeft line left.Empty b = on_line b.state.lines line ≡ []
PortIsLeft line left.Marked b =
    (is_first (on_line b.state.lines line) Marker ≡ true) × (has_recorded_in b.state.snapshot (length b.state.start.nodes) ≡ false)
PortIsLeft line left.NoFrame b = ⊥
PortIsLeft line left.PortFull b = host_refusal b line ≡ Some PortFull
PortIsLeft line left.JournalFull b = host_refusal b line ≡ Some JournalFull

-- A token is at the front that the port could take, and the turn ends. The store is broken, or memory is out, which is only told if nothing
-- else is in the way.
abbrev pub PortIsStop : ℕ → Refusal → BookValue → Type 0
PortIsStop line JournalFull b = ⊥
PortIsStop line StoreBroken b = host_refusal b line ≡ Some StoreBroken
PortIsStop line Memory b = host_refusal b line ≡ None
PortIsStop line NothingToTake b = ⊥
PortIsStop line SnapshotRunning b = ⊥
PortIsStop line PortFull b = ⊥

-- One act was done at the front of a line; or none, and the line is left, or the turn ends.
abbrev pub PortAnswers : ℕ → Result (Option Left) Refusal → BookValue → BookValue → Type 0
PortAnswers line (Ok None) s t = HostDone (PortAtFront line) s t
PortAnswers line (Ok (Some why)) s t = (t ≡ s) × PortIsLeft line why s
PortAnswers line (Err e) s t = (t ≡ s) × PortIsStop line e s

-- why `count` acts were done at the front of a line, and no more
abbrev pub PortLineEnds : ℕ → ℕ → Result Left Refusal → BookValue → Type 0
PortLineEnds line count (Ok left.Enough) b = count ≡ TAKES
PortLineEnds line count (Ok left.NoWire) b = ⊥
PortLineEnds line count (Ok left.Empty) b = (count < TAKES) × PortIsLeft line left.Empty b
PortLineEnds line count (Ok left.Marked) b = (count < TAKES) × PortIsLeft line left.Marked b
PortLineEnds line count (Ok left.NoFrame) b = ⊥
PortLineEnds line count (Ok left.PortFull) b = (count < TAKES) × PortIsLeft line left.PortFull b
PortLineEnds line count (Ok left.JournalFull) b = (count < TAKES) × PortIsLeft line left.JournalFull b
PortLineEnds line count (Err e) b = (count < TAKES) × PortIsStop line e b

-- Acts one after another at the front of a line: three, or fewer, if there is a reason why there are no more.
pub record OnPortLine (line : ℕ) (answer : Result Left Refusal) (s : BookValue) (acts : List Act) (t : BookValue) : Type 0 where
  pub count : ℕ
  pub did : InOrder (λ at. PortAtFront line) count s acts t
  pub ends : PortLineEnds line count answer t

-- What is done at the front of a line that may have no wire: without one, nothing.
abbrev pub OnPortWire : Option ℕ → Result Left Refusal → BookValue → List Act → BookValue → Type 0
OnPortWire None answer s acts t = (answer ≡ Ok left.NoWire) × (acts ≡ []) × (t ≡ s)
OnPortWire (Some line) answer s acts t = OnPortLine line answer s acts t

-- on the line that comes to a port
abbrev pub OnPort : ℕ → Result Left Refusal → BookValue → List Act → BookValue → Type 0
OnPort port answer s acts t = OnPortWire (back s.state.start (4 * length s.state.start.nodes + port)) answer s acts t

-- a line was left because the journal was full
abbrev pub is_for_room : Left → Bool
is_for_room left.NoWire = false
is_for_room left.Enough = false
is_for_room left.Empty = false
is_for_room left.Marked = false
is_for_room left.NoFrame = false
is_for_room left.PortFull = false
is_for_room left.JournalFull = true

-- One port more was left. The journal was full for one of the ports up to it, or for none.
pub record LeavesPort (before : Bool → BookValue → List Act → BookValue → Type 0) (port : ℕ) (full : Bool) (s : BookValue) (acts : List Act) (t : BookValue) : Type 0 where
  pub earlier : Bool
  pub why : Left
  pub is : full ≡ (earlier || is_for_room why)
  pub did : Then (before earlier) (OnPort port (Ok why)) s acts t

-- The host does what it may at a number of ports in order, and leaves each for a reason.
unfoldable pub LeavesPorts : ℕ → Bool → BookValue → List Act → BookValue → Type 0
LeavesPorts zero full s acts t = (full ≡ false) × (acts ≡ []) × (t ≡ s)
LeavesPorts (suc count) full s acts t = LeavesPort (LeavesPorts count) count full s acts t

-- Its turn ends at a port. What comes before in the turn was done whole, and nothing of what comes after.
pub record StopsAtPort (e : Refusal) (s : BookValue) (acts : List Act) (t : BookValue) : Type 0 where
  pub port : ℕ
  pub there : port < length s.state.ports
  pub full : Bool
  pub did : Then (LeavesPorts port full) (OnPort port (Err e)) s acts t

-- all ports were left, with `takes` takes
pub record TakesAtPorts (takes : ℕ) (s : BookValue) (acts : List Act) (t : BookValue) : Type 0 where
  pub many : takes ≡ length (entries_among acts)
  pub did : LeavesPorts (length s.state.ports) false s acts t

-- The host's turn, and what it answers. That the journal was full for a port is told at the end, once all ports were left.
abbrev pub HostTurns : Result ℕ Refusal → BookValue → List Act → BookValue → Type 0
HostTurns (Ok takes) s acts t = TakesAtPorts takes s acts t
HostTurns (Err JournalFull) s acts t = LeavesPorts (length s.state.ports) true s acts t
HostTurns (Err StoreBroken) s acts t = StopsAtPort StoreBroken s acts t
HostTurns (Err Memory) s acts t = StopsAtPort Memory s acts t
HostTurns (Err NothingToTake) s acts t = ⊥
HostTurns (Err SnapshotRunning) s acts t = ⊥
HostTurns (Err PortFull) s acts t = ⊥
