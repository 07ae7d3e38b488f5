-- What a node does at the front of a line, and why it leaves the line.
use Rattle.std.specs.Prelude.{◌≡◌, ◌<◌, ℕ, ◌+◌, ◌*◌, true, false, List, [], ◌∷◌, Option, Some, None, Result, Ok, Err}
use Rattle.tp_turn.specs.Lower.{Token, Data, Ack, Marker, Take, Link, back, on_line, is_first, receiver, took_ranges, LacksFrames, kept_behind, Act, Journal, Close, memory_kept, has_recorded_in, Refusal, JournalFull, StoreBroken, Memory, NothingToTake, SnapshotRunning, PortFull, BookValue, front_of, ready_refusal}
use Rattle.tp_turn.specs.declared.left.Left.{Left}
use Rattle.tp_turn.specs.declared.left.Left.TheVariants as left
use Rattle.tp_turn.specs.declared.take.TheConstants.{TAKES}
use Rattle.tp_turn.specs.Turns.{InOrder}
use Rattle.tp_turn.specs.Moments.{TurnMoment, Added, Done}

-- ## One act

-- what is done with the token at the front of a line: it is taken, or, if it is a Marker, the line is closed
abbrev pub front_act : ℕ → Token → Act
front_act line (Data byte) = Journal (Take line (Data byte))
front_act line Ack = Journal (Take line Ack)
front_act line Marker = Close line

-- That was done, and the node stays frozen as it was, or not frozen. The pages that the token was written to are shared no more, and all
-- others are as before.
pub record AtFront (number line : ℕ) (s : TurnMoment) (acts : List Act) (t : TurnMoment) : Type 0 where
  pub are : acts ≡ front_act line (front_of s.book line) ∷ []
  pub added : Added number t.node.live acts s.book t.book
  pub kept : t.node.frozen ≡ s.node.frozen
  pub link : ℕ
  pub goes : receiver s.book.state.start.wires line ≡ Some (Link number link)
  pub shared : memory_kept t.node ≡ kept_behind (memory_kept s.node) (took_ranges s.node.live link (front_of s.book line))

-- ## Why a line is left

-- The token at the front finds no frame, though the journal has room: the shared pages that it would be written to outnumber the free
-- frames.
pub record WantsFrame (number line : ℕ) (m : TurnMoment) : Type 0 where
  pub room : ready_refusal m.book line ≡ None
  pub link : ℕ
  pub goes : receiver m.book.state.start.wires line ≡ Some (Link number link)
  pub wants : LacksFrames (memory_kept m.node) (took_ranges m.node.live link (front_of m.book line))

-- Why a line is left:
-- - it is empty;
-- - or a Marker is at the front, and no snapshot runs in which the node has recorded;
-- - or the token at the front finds no frame;
-- - or the journal is full.
abbrev pub IsLeft : ℕ → ℕ → Left → TurnMoment → Type 0
IsLeft number line left.NoWire m = ⊥
IsLeft number line left.Enough m = ⊥
IsLeft number line left.Empty m = on_line m.book.state.lines line ≡ []
IsLeft number line left.Marked m =
    (is_first (on_line m.book.state.lines line) Marker ≡ true) × (has_recorded_in m.book.state.snapshot number ≡ false)
IsLeft number line left.NoFrame m = WantsFrame number line m
IsLeft number line left.PortFull m = ⊥
IsLeft number line left.JournalFull m = ready_refusal m.book line ≡ Some JournalFull

-- A token is at the front that can't be taken, and the turn ends. The store is broken, or memory is out, which is only told if nothing else
-- is in the way.
abbrev pub EndsTurn : ℕ → Refusal → BookValue → Type 0
EndsTurn line JournalFull b = ⊥
EndsTurn line StoreBroken b = ready_refusal b line ≡ Some StoreBroken
EndsTurn line Memory b = ready_refusal b line ≡ None
EndsTurn line NothingToTake b = ⊥
EndsTurn line SnapshotRunning b = ⊥
EndsTurn line PortFull b = ⊥

-- One act was done at the front of a line; or none, and the line is left, or the turn ends.
abbrev pub FrontAnswers : ℕ → ℕ → Result (Option Left) Refusal → TurnMoment → TurnMoment → Type 0
FrontAnswers number line (Ok None) s t = Done number (AtFront number line) s t
FrontAnswers number line (Ok (Some why)) s t = (t ≡ s) × IsLeft number line why s
FrontAnswers number line (Err e) s t = (t ≡ s) × EndsTurn line e s.book

-- ## A line in a turn

-- why `count` acts were done at the front of a line, and no more
abbrev pub LineEnds : ℕ → ℕ → ℕ → Result Left Refusal → TurnMoment → Type 0
LineEnds number line count (Ok left.Enough) m = count ≡ TAKES
LineEnds number line count (Ok left.NoWire) m = ⊥
LineEnds number line count (Ok left.Empty) m = (count < TAKES) × IsLeft number line left.Empty m
LineEnds number line count (Ok left.Marked) m = (count < TAKES) × IsLeft number line left.Marked m
LineEnds number line count (Ok left.NoFrame) m = (count < TAKES) × IsLeft number line left.NoFrame m
LineEnds number line count (Ok left.PortFull) m = ⊥
LineEnds number line count (Ok left.JournalFull) m = (count < TAKES) × IsLeft number line left.JournalFull m
LineEnds number line count (Err e) m = (count < TAKES) × EndsTurn line e m.book

-- Acts one after another at the front of a line: three, or fewer, if there is a reason why there are no more.
pub record OnLine (number line : ℕ) (answer : Result Left Refusal) (s : TurnMoment) (acts : List Act) (t : TurnMoment) : Type 0 where
  pub count : ℕ
  pub did : InOrder (λ at. AtFront number line) count s acts t
  pub ends : LineEnds number line count answer t

-- What is done at the front of a line that may have no wire: without one, nothing.
abbrev pub OnWire : ℕ → Option ℕ → Result Left Refusal → TurnMoment → List Act → TurnMoment → Type 0
OnWire number None answer s acts t = (answer ≡ Ok left.NoWire) × (acts ≡ []) × (t ≡ s)
OnWire number (Some line) answer s acts t = OnLine number line answer s acts t

-- on the line that comes in on a link
abbrev pub OnLink : ℕ → ℕ → Result Left Refusal → TurnMoment → List Act → TurnMoment → Type 0
OnLink number link answer s acts t = OnWire number (back s.book.state.start (4 * number + link)) answer s acts t
