-- A node's turn that is one entry. The node records and closes at Markers, receives, and runs. The book gets the entry once the node has
-- run.
use Rattle.std.specs.Prelude.{◌≡◌, ◌≤◌, ◌⊎◌, ℕ, ◌+◌, ◌*◌, Bool, true, false, ◌&&◌, if◌then◌else◌, List, [], ◌∷◌, length, Option, Some, None, Result, Ok, Err}
use Rattle.tp_turn.specs.Lower.{MAX_STEPS, Token, Marker, Received, t414, back, on_line, is_first, Act, Close, node_ranges, kept_behind_steps, LacksFrames, by_link, turned, IsReceived, turn_acts, IsNodeOfBytes, NodeContents, memory_kept, IsWhy, has_recorded_in, Refusal, JournalFull, StoreBroken, BookValue, world_of, with_run, else_if, reserve_refusal, take_refusal, IsAnswer, takes_refusal}
use Rattle.tp_turn.specs.declared.receiving.Taken.{Taken}
use Rattle.tp_turn.specs.declared.stages.Turn.{Turn}
use Rattle.tp_turn.specs.Turns.{Then, InOrder}
use Rattle.tp_turn.specs.Moments.{TurnMoment, IsNodeOf, Added, Done}
use Rattle.tp_turn.specs.Settled.{Records}
use Rattle.tp_turn.specs.Receiving.{Receives}

-- ## At Markers

-- a line is closed if a Marker is at its front and the node has recorded
abbrev pub close_acts : BookValue → ℕ → Option ℕ → List Act
close_acts b number None = []
close_acts b number (Some line) =
    if is_first (on_line b.state.lines line) Marker && has_recorded_in b.state.snapshot number then Close line ∷ [] else []

-- The line that comes in on a link is closed if it can be, and the node stays as it is. The tokens after the Marker stay there.
pub record ClosesFront (number link : ℕ) (s : TurnMoment) (acts : List Act) (t : TurnMoment) : Type 0 where
  pub are : acts ≡ close_acts s.book number (back s.book.state.start (4 * number + link))
  pub added : Added number t.node.live acts s.book t.book
  pub node : t.node ≡ s.node

-- The node records if it is asked to, and then the lines on links 0 to 3 are closed if they can be.
abbrev pub Closes : ℕ → TurnMoment → List Act → TurnMoment → Type 0
Closes number = Then (Records number) (InOrder (λ link. ClosesFront number link) 4)

-- ## A turn is opened

-- Why neither a turn can be reserved nor, for a node that has recorded, what it takes: a broken store, or a full journal. A node that has
-- recorded may use the room that is kept for snapshots.
abbrev pub turn_refusal : BookValue → Bool → Option Refusal
turn_refusal b recorded = take_refusal b recorded (else_if None b.broken StoreBroken)

-- the turn is reserved, and the node received all that was there
pub record IsOpenWhole (number : ℕ) (taken : Taken) (s t : TurnMoment) : Type 0 where
  pub between : TurnMoment
  pub closed : Done number (Closes number) s between
  pub free : reserve_refusal between.book ≡ None
  pub book : t.book ≡ with_run between.book number
  pub received : Receives between.book true number taken.takes between.node taken.sent.items t.node

-- nothing could be reserved, and nothing was received
pub record IsUnreserved (number : ℕ) (e : Refusal) (s : TurnMoment) (acts : List Act) (t : TurnMoment) : Type 0 where
  pub answer : IsAnswer {A = Unit {0}} (turn_refusal s.book (has_recorded_in s.book.state.snapshot number)) (Err e)
  pub are : acts ≡ []
  pub same : t ≡ s

-- The journal is full for a turn, and that is the answer. The node has recorded, and received what the running snapshot needs: one entry of
-- no steps; none if there was nothing.
pub record TakesNeeded (number : ℕ) (e : Refusal) (s : TurnMoment) (acts : List Act) (t : TurnMoment) : Type 0 where
  pub answer : e ≡ JournalFull
  pub full : reserve_refusal s.book ≡ Some JournalFull
  pub recorded : has_recorded_in s.book.state.snapshot number ≡ true
  pub free : takes_refusal s.book ≡ None
  pub takes : List Received
  pub sent : List (ℕ × Token)
  pub received : Receives s.book false number takes s.node sent t.node
  pub are : acts ≡ turn_acts number takes 0
  pub added : Added number t.node.live acts s.book t.book

-- how a turn ends that can't be reserved
abbrev pub EndsWhole : ℕ → Refusal → TurnMoment → List Act → TurnMoment → Type 0
EndsWhole number e s acts t = IsUnreserved number e s acts t ⊎ TakesNeeded number e s acts t

-- The turn ended when it was to be reserved. Nothing ran.
abbrev pub BreaksWhole : ℕ → Refusal → TurnMoment → List Act → TurnMoment → Type 0
BreaksWhole number e = Then (Closes number) (EndsWhole number e)

abbrev pub OpensWhole : ℕ → Result Taken Refusal → TurnMoment → TurnMoment → Type 0
OpensWhole number (Ok taken) s t = IsOpenWhole number taken s t
OpensWhole number (Err e) s t = Done number (BreaksWhole number e) s t

-- ## The entry

-- Since the book agreed on the node, it took these tokens, which are at the front of its lines, made `count` steps, and sent `tokens` for
-- all of it. It has an image.
pub record HasTurnedOn (b : BookValue) (number : ℕ) (takes : List Received) (count : ℕ) (tokens : List (ℕ × Token)) (node : NodeContents) : Type 0 where
  pub before : NodeContents
  pub is : IsNodeOf b number before
  pub received : IsReceived (world_of b).live number takes
  pub few : count ≤ MAX_STEPS
  pub made : turned t414 (by_link 0 takes) count before.live ≡ Some (node.live, tokens)
  pub kept : node.frozen ≡ before.frozen
  pub image : IsNodeOfBytes node.live

-- ## A whole turn

-- The node received all that was there and ran on as far as it may, and that is one entry. If nothing was there, the entry is a Run;
-- without a step, too, there is none.
pub record TurnsOnce (number quantum : ℕ) (turn : Turn) (s : TurnMoment) (acts : List Act) (t : TurnMoment) : Type 0 where
  pub takes : List Received
  pub sent : List (ℕ × Token)
  pub ahead : NodeContents
  pub received : Receives s.book true number takes s.node sent ahead
  pub many : turn.takes ≡ length (by_link 0 takes)
  pub are : acts ≡ turn_acts number takes turn.ran.count
  pub added : Added number t.node.live acts s.book t.book
  pub max : turn.ran.max ≡ quantum
  pub why : IsWhy turn.ran.why quantum turn.ran.count (LacksFrames (memory_kept t.node) (node_ranges t.node.live)) t.node.live
  pub kept : t.node.frozen ≡ s.node.frozen
  pub shared : memory_kept t.node ≡ kept_behind_steps turn.ran.count ahead.live (memory_kept ahead)

-- it closed at Markers and turned; or it ended before it turned
abbrev pub TurnsWhole : ℕ → ℕ → Result Turn Refusal → TurnMoment → List Act → TurnMoment → Type 0
TurnsWhole number quantum (Ok turn) = Then (Closes number) (TurnsOnce number quantum turn)
TurnsWhole number quantum (Err e) = BreaksWhole number e
