-- What a turn does to a seat.
use Rattle.std.specs.Prelude.{◌≡◌, ◌<◌, ◌≤◌, ◌⊎◌, ℕ, List, [], ◌∷◌, ◌++◌, length, Option, Some, None, Ok, Err}
use Rattle.tp_work.specs.Lower.{Entry, NodeState, Network, RunEnd, Refusal}
use Rattle.tp_book.specs.declared.refusal.Refusal.TheVariants as refusal
use Rattle.tp_work.specs.Lower.{answer, Numbers, Answer, AreTakes, CountedTakes, TookAtOnce, Gained, InHand, NodeTurned, TurnMade, TurnBrokenOff, HostTurnMade}
use Rattle.tp_work.specs.declared.fault.TurnFault.{TurnFault}
use Rattle.tp_work.specs.declared.fault.TurnFault.TheVariants.{Empty, JournalFull, StoreBroken, Memory}
use Rattle.tp_work.specs.declared.turn.Turn.{Turn}

-- A node of the network took and ran as the turn says, or the host took the number of tokens that it says. The seat has the slips of what
-- was journalled and no others, after all that it had.
abbrev pub TurnedAs : Network NodeState → ℕ → ℕ → ℕ → Option RunEnd → List (ℕ × Entry) → List (ℕ × Entry) → Type 0
TurnedAs start quantum process takes (Some ran) old new =
    (process < length start.nodes) × NodeTurned start process quantum (record { taken = takes; ran = ran }) old new
TurnedAs start quantum process takes None old new =
    (process ≡ length start.nodes) × Gained (CountedTakes start process takes) old new

abbrev pub Turned : Network NodeState → ℕ → Turn → List (ℕ × Entry) → List (ℕ × Entry) → Type 0
Turned start quantum turn old new = TurnedAs start quantum turn.process turn.takes turn.ran old new

-- what a process took before its turn failed: an entry for each token; or, of a node, one for all
abbrev pub TookBefore : Network NodeState → ℕ → List Entry → Type 0
TookBefore start process entries = AreTakes start process entries ⊎ ((process < length start.nodes) × TookAtOnce process entries)

-- Some process took tokens before its turn failed, and the seat has the slips of their entries.
pub record BrokenOff (start : Network NodeState) (old new : List (ℕ × Entry)) : Type 0 where
  pub process : ℕ
  pub there : process ≤ length start.nodes
  pub took : Gained (TookBefore start process) old new

-- After `Empty` the seat is as it was; else a turn was broken off.
abbrev pub Refused : Network NodeState → TurnFault → List (ℕ × Entry) → List (ℕ × Entry) → Type 0
Refused start Empty old new = new ≡ old
Refused start JournalFull old new = BrokenOff start old new
Refused start StoreBroken old new = BrokenOff start old new
Refused start Memory old new = BrokenOff start old new

-- the fault of a turn that the book refused
abbrev pub turn_fault : Refusal → TurnFault
turn_fault refusal.JournalFull = JournalFull
turn_fault refusal.StoreBroken = StoreBroken
turn_fault refusal.Memory = Memory
turn_fault refusal.NothingToTake = Memory
turn_fault refusal.SnapshotRunning = Memory
turn_fault refusal.PortFull = Memory

-- ## Whose turn it was, and how it went

-- The queue was asked once, and handed out this number, or `None`.
abbrev pub Handed : Numbers → Option ℕ → List Answer → List Answer → Type 0
Handed queue number old new = new ≡ old ++ answer queue number ∷ []

-- how a turn went, in the books that were seen: a node's, which ran, or the host's
abbrev pub WentAs : Network NodeState → ℕ → ℕ → ℕ → Option RunEnd → InHand → InHand → Type 0
WentAs start quantum process takes (Some ran) old new = TurnMade start process quantum (record { taken = takes; ran = ran }) old new
WentAs start quantum process takes None old new = HostTurnMade start (Ok takes) old new

abbrev pub TurnWent : Network NodeState → ℕ → Turn → InHand → InHand → Type 0
TurnWent start quantum turn old new = WentAs start quantum turn.process turn.takes turn.ran old new

-- how a turn of this process failed, in the book that was seen
abbrev pub RefusedAt : Network NodeState → ℕ → Refusal → InHand → InHand → Type 0
RefusedAt start process reason old new =
    ((process < length start.nodes) × TurnBrokenOff start process reason old new) ⊎ ((process ≡ length start.nodes) × HostTurnMade start (Err reason) old new)

-- A turn of this process failed for this reason, and the seat has the slips of what it took before.
abbrev pub RefusedWith : Network NodeState → ℕ → Refusal → InHand → InHand → Type 0
RefusedWith start process reason old new = Gained (TookBefore start process) old.slips new.slips × RefusedAt start process reason old new

abbrev pub RefusedFor : Network NodeState → ℕ → TurnFault → InHand → InHand → Type 0
RefusedFor start process Empty old new = ⊥
RefusedFor start process JournalFull old new = RefusedWith start process refusal.JournalFull old new
RefusedFor start process StoreBroken old new = RefusedWith start process refusal.StoreBroken old new
RefusedFor start process Memory old new = RefusedWith start process refusal.Memory old new

-- The process whose turn failed is the one whose number the queue handed out.
abbrev pub RefusedOne : Network NodeState → Numbers → TurnFault → List Answer → List Answer → InHand → InHand → Type 0
RefusedOne start queue fault asked_old asked_new old new = (process : ℕ) × Handed queue (Some process) asked_old asked_new × RefusedFor start process fault old new

-- `Empty` is the queue's own answer, and comes only if there are more seats than processes. Nothing was seen then.
abbrev pub RefusedBy : Network NodeState → Numbers → TurnFault → List Answer → List Answer → InHand → InHand → Type 0
RefusedBy start queue Empty asked_old asked_new old new = Handed queue None asked_old asked_new × (queue.count < queue.hands) × (new.seen ≡ old.seen)
RefusedBy start queue JournalFull asked_old asked_new old new = RefusedOne start queue JournalFull asked_old asked_new old new
RefusedBy start queue StoreBroken asked_old asked_new old new = RefusedOne start queue StoreBroken asked_old asked_new old new
RefusedBy start queue Memory asked_old asked_new old new = RefusedOne start queue Memory asked_old asked_new old new
