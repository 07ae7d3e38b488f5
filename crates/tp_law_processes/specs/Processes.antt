-- Processes over one device, one after the other: what each did by the clause of its call, what it showed, and what it acknowledged.
use Rattle.std.specs.Prelude.{◌≡◌, ◌≤◌, ◌⊎◌, ℕ, ◌+◌, List, [], ◌∷◌, ◌++◌, length, map, Option, Some, None, Result, Ok, Err, slice_get}
use Rattle.std.proofs.Common.{inl, inr}
use Rattle.tp_law_processes.specs.Lower.{Entry, NodeState, Network, IsSynced, MayHaveLeft, State, moment, Opened, next_of, LeavesNothingNew, CompactFault, Compaction, RunFault, Job, Compacted, OutletValue, outset_in, IsCalled, RanInto, OutputValue, given_of, Ended, StreamFault, CameFrom, GivenInput, AreShown, EachWith, Got, PutPiece, StreamedInto, from_of, stands_opened, Confirm, HostIn, Run, Take, Turn, Appends, Worked, MadeByTurns, WasPutUpto}
use Rattle.tp_law_processes.specs.Inputs.{IsFrontOf}

-- What a process did between two states of its device, by the clause of its call: a run, a stream, a compaction, or a call that wrote nothing.
pub data Did (start : Network NodeState) (old new : State) : Type 0 where
  ByRun : (job : Job) → (input : List ℕ) → (was : OutletValue) → (now : OutletValue) → (result : Result ℕ RunFault) → RanInto start job input was now result old new → Did start old new
  ByStream : (inputs : List GivenInput) → (result : Result Ended StreamFault) → (was : List OutputValue) → (now : List OutputValue) → StreamedInto start inputs result was now old new → Did start old new
  ByCompaction : (result : Result Compaction CompactFault) → Compacted start result old new → Did start old new
  ByReading : LeavesNothingNew old new → Did start old new

-- the journal that the clause speaks of
abbrev pub journal_of : {start : Network NodeState} {old new : State} → Did start old new → List Entry
journal_of (ByRun job input was now result clause) = clause.ran.journal
journal_of (ByStream inputs result was now clause) = clause.streamed.journal
journal_of (ByCompaction result clause) = clause.journal
journal_of (ByReading clause) = []

-- the number that the call answered, below which each entry is acknowledged; 0 if it answered none
abbrev pub answered : {start : Network NodeState} {old new : State} → Did start old new → ℕ
answered (ByRun job input was now (Ok next) clause) = next
answered (ByRun job input was now (Err fault) clause) = 0
answered (ByStream inputs (Ok ended) was now clause) = ended.next
answered (ByStream inputs (Err fault) was now clause) = 0
answered (ByCompaction (Ok done) clause) = done.next
answered (ByCompaction (Err fault) clause) = 0
answered (ByReading clause) = 0

-- A process may hand a port this byte as the one at this position: its call was given an input for the port that has the byte there. If that input
-- isn't known as a whole, nothing is said of the byte. A compaction and a reading hand in nothing.
abbrev pub MayHand : {start : Network NodeState} {old new : State} → Did start old new → (port at byte : ℕ) → Type 0
MayHand (ByRun job input was now result clause) port at byte = (port ≡ job.port) × (slice_get input at ≡ Some byte)
MayHand (ByStream inputs result was now clause) port at byte = CameFrom inputs port at byte
MayHand (ByCompaction result clause) port at byte = ⊥
MayHand (ByReading clause) port at byte = ⊥

-- A process confirms no more of a port's outputs than it showed: a run's outlet took them, all up to this position, or a stream put them. A compaction
-- and a reading confirm nothing.
abbrev pub MayConfirm : {start : Network NodeState} {old new : State} → Did start old new → Opened → (port upto : ℕ) → Type 0
MayConfirm (ByRun job input was now result clause) opened port upto =
    (port ≡ job.port) × ((printed : List ℕ) × Appends was.taken now.taken printed × (upto ≡ (outset_in opened port).confirmed + length printed))
MayConfirm (ByStream inputs result was now clause) opened port upto = WasPutUpto now port upto
MayConfirm (ByCompaction result clause) opened port upto = ⊥
MayConfirm (ByReading clause) opened port upto = ⊥

-- a byte for a port, or that the host has outputs
abbrev pub IsHosts : Entry → Type 0
IsHosts (Run i k) = ⊥
IsHosts (Take line token) = ⊥
IsHosts (HostIn p x) = Unit {0}
IsHosts (Confirm p upto) = Unit {0}
IsHosts (Turn i links k) = ⊥

-- An entry with this number is among these slips.
abbrev pub IsAmong : ℕ → Entry → List (ℕ × Entry) → Type 0
IsAmong number e slips = (place : ℕ) × (slice_get slips place ≡ Some (number, e))

-- The host of a process made the entry with this number, or a turn of a node or of the host did: it is among the slips of one of a run's workers, or of a
-- stream's turns. A worker is the number of its turns, and their slips. A compaction that was done, and a reading, make no entry.
abbrev pub HasMaker : {start : Network NodeState} {old new : State} → Did start old new → Opened → ℕ → Entry → Type 0
HasMaker (ByRun job input was now result clause) opened number e =
    IsHosts e ⊎ ((worker : ℕ × List (ℕ × Entry)) × Worked opened.cut job.quantum worker.0 worker.1 × IsAmong number e worker.1)
HasMaker (ByStream inputs result was now clause) opened number e =
    IsHosts e ⊎ ((slips : List (ℕ × Entry)) × MadeByTurns opened.cut slips × IsAmong number e slips)
HasMaker (ByCompaction result clause) opened number e = ⊥
HasMaker (ByReading clause) opened number e = ⊥

-- the whole input is known, and a front of `all`
abbrev pub IsKnownFront : List ℕ → Option (List ℕ) → Type 0
IsKnownFront all None = ⊥
IsKnownFront all (Some input) = IsFrontOf all input

-- each input that a process was given for this port is a front of `all`
abbrev pub GivesFrontOf : {start : Network NodeState} {old new : State} → Did start old new → (port : ℕ) (all : List ℕ) → Type 0
GivesFrontOf (ByRun job input was now result clause) port all = job.port ≡ port → IsFrontOf all input
GivesFrontOf (ByStream inputs result was now clause) port all =
    (place : ℕ) (i : GivenInput) → slice_get inputs place ≡ Some i → i.port ≡ port → IsKnownFront all i.all
GivesFrontOf (ByCompaction result clause) port all = Unit {0}
GivesFrontOf (ByReading clause) port all = Unit {0}

-- Bytes that were shown of a port, the first of them at this position among all that the port puts out, when its device had come to a moment.
pub record Showing : Type 0 where
  pub port : ℕ
  pub from : ℕ
  pub bytes : List ℕ
  pub there : ℕ

-- what an outlet was called for
abbrev pub outlet_showings : (start : Network NodeState) (journal : List Entry) (port : ℕ) (was now : OutletValue) (result : Result ℕ RunFault) (old new : State)
    → (now ≡ was) ⊎ IsCalled start journal port was now result old new → List Showing
outlet_showings start journal port was now result old new (inl silent) = []
outlet_showings start journal port was now result old new (inr called) =
    record { port = port; from = (outset_in called.printed.opened port).confirmed; bytes = called.printed.outputs; there = moment called.printed.there } ∷ []

-- the pieces that were put of a port, the first of them at this position
abbrev pub piece_showings : ℕ → ℕ → List PutPiece → List Showing
piece_showings port from [] = []
piece_showings port from (p ∷ ps) = record { port = port; from = from; bytes = p.bytes; there = moment p.there } ∷ piece_showings port (from + length p.bytes) ps

-- what the sinks of outputs got, each from where it was set out
abbrev pub got_showings : (start : Network NodeState) (journal : List Entry) (least : ℕ) (from : OutputValue → ℕ) (old new : State) (was now : List OutputValue)
    → EachWith (λ a b. Got start journal least (from a) old new a b) was now → List Showing
got_showings start journal least from old new [] now each = []
got_showings start journal least from old new (a ∷ was) [] each = []
got_showings start journal least from old new (a ∷ was) (b ∷ now) each =
    piece_showings a.port (from a) each.0.pieces ++ got_showings start journal least from old new was now each.1

-- none, or what they got over a device that opened
abbrev pub set_out_at : Opened → OutputValue → ℕ
set_out_at opened output = from_of (stands_opened opened output.port) (given_of output)

abbrev pub sink_showings : (start : Network NodeState) (journal : List Entry) (was now : List OutputValue) (old new : State)
    → (map given_of now ≡ map given_of was) ⊎ AreShown start journal was now old new → List Showing
sink_showings start journal was now old new (inl same) = []
sink_showings start journal was now old new (inr shown) =
    got_showings start journal (next_of shown.opened) (set_out_at shown.opened) old new was now shown.each

-- all that a process showed, as the clause of its call says
abbrev pub showings : (start : Network NodeState) (old new : State) → Did start old new → List Showing
showings start old new (ByRun job input was now result clause) = outlet_showings start clause.ran.journal job.port was now result old new clause.called
showings start old new (ByStream inputs result was now clause) = sink_showings start clause.streamed.journal was now old new clause.outputs
showings start old new (ByCompaction result clause) = []
showings start old new (ByReading clause) = []

-- A process: the device that it began with, all of it synced, and the one that it would end with; what it did; and what was left of the device, as it
-- ended there, or as a crash stopped it at some moment from `at` on.
pub record Process (start : Network NodeState) : Type 0 where
  pub old : State
  pub new : State
  pub synced : IsSynced old
  pub did : Did start old new
  pub at : ℕ
  pub begun : moment old ≤ at
  pub left : List ℕ
  pub may : MayHaveLeft new at left

-- Each process begins with the bytes that the one before it left, the first one with `was`.
abbrev pub AreInOrder : (start : Network NodeState) → List ℕ → List (Process start) → Type 0
AreInOrder start was [] = Unit {0}
AreInOrder start was (p ∷ ps) = (p.old.now.bytes ≡ was) × AreInOrder start p.left ps

-- what the last one left
abbrev pub last_left : (start : Network NodeState) → List ℕ → List (Process start) → List ℕ
last_left start was [] = was
last_left start was (p ∷ ps) = last_left start p.left ps
