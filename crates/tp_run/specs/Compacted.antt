-- What compacting leaves of a device, even if a crash ends it early.
use Rattle.std.specs.Prelude.{◌≡◌, ◌≤◌, ◌⊎◌, ℕ, ◌+◌, Bool, true, false, List, [], length, drop, Option, Some, None, Result, Ok, Err, IfOk}
use Rattle.tp_run.specs.Lower.{World, Entry, OpenFault, NodeState, Network, Topology, is_full_for_snapshot, Opened, next_of, verdict, MayBe, State, LeavesOnly, handed, Refusal}
use Rattle.tp_book.specs.declared.refusal.Refusal.TheVariants as refusal
use Rattle.tp_run.specs.Lower.{Follows, journal_of, entries_left, FlushFault}
use Rattle.tp_flush.specs.declared.fault.FlushFault.TheVariants as flush
use Rattle.tp_run.specs.Answered.{IsUnopened, OpenedWith}
use Rattle.tp_run.specs.Failures.{failed_to_open}
use Rattle.tp_run.specs.declared.compacting.Compaction.{Compaction}
use Rattle.tp_run.specs.declared.compacting.CompactFault.{CompactFault}
use Rattle.tp_run.specs.declared.compacting.CompactFault.TheVariants.{Opening, NoGeneration, DeviceFailed, NotWhole, Memory}

-- how many entries the journal of an area takes after a new cut, if the next entry gets the number `next`
abbrev pub room_behind : Topology → ℕ → ℕ → ℕ
room_behind t area next = entries_left 0 next (journal_of t area)

-- whether the device wasn't opened, so that it wasn't written
abbrev pub StaysUnopened : {A : Type 0} → Result A CompactFault → Type 0
StaysUnopened (Err (Opening unopened)) = Unit {0}
StaysUnopened _ = ⊥

-- ## When each fault comes

-- What an answer tells about the open area's generation: whether it was the last one. `Memory` tells nothing.
abbrev pub SaysLast : {A : Type 0} → Result A CompactFault → Bool → Type 0
SaysLast (Err (Opening unopened)) last = ⊥
SaysLast (Err NoGeneration) last = last ≡ true
SaysLast (Err Memory) last = Unit {0}
SaysLast _ last = last ≡ false

-- When compacting may give this answer. `Opening` comes if the device isn't opened. Otherwise the device opened: `NoGeneration` comes if its
-- generation was the last one, `Memory` comes whether it was or not, and all other answers come if it wasn't.
abbrev pub CompactAnswer : {A : Type 0} → Result Opened OpenFault → Result A CompactFault → Type 0
CompactAnswer given (Err (Opening unopened)) = IsUnopened given unopened
CompactAnswer given (Err NoGeneration) = OpenedWith given (λ (opened : Opened). is_full_for_snapshot opened.generation ≡ true)
CompactAnswer given (Err Memory) = OpenedWith given (λ (opened : Opened). Unit {0})
CompactAnswer given _ = OpenedWith given (λ (opened : Opened). is_full_for_snapshot opened.generation ≡ false)

-- whether a fault says that a call of the device failed
abbrev pub is_failure_in : CompactFault → Bool
is_failure_in (Opening unopened) = failed_to_open unopened
is_failure_in DeviceFailed = true
is_failure_in _ = false

-- whether an answer says that a call of the device failed
abbrev pub has_failed_in : {A : Type 0} → Result A CompactFault → Bool
has_failed_in (Ok done) = false
has_failed_in (Err fault) = is_failure_in fault

-- the fault of compacting, for a fault of the flusher's turn
abbrev pub flush_fault : FlushFault → CompactFault
flush_fault flush.DeviceFailed = DeviceFailed
flush_fault flush.StoreBroken = DeviceFailed
flush_fault flush.Memory = Memory
flush_fault flush.AreaFull = NotWhole

-- the fault of compacting, for a book that refuses to begin a snapshot; `None` if a snapshot runs already
abbrev pub begin_fault : Refusal → Option CompactFault
begin_fault refusal.SnapshotRunning = None
begin_fault refusal.Memory = Some Memory
begin_fault refusal.JournalFull = Some NotWhole
begin_fault refusal.StoreBroken = Some NotWhole
begin_fault refusal.NothingToTake = Some NotWhole
begin_fault refusal.PortFull = Some NotWhole

-- a fault that beginning a snapshot may give if a generation is left
abbrev pub IsBeginFault : CompactFault → Type 0
IsBeginFault fault = (fault ≡ Memory) ⊎ (fault ≡ NotWhole)

-- The journal of a world has no entry from the number `first` on, and the mark is no number above the journal's.
abbrev pub AddsNone : ℕ → World NodeState → Type 0
AddsNone first w = (length w.journal ≤ first) × (w.mark ≤ length w.journal)

-- The device opened, and its generation is one more than before. Its journal takes no more entries than fit into its areas, and no more than there
-- are numbers left.
pub record GrewByOne (given : Result Opened OpenFault) (done : Compaction) : Type 0 where
  pub opened : Opened
  pub is : given ≡ Ok opened
  pub generation : done.generation ≡ opened.generation + 1
  pub room : done.room ≤ room_behind opened.head.topology opened.head.areas.length done.next

-- A crash at any moment leaves one of two things. Either a crash just before the call might have left it, too; or it opens to the network that a
-- prefix of the journal leads to. That prefix begins with the journal that the device had at the opening, and has all of it. Once the call was done,
-- the prefix is this journal: no entry was added, and the answered number is the device's next one, as it was at the opening. The host handed in
-- nothing: since the opening, the journal has no input and no entry that confirms outputs.
pub record Compacted (start : Network NodeState) (result : Result Compaction CompactFault) (old new : State) : Type 0 where
  pub journal : List Entry
  pub leaves : LeavesOnly old new (λ left. MayBe old.now left ⊎ Follows start journal 0 old.now.bytes left)
  pub stored : IfOk result (λ done. (left : List ℕ) → MayBe new.now left → Follows start journal done.next old.now.bytes left)
  pub none_added : IfOk result (λ done. (opened : Opened) → verdict old.now.bytes ≡ Ok opened → (done.next ≡ next_of opened) × (length journal ≡ next_of opened))
  pub untouched : (opened : Opened) → verdict old.now.bytes ≡ Ok opened → handed (drop (next_of opened) journal) ≡ []
