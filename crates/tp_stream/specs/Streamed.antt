-- What a stream leaves of its device, even if a crash ends it early.
use Rattle.std.specs.Prelude.{◌≡◌, ◌⊎◌, ℕ, List, length, Result, Ok, Err, IfOk}
use Rattle.tp_stream.specs.Lower.{Entry, NodeState, Network, MayBe, State, LeavesOnly, Follows, Ended}
use Rattle.tp_stream.specs.declared.fault.StreamFault.{StreamFault}
use Rattle.tp_stream.specs.declared.fault.StreamFault.TheVariants.{Opening, Spare, Port, Unnamed, Short, Long, Gone, NotShown, ShortInput, InputFailed, OutputFailed, FlushFailed, NotStored, JournalFull, Memory}

-- A crash at any moment of the stream leaves one of two things. Either a crash just before the stream might have left it, too; or it opens to the
-- network that a prefix of the journal leads to. That prefix begins with the journal that the device had at the opening, and has all of it. After a
-- finished stream the answered number is the one after the journal's last entry, and the prefix has each entry below it.
pub record Streamed (start : Network NodeState) (result : Result Ended StreamFault) (old new : State) : Type 0 where
  pub journal : List Entry
  pub leaves : LeavesOnly old new (λ left. MayBe old.now left ⊎ Follows start journal 0 old.now.bytes left)
  pub stored : IfOk result (λ ended. (left : List ℕ) → MayBe new.now left → Follows start journal ended.next old.now.bytes left)
  pub last : IfOk result (λ ended. ended.next ≡ length journal)

-- whether an answer says that the device wasn't written
abbrev pub StaysUnstreamed : {A : Type 0} → Result A StreamFault → Type 0
StaysUnstreamed (Ok x) = ⊥
StaysUnstreamed (Err (Opening unopened)) = Unit {0}
StaysUnstreamed (Err Spare) = Unit {0}
StaysUnstreamed (Err (Port port)) = Unit {0}
StaysUnstreamed (Err (Unnamed port)) = Unit {0}
StaysUnstreamed (Err (Short port has from)) = Unit {0}
StaysUnstreamed (Err (Long port has upto)) = Unit {0}
StaysUnstreamed (Err (Gone port have confirmed)) = Unit {0}
StaysUnstreamed (Err (NotShown port have shown)) = Unit {0}
StaysUnstreamed (Err (ShortInput port has accepted)) = Unit {0}
StaysUnstreamed (Err (InputFailed port)) = ⊥
StaysUnstreamed (Err (OutputFailed port)) = ⊥
StaysUnstreamed (Err FlushFailed) = ⊥
StaysUnstreamed (Err NotStored) = ⊥
StaysUnstreamed (Err JournalFull) = ⊥
StaysUnstreamed (Err Memory) = ⊥

-- a fault that may come after a stream began
abbrev pub CameBegun : StreamFault → Type 0
CameBegun (Opening unopened) = ⊥
CameBegun Spare = ⊥
CameBegun (Port port) = ⊥
CameBegun (Unnamed port) = ⊥
CameBegun (Short port has from) = ⊥
CameBegun (Long port has upto) = ⊥
CameBegun (Gone port have confirmed) = ⊥
CameBegun (NotShown port have shown) = ⊥
CameBegun (ShortInput port has accepted) = ⊥
CameBegun (InputFailed port) = Unit {0}
CameBegun (OutputFailed port) = Unit {0}
CameBegun FlushFailed = Unit {0}
CameBegun NotStored = Unit {0}
CameBegun JournalFull = Unit {0}
CameBegun Memory = Unit {0}

-- a fault of a flush: it names no output and no input
abbrev pub CameOfFlush : StreamFault → Type 0
CameOfFlush FlushFailed = Unit {0}
CameOfFlush NotStored = Unit {0}
CameOfFlush Memory = Unit {0}
CameOfFlush _ = ⊥

-- a fault of what comes between two flushes: it isn't one of a device's call
abbrev pub CameBetween : StreamFault → Type 0
CameBetween (InputFailed port) = Unit {0}
CameBetween (OutputFailed port) = Unit {0}
CameBetween NotStored = Unit {0}
CameBetween JournalFull = Unit {0}
CameBetween Memory = Unit {0}
CameBetween _ = ⊥

-- a fault of turns: it isn't one of a device's call, and names no output and no input
abbrev pub CameOfTurns : StreamFault → Type 0
CameOfTurns NotStored = Unit {0}
CameOfTurns JournalFull = Unit {0}
CameOfTurns Memory = Unit {0}
CameOfTurns _ = ⊥

-- a fault other than a full journal
abbrev pub OtherThanFull : StreamFault → Type 0
OtherThanFull JournalFull = ⊥
OtherThanFull _ = Unit {0}
