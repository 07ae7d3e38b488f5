-- The processes of entries.
use Rattle.std.specs.Prelude.{◌≡◌, ◌⊎◌, ℕ, List, [], length, Result, Ok, Err}
use Rattle.tp_shared.specs.Lower.{AllByRecursion, Entry, Run, Take, HostIn, Confirm, Turn, Received, NodeState, Network, process, turn_entries, Refusal, JournalFull, StoreBroken, Memory, NothingToTake, SnapshotRunning, PortFull, Opened, Apart, Whole}

-- a Take of this process
abbrev pub IsTakeBy : Network NodeState → ℕ → Entry → Type 0
IsTakeBy start number (Run i k) = ⊥
IsTakeBy start number (Take line token) = process start.wires (length start.nodes) (Take line token) ≡ number
IsTakeBy start number (HostIn p x) = ⊥
IsTakeBy start number (Confirm p upto) = ⊥
IsTakeBy start number (Turn i links k) = ⊥

-- all are Takes of this process
abbrev pub AreTakes : Network NodeState → ℕ → List Entry → Type 0
AreTakes start number = AllByRecursion (IsTakeBy start number)

-- `count` entries, each a Take of the process `number`
abbrev pub CountedTakes : Network NodeState → ℕ → ℕ → List Entry → Type 0
CountedTakes start number count entries = (length entries ≡ count) × AreTakes start number entries

-- the entries of takes that were answered with their number, or broken off
abbrev pub TakesOf : Network NodeState → ℕ → Result ℕ Refusal → List Entry → Type 0
TakesOf start number (Ok count) = CountedTakes start number count
TakesOf start number (Err e) = AreTakes start number

-- ## A node's turn

-- what a node received, without a step: one entry, or none if it received nothing
pub record TookAtOnce (number : ℕ) (entries : List Entry) : Type 0 where
  pub takes : List Received
  pub are : entries ≡ turn_entries number takes 0

-- the entries of a node's turn that broke off: an entry for each token that it took, or one for all
abbrev pub TookAlone : Network NodeState → ℕ → List Entry → Type 0
TookAlone start number entries = AreTakes start number entries ⊎ TookAtOnce number entries

-- The entries of an opening with this answer. A turn that is one entry has none before its commit.
abbrev pub OpenedEntries : Network NodeState → ℕ → Result Opened Refusal → List Entry → Type 0
OpenedEntries start number (Ok (Apart taken)) = CountedTakes start number taken
OpenedEntries start number (Ok (Whole taken)) = λ entries. entries ≡ []
OpenedEntries start number (Err e) = TookAlone start number

-- ## Errors

-- A turn fails if the journal is full, the store is broken, or memory is out.
abbrev pub IsTurnRefusal : Refusal → Type 0
IsTurnRefusal JournalFull = Unit {0}
IsTurnRefusal StoreBroken = Unit {0}
IsTurnRefusal Memory = Unit {0}
IsTurnRefusal NothingToTake = ⊥
IsTurnRefusal SnapshotRunning = ⊥
IsTurnRefusal PortFull = ⊥
