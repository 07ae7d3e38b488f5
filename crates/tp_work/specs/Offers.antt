-- Why offers fail.
use Rattle.std.specs.Prelude.{◌<◌, ℕ, ◌==◌, nat_lt, if◌then◌else◌, Option, Some, None}
use Rattle.tp_work.specs.Lower.{BookValue, accepted_of, port_in, room_of, is_journal_full, Refusal}
use Rattle.tp_book.specs.declared.refusal.Refusal.TheVariants as refusal
use Rattle.tp_work.specs.declared.host_fault.OfferFault.{OfferFault}
use Rattle.tp_work.specs.declared.host_fault.OfferFault.TheVariants.{Already, Gap, PortFull, JournalFull, StoreBroken, Memory}

-- Why `count` bytes, at least one, can't be handed to a port. The first reason counts: the store is broken, the port has no room for them,
-- the journal has none.
abbrev pub bytes_fault : BookValue → ℕ → ℕ → Option OfferFault
bytes_fault b port count =
    if count == 0 then None
    else if b.broken then Some StoreBroken
    else if nat_lt (room_of (port_in b port)) count then Some (PortFull (room_of (port_in b port)))
    else if is_journal_full b count then Some JournalFull
    else None

-- Why they can't be offered at a position. The first reason is that the port has accepted more bytes, or fewer.
abbrev pub offer_fault : BookValue → ℕ → ℕ → ℕ → Option OfferFault
offer_fault b port at count =
    if nat_lt at (accepted_of (port_in b port)) then Some (Already (accepted_of (port_in b port)))
    else if nat_lt (accepted_of (port_in b port)) at then Some (Gap (accepted_of (port_in b port)))
    else bytes_fault b port count

-- What a fault tells of the offer's position and of its number of bytes.
abbrev pub IsReason : ℕ → ℕ → OfferFault → Type 0
IsReason at count (Already accepted) = at < accepted
IsReason at count (Gap accepted) = accepted < at
IsReason at count (PortFull room) = room < count
IsReason at count JournalFull = 0 < count
IsReason at count StoreBroken = 0 < count
IsReason at count Memory = 0 < count

-- ## What the book refuses

-- it may refuse bytes for this reason
abbrev pub IsInputRefusal : Refusal → Type 0
IsInputRefusal refusal.JournalFull = Unit {0}
IsInputRefusal refusal.StoreBroken = Unit {0}
IsInputRefusal refusal.Memory = Unit {0}
IsInputRefusal refusal.NothingToTake = ⊥
IsInputRefusal refusal.SnapshotRunning = ⊥
IsInputRefusal refusal.PortFull = Unit {0}

-- a reason of the book as a fault, at a port that has room for `room` bytes
abbrev pub input_fault : ℕ → Refusal → OfferFault
input_fault room refusal.JournalFull = JournalFull
input_fault room refusal.StoreBroken = StoreBroken
input_fault room refusal.Memory = Memory
input_fault room refusal.NothingToTake = Memory
input_fault room refusal.SnapshotRunning = Memory
input_fault room refusal.PortFull = PortFull room
