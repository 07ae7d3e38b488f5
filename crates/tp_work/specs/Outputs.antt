-- Why outputs aren't shown, or can't be confirmed.
use Rattle.std.specs.Prelude.{ℕ, nat_lt, nat_le, if◌then◌else◌, Option, Some, None}
use Rattle.tp_work.specs.Lower.{BookValue, port_in, shown_upto_of, is_journal_full, Refusal}
use Rattle.tp_book.specs.declared.refusal.Refusal.TheVariants as refusal
use Rattle.tp_work.specs.declared.host_fault.ConfirmFault.{ConfirmFault}
use Rattle.tp_work.specs.declared.host_fault.ConfirmFault.TheVariants.{NotShown, JournalFull, StoreBroken, Memory}
use Rattle.tp_work.specs.declared.host_fault.ShownFault.{ShownFault}
use Rattle.tp_work.specs.declared.host_fault.ShownFault.TheVariants.{TooOld, TooNew}

-- Outputs from a position on aren't shown: they were confirmed up to a later one, or the mark doesn't reach it.
abbrev pub shown_fault : BookValue → ℕ → ℕ → ℕ → Option ShownFault
shown_fault b port mark from =
    if nat_lt from (port_in b port).out_base then Some TooOld
    else if nat_lt (shown_upto_of b port mark) from then Some TooNew
    else None

-- Outputs can't be confirmed up to a position. The first reason counts: the mark doesn't show them; or they weren't confirmed before, and
-- the store is broken or the journal is full.
abbrev pub confirm_fault : BookValue → ℕ → ℕ → ℕ → Option ConfirmFault
confirm_fault b port mark upto =
    if nat_lt (shown_upto_of b port mark) upto then Some NotShown
    else if nat_le upto (port_in b port).out_base then None
    else if b.broken then Some StoreBroken
    else if is_journal_full b 1 then Some JournalFull
    else None

-- ## What the book refuses

-- it may refuse a confirmation for this reason
abbrev pub IsConfirmRefusal : Refusal → Type 0
IsConfirmRefusal refusal.JournalFull = Unit {0}
IsConfirmRefusal refusal.StoreBroken = Unit {0}
IsConfirmRefusal refusal.Memory = Unit {0}
IsConfirmRefusal refusal.NothingToTake = ⊥
IsConfirmRefusal refusal.SnapshotRunning = ⊥
IsConfirmRefusal refusal.PortFull = ⊥

-- a reason of the book as a fault
abbrev pub confirmation_fault : Refusal → ConfirmFault
confirmation_fault refusal.JournalFull = JournalFull
confirmation_fault refusal.StoreBroken = StoreBroken
confirmation_fault refusal.Memory = Memory
confirmation_fault refusal.NothingToTake = Memory
confirmation_fault refusal.SnapshotRunning = Memory
confirmation_fault refusal.PortFull = Memory
