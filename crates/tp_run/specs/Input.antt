-- The input that a run hands in.
use Rattle.std.specs.Prelude.{◌≡◌, ℕ, ◌+◌, ◌==◌, if◌then◌else◌, List, ◌++◌, length, map, take, drop, Option, Some, None}
use Rattle.tp_run.specs.Lower.{enumerate_from, Entry, HostIn, BookValue, ReceiptValue, accepted_of, port_in, room_of, is_journal_full}
use Rattle.tp_run.specs.declared.fault.RunFault.{RunFault}
use Rattle.tp_run.specs.declared.fault.RunFault.TheVariants.{OfferRefused, Unaccounted}
use Rattle.tp_run.specs.declared.outset.Outset.{Outset}

-- the bytes to hand in: those of the port's whole input that it hasn't accepted, as many as it has room for
abbrev pub input_rest : BookValue → ℕ → List ℕ → List ℕ
input_rest b port input = take (room_of (port_in b port)) (drop (accepted_of (port_in b port)) input)

-- Why `count` bytes that a port has room for aren't handed in. If `count` isn't 0, there are two reasons, tested in this order: the store is broken;
-- the journal has no room for the entries.
abbrev pub rest_fault : BookValue → ℕ → Option RunFault
rest_fault b count =
    if count == 0 then None
    else if b.broken then Some Unaccounted
    else if is_journal_full b count then Some OfferRefused
    else None

-- the bytes to hand in, by what was noted of the port
abbrev pub rest_at : Outset → List ℕ → List ℕ
rest_at outset input = take outset.room (drop outset.accepted input)

-- the entries for these bytes
abbrev pub input_entries : Outset → List ℕ → List Entry
input_entries outset input = map (HostIn outset.port) (rest_at outset input)

-- their slips, numbered from the next number on
abbrev pub input_slips : Outset → List ℕ → List (ℕ × Entry)
input_slips outset input = enumerate_from outset.next (input_entries outset input)

-- A seat got exactly the slips of the input, and the receipt's number is the next one after them. What the host has handed in grew from `before` to
-- `after`, by exactly these entries.
pub record IsForInput (outset : Outset) (input : List ℕ) (old new : List (ℕ × Entry)) (before after : List Entry) (receipt : ReceiptValue) : Type 0 where
  pub slips : new ≡ old ++ input_slips outset input
  pub handed : after ≡ before ++ input_entries outset input
  pub number : receipt.number ≡ outset.next + length (rest_at outset input)
