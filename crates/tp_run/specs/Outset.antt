-- What a run notes of its port.
use Rattle.std.specs.Prelude.{◌≡◌, ℕ}
use Rattle.tp_run.specs.Lower.{Port, Opened, next_of, BookValue, next_in_book, accepted_of, port_in, room_of}
use Rattle.tp_run.specs.Shown.{port_or_new}
use Rattle.tp_run.specs.declared.outset.Outset.{Outset}

-- the port as it was when the device opened
abbrev pub port_opened : Opened → ℕ → Port
port_opened o port = port_or_new o.now port

-- what a run notes of a port, if the next entry gets the number `next`
abbrev pub outset_with : ℕ → ℕ → Port → Outset
outset_with port next there = record { port = port; next = next; accepted = accepted_of there; room = room_of there; confirmed = there.out_base }

-- what a run notes of a port in a book
abbrev pub outset_of : BookValue → ℕ → Outset
outset_of b port = outset_with port (next_in_book b) (port_in b port)

-- The port in a book is as noted: the next number, the bytes that it accepted, and its room are equal.
abbrev pub StandsIn : Outset → BookValue → Type 0
StandsIn outset b =
    (next_in_book b ≡ outset.next) × (accepted_of (port_in b outset.port) ≡ outset.accepted) × (room_of (port_in b outset.port) ≡ outset.room)

-- what a run notes of a port when the device opened
abbrev pub outset_in : Opened → ℕ → Outset
outset_in o port = outset_with port (next_of o) (port_opened o port)
