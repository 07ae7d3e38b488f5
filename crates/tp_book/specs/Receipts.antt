-- Which receipt a call gives.
use Rattle.std.specs.Prelude.{ℕ, ◌+◌, nat_le, if◌then◌else◌, List, [], ◌∷◌, length, map, Some, None}
use Rattle.tp_model.specs.declared.entry.Entry.TheVariants.{HostIn, Confirm}
use Rattle.tp_book.specs.Book.{BookValue, next_in_book}
use Rattle.tp_book.specs.Covered.{ReceiptValue}
use Rattle.tp_book.specs.Host.{port_in, accepted_of}

-- For bytes that were handed to a port: each has its entry, and the first has the position up to which the port had accepted.
abbrev pub input_receipt : BookValue → ℕ → List ℕ → ReceiptValue
input_receipt b p bytes =
    record { number = next_in_book b + length bytes; entries = map (HostIn p) bytes; position = Some (accepted_of (port_in b p)) }

-- For outputs that were confirmed up to a position. If that was confirmed before, there is no entry.
abbrev pub confirm_receipt : BookValue → ℕ → ℕ → ReceiptValue
confirm_receipt b p upto =
    if nat_le upto (port_in b p).out_base
    then record { number = next_in_book b; entries = []; position = None }
    else record { number = next_in_book b + 1; entries = Confirm p upto ∷ []; position = None }
