-- What a run printed, and the entry that confirms it.
use Rattle.std.specs.Prelude.{◌≡◌, ◌≤◌, ◌⊎◌, ℕ, ◌+◌, nat_le, if◌then◌else◌, List, [], ◌∷◌, ◌++◌, length, Option, Some, None, Result}
use Rattle.tp_run.specs.Lower.{Appends, Entry, Confirm, State, BookValue, next_in_book, ReceiptValue, port_in, shown_from, shown_of, shown_upto_of, is_journal_full, IsFor}
use Rattle.tp_run.specs.declared.fault.RunFault.{RunFault}
use Rattle.tp_run.specs.declared.fault.RunFault.TheVariants.{ConfirmRefused, Unaccounted}
use Rattle.tp_run.specs.Outlet.{OutletValue}
use Rattle.tp_run.specs.Prints.{MayBeSilent, PrintsAt}

-- the entry that confirms these outputs of a port, if the first one has the position `from`; no entry if there is no output
abbrev pub confirms : ℕ → ℕ → List ℕ → List Entry
confirms port from [] = []
confirms port from (x ∷ xs) = Confirm port (from + length (x ∷ xs)) ∷ []

-- Why the outputs of a port that a mark shows can't all be confirmed. If some of them weren't confirmed before, there are two reasons, tested in this
-- order: the store is broken; the journal is full.
abbrev pub unconfirmed_fault : BookValue → ℕ → ℕ → Option RunFault
unconfirmed_fault b port mark =
    if nat_le (shown_upto_of b port mark) (port_in b port).out_base then None
    else if b.broken then Some Unaccounted
    else if is_journal_full b 1 then Some ConfirmRefused
    else None

-- Bytes were printed, and one entry confirms exactly these bytes as outputs of the port from `from` on. The seat got the entry's slip, and the
-- receipt is for it. What the host has handed in grew from `before` to `after`, by exactly this entry. `Are` is true of the entry's number and of the
-- bytes. If nothing was printed, there is no entry, and that number is the next one.
pub record IsForOutput (port from : ℕ) (Are : ℕ → List ℕ → Type 0) (was now : Option (List ℕ)) (old new : List (ℕ × Entry)) (before after : List Entry) (receipt : ReceiptValue) : Type 0 where
  pub printed : List ℕ
  pub appended : Appends was now printed
  pub confirmed : IsFor (confirms port from printed) old new receipt
  pub handed : after ≡ before ++ confirms port from printed
  pub are : Are confirmed.first printed

-- The bytes are the unconfirmed outputs of the port that the mark shows, and the number is the book's next one.
abbrev pub AreShownBytes : BookValue → ℕ → ℕ → ℕ → List ℕ → Type 0
AreShownBytes b port mark number bytes = (number ≡ next_in_book b) × (bytes ≡ shown_from b port mark (port_in b port).out_base)

-- The bytes are all outputs that a book keeps of the port, and the number is the book's next one.
abbrev pub AreOutputs : BookValue → ℕ → ℕ → List ℕ → Type 0
AreOutputs b port number bytes = (number ≡ next_in_book b) × ((port_in b port).outputs ≡ bytes)

-- A mark shows all outputs that a book keeps of the port, and is above all entries of the book. The port has confirmed `confirmed` outputs.
pub record ShowsAll (b : BookValue) (port mark confirmed : ℕ) : Type 0 where
  pub base : (port_in b port).out_base ≡ confirmed
  pub all : shown_of b port mark ≡ length (port_in b port).outputs
  pub stored : next_in_book b ≤ mark

-- What was printed, by the answer. Perhaps nothing was printed and no call was made, and the answer allows that. Otherwise a mark shows all outputs
-- that the book keeps of the port, and as many of them were printed as the answer says. All calls were made while the device was in the state
-- `there`.
abbrev pub PrintedOf : {A : Type 0} → BookValue → ℕ → ℕ → ℕ → State → OutletValue → OutletValue → Result A RunFault → Type 0
PrintedOf b port mark confirmed there was now r =
    ((now ≡ was) × MayBeSilent r) ⊎ (ShowsAll b port mark confirmed × PrintsAt there r was now (port_in b port).outputs)
