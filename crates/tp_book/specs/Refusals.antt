-- Why a call fails. If several reasons hold, the first one is answered, in this order: nothing to take, a snapshot that runs, a broken
-- store, a full port, a full journal. `Memory` is only answered if none of them holds.
use Rattle.std.specs.Prelude.{◌≡◌, ℕ, Bool, false, nat_le, if◌then◌else◌, List, [], ◌∷◌, length, get_or, Option, Some, None, is_none, Result, Ok, Err, slice_get}
use Rattle.tp_book.specs.Lower.{Token, Data, Ack, Marker, WireEnd, Link, AtPort, MAX_HELD, Port, process_at, receiver, on_line, is_full, is_full_for_cut}
use Rattle.tp_book.specs.Needs.{is_needed}
use Rattle.tp_book.specs.declared.refusal.Refusal.{Refusal}
use Rattle.tp_book.specs.declared.refusal.Refusal.TheVariants.{JournalFull, StoreBroken, Memory, NothingToTake, PortFull}
use Rattle.tp_book.specs.Book.{BookValue, next_in_book, reserved}

-- a reason, if it holds and no earlier one does
abbrev pub else_if : Option Refusal → Bool → Refusal → Option Refusal
else_if (Some reason) holds other = Some reason
else_if None holds other = if holds then Some other else None

-- the journal is full for `more` entries
abbrev pub is_journal_full : BookValue → ℕ → Bool
is_journal_full b more = is_full b.room (length b.state.lines) (length b.state.entries) (reserved b) (next_in_book b) more

-- A running snapshot needs what is taken from a line: the process that receives the line has recorded in it, and the line isn't
-- closed.
abbrev pub needs_take : BookValue → ℕ → Bool
needs_take b line = is_needed b.state.snapshot (process_at (length b.state.start.nodes) (receiver b.state.start.wires line)) line

-- the journal is full for a take: one that a running snapshot needs may use the reserve
abbrev pub is_full_for_take : BookValue → Bool → Bool
is_full_for_take b needed =
    if needed then is_full_for_cut b.room (length b.state.entries) (reserved b) (next_in_book b) else is_journal_full b 1

-- what can be taken from a line: the token at the front, unless that is a Marker
abbrev pub takeable_of : List Token → Option Token
takeable_of [] = None
takeable_of (Data b ∷ rest) = Some (Data b)
takeable_of (Ack ∷ rest) = Some Ack
takeable_of (Marker ∷ rest) = None

-- for one more entry of a kind
abbrev pub entry_refusal : BookValue → ℕ → Option Refusal → Option Refusal
entry_refusal b more earlier = else_if earlier (is_journal_full b more) JournalFull

-- why no run can be reserved
abbrev pub reserve_refusal : BookValue → Option Refusal
reserve_refusal b = entry_refusal b 1 (else_if None b.broken StoreBroken)

-- for a take, which a running snapshot may need
abbrev pub take_refusal : BookValue → Bool → Option Refusal → Option Refusal
take_refusal b needed earlier = else_if earlier (is_full_for_take b needed) JournalFull

-- why a line's front can't be made ready, if a running snapshot may need the take
abbrev pub front_refusal : BookValue → ℕ → Bool → Option Refusal
front_refusal b line needed =
    take_refusal b needed (else_if (else_if None (is_none (takeable_of (on_line b.state.lines line))) NothingToTake) b.broken StoreBroken)

abbrev pub ready_refusal : BookValue → ℕ → Option Refusal
ready_refusal b line = front_refusal b line (needs_take b line)

-- a port's outputs are full for the token
abbrev pub is_full_for : Option Port → Token → Bool
is_full_for None token = false
is_full_for (Some port) (Data b) = nat_le MAX_HELD (length port.outputs)
is_full_for (Some port) Ack = false
is_full_for (Some port) Marker = false

-- the port that a line goes to, in the book
abbrev pub port_behind : BookValue → Option WireEnd → Option Port
port_behind b None = None
port_behind b (Some (Link i k)) = None
port_behind b (Some (AtPort p)) = slice_get b.state.ports p

-- why no port can take a line's front, if a running snapshot may need the take
abbrev pub port_refusal : BookValue → ℕ → Bool → Option Refusal
port_refusal b line needed =
    take_refusal b needed
    (else_if
    (else_if (else_if None (is_none (takeable_of (on_line b.state.lines line))) NothingToTake) b.broken StoreBroken)
    (is_full_for (port_behind b (receiver b.state.start.wires line)) (get_or (on_line b.state.lines line) 0 Marker)) PortFull)

abbrev pub host_refusal : BookValue → ℕ → Option Refusal
host_refusal b line = port_refusal b line (needs_take b line)

-- The answer to a call that fails for this reason, if there is one. Without a reason it may still run out of memory.
abbrev pub IsAnswer : {A : Type 0} → Option Refusal → Result A Refusal → Type 0
IsAnswer None (Ok x) = Unit {0}
IsAnswer None (Err e) = e ≡ Memory
IsAnswer (Some reason) (Ok x) = ⊥
IsAnswer (Some reason) (Err e) = e ≡ reason
