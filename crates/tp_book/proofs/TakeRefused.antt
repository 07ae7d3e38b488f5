-- Why a take fails, once the token is known.
use Rattle.std.proofs.Common.{◌≡◌, ◌≤◌, ◌+◌, ◌*◌, ℕ, Bool, true, false, length, get_or, refl, ap, ◌∙◌, arith, Option, Some, None, slice_get}
use Rattle.std.specs.Prelude.{◌||◌, is_none}
use Rattle.tp_book.proofs.Lower.{lt-ltb, ltb-true, Token, Marker, AtPort, receiver, on_line, entry_room, reserve, is_past, has_no_numbers}
use Rattle.tp_book.specs.declared.refusal.Refusal.TheVariants.{StoreBroken, NothingToTake, PortFull}
use Rattle.tp_book.specs.Book.{BookValue, next_in_book, reserved}
use Rattle.tp_book.specs.Refusals.{else_if, is_journal_full, is_full_for_take, take_refusal, takeable_of, is_full_for, port_behind, port_refusal, front_refusal}
use Rattle.tp_book.proofs.PortEnds.{takeable_first}

-- there is a token and the store isn't broken: the port may be full, and the journal
pub host_refused : (b : BookValue) (line p : ℕ) (needed : Bool) (token : Token) → takeable_of (on_line b.state.lines line) ≡ Some token → b.broken ≡ false
    → receiver b.state.start.wires line ≡ Some (AtPort p) → port_refusal b line needed ≡ take_refusal b needed (else_if None (is_full_for (slice_get b.state.ports p) token) PortFull)
host_refused b line p needed token front whole goes =
    ap (λ o. take_refusal b needed (else_if (else_if (else_if None (is_none o) NothingToTake) b.broken StoreBroken) (is_full_for (port_behind b (receiver b.state.start.wires line)) (get_or (on_line b.state.lines line) 0 Marker)) PortFull)) front
    ∙ ap (λ broken. take_refusal b needed (else_if (else_if None broken StoreBroken) (is_full_for (port_behind b (receiver b.state.start.wires line)) (get_or (on_line b.state.lines line) 0 Marker)) PortFull)) whole
    ∙ ap (λ end. take_refusal b needed (else_if None (is_full_for (port_behind b end) (get_or (on_line b.state.lines line) 0 Marker)) PortFull)) goes
    ∙ ap (λ t. take_refusal b needed (else_if None (is_full_for (slice_get b.state.ports p) t) PortFull)) (takeable_first (on_line b.state.lines line) token front).1

-- the store is broken
pub broken_refused : (b : BookValue) (line : ℕ) (needed : Bool) (token : Token) → takeable_of (on_line b.state.lines line) ≡ Some token → b.broken ≡ true → port_refusal b line needed ≡ Some StoreBroken
broken_refused b line needed token front broken =
    ap (λ o. take_refusal b needed (else_if (else_if (else_if None (is_none o) NothingToTake) b.broken StoreBroken) (is_full_for (port_behind b (receiver b.state.start.wires line)) (get_or (on_line b.state.lines line) 0 Marker)) PortFull)) front
    ∙ ap (λ broken. take_refusal b needed (else_if (else_if None broken StoreBroken) (is_full_for (port_behind b (receiver b.state.start.wires line)) (get_or (on_line b.state.lines line) 0 Marker)) PortFull)) broken

-- the port is full
pub full_refused : (b : BookValue) (line p : ℕ) (needed : Bool) (token : Token) → takeable_of (on_line b.state.lines line) ≡ Some token → b.broken ≡ false
    → receiver b.state.start.wires line ≡ Some (AtPort p) → is_full_for (slice_get b.state.ports p) token ≡ true → port_refusal b line needed ≡ Some PortFull
full_refused b line p needed token front whole goes full =
    host_refused b line p needed token front whole goes ∙ ap (λ f. take_refusal b needed (else_if None f PortFull)) full

-- the port has room: the journal alone may refuse
pub free_refused : (b : BookValue) (line p : ℕ) (needed : Bool) (token : Token) → takeable_of (on_line b.state.lines line) ≡ Some token → b.broken ≡ false
    → receiver b.state.start.wires line ≡ Some (AtPort p) → is_full_for (slice_get b.state.ports p) token ≡ false → port_refusal b line needed ≡ take_refusal b needed None
free_refused b line p needed token front whole goes free =
    host_refused b line p needed token front whole goes ∙ ap (λ f. take_refusal b needed (else_if None f PortFull)) free

-- of a node's take the journal alone may refuse
pub ready_refused : (b : BookValue) (line : ℕ) (needed : Bool) (token : Token) → takeable_of (on_line b.state.lines line) ≡ Some token → b.broken ≡ false → front_refusal b line needed ≡ take_refusal b needed None
ready_refused b line needed token front whole =
    ap (λ o. take_refusal b needed (else_if (else_if None (is_none o) NothingToTake) b.broken StoreBroken)) front
    ∙ ap (λ broken. take_refusal b needed (else_if None broken StoreBroken)) whole

-- ## Takes and other entries

-- what is full for a take, is full for any entry
pub full_for_any : (b : BookValue) (needed : Bool) → is_full_for_take b needed ≡ true → is_journal_full b 1 ≡ true
full_for_any b false e = e
full_for_any b true e =
    either (is_past b.room (entry_room * (length b.state.entries + reserved b + 1))) (is_past b.room (entry_room * (length b.state.entries + reserved b + 1) + reserve (length b.state.lines))) (has_no_numbers (next_in_book b + reserved b + 1))
    (past b.room (entry_room * (length b.state.entries + reserved b + 1)) (entry_room * (length b.state.entries + reserved b + 1) + reserve (length b.state.lines)) (omega arith)) e
  where
    past : (room : Option ℕ) (few more : ℕ) → few ≤ more → is_past room few ≡ true → is_past room more ≡ true
    past None few more less e = e
    past (Some most) few more less e = lt-ltb most more (let below = ltb-true most few e in omega (arith, less, below))

    either : (x y z : Bool) → (x ≡ true → y ≡ true) → (x || z) ≡ true → (y || z) ≡ true
    either true y z h e = ap (λ w. w || z) (h refl)
    either false true z h e = refl
    either false false z h e = e
