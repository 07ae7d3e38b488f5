-- Room that is kept.
use Rattle.std.proofs.Common.{◌≡◌, ℕ, ◌+◌, ◌-◌, ◌*◌, ◌≤◌, ◌<◌, inl, inr, Bool, true, false, [], ◌∷◌, length, length-append, Option, Some, refl, sym, ap, subst, ◌∙◌, arith}
use Rattle.std.specs.Prelude.{if◌then◌else◌, nat_le}
use Rattle.tp_stream.proofs.Lower.{and_from, and_parts, le-leb, leb-true, le-ltb, lt-ltb, ltb-true, or_from, Confirm, takes, without, sent, NUMBER_LIMIT, entry_room, is_full, reserve, BookValue, next_in_book, reserved, port_in, with_confirmed, is_journal_full, JournalRoom}
use Rattle.tp_stream.specs.Rooms.{IsConfirmed, UnreservedBook, has_room_for}

not_full : (most kept entries runs base more lines : ℕ) (room : Option ℕ) → room ≡ Some most → kept ≡ reserve lines → runs ≡ 0
    → kept + entry_room * (base + entries - base + more) ≤ most → base + entries + more < NUMBER_LIMIT → is_full room lines entries runs (base + entries) more ≡ false
not_full most kept entries runs base more lines room bound beside rests low few =
    subst (λ r. is_full r lines entries runs (base + entries) more ≡ false) (sym bound)
    (or_from _ _ (le-ltb most (entry_room * (entries + runs + more) + reserve lines) (omega (arith, beside, rests, low)))
    (le-ltb (NUMBER_LIMIT - 1) (base + entries + runs + more) (omega (arith, rests, few))))

-- what such room is, in bytes and in numbers
room_parts : (journal : JournalRoom) (b : BookValue) (more : ℕ) → has_room_for journal b more ≡ true
    → (journal.kept + entry_room * (next_in_book b - b.base + more) ≤ journal.bytes) × (next_in_book b + more < NUMBER_LIMIT)
room_parts journal b more there = let parts = and_parts _ _ there in (leb-true _ _ parts.0, ltb-true _ _ parts.1)

room_from : (journal : JournalRoom) (b : BookValue) (more : ℕ) → journal.kept + entry_room * (next_in_book b - b.base + more) ≤ journal.bytes → next_in_book b + more < NUMBER_LIMIT
    → has_room_for journal b more ≡ true
room_from journal b more bytes numbers = and_from _ _ (le-leb _ _ bytes) (lt-ltb _ _ numbers)

-- there is room for one
pub room_for_one : (journal : JournalRoom) (b : BookValue) (left : ℕ) → 0 < left → UnreservedBook journal b → has_room_for journal b left ≡ true → is_journal_full b 1 ≡ false
room_for_one journal b left some L there =
    let parts = room_parts journal b left there in
    let bytes = parts.0 in
    let numbers = parts.1 in
    not_full journal.bytes journal.kept (length b.state.entries) (reserved b) b.base 1 (length b.state.lines) b.room L.bound L.beside L.rests
    (omega (arith, bytes, some)) (omega (arith, numbers, some))

-- ## After a confirm

lines_stay : (b : BookValue) (port upto : ℕ) → (with_confirmed b port upto).state.lines ≡ b.state.lines
unfolding sent takes without
lines_stay b port upto = refl

one_more : (b : BookValue) (port upto : ℕ) → next_in_book (with_confirmed b port upto) ≡ next_in_book b + 1
one_more b port upto = let long = length-append b.state.entries (Confirm port upto ∷ []) in omega (arith, long)

with_room : (journal : JournalRoom) (b : BookValue) (port upto left : ℕ) → UnreservedBook journal b → has_room_for journal b (left + 1) ≡ true
    → UnreservedBook journal (with_confirmed b port upto) × (has_room_for journal (with_confirmed b port upto) left ≡ true)
with_room journal b port upto left L there =
    let parts = room_parts journal b (left + 1) there in
    let bytes = parts.0 in
    let numbers = parts.1 in
    let more = one_more b port upto in (
      record { bound = L.bound; beside = L.beside ∙ ap (λ lines. reserve (length lines)) (sym (lines_stay b port upto)); rests = L.rests },
      room_from journal (with_confirmed b port upto) left (omega (arith, bytes, more)) (omega (arith, numbers, more)),
    )

fewer : (journal : JournalRoom) (b : BookValue) (left : ℕ) → has_room_for journal b (left + 1) ≡ true → has_room_for journal b left ≡ true
fewer journal b left there =
    let parts = room_parts journal b (left + 1) there in
    let bytes = parts.0 in
    let numbers = parts.1 in
    room_from journal b left (omega (arith, bytes)) (omega (arith, numbers))

confirmed_room : (journal : JournalRoom) (b : BookValue) (port upto left : ℕ) (test : Bool) → UnreservedBook journal b → has_room_for journal b (left + 1) ≡ true
    → UnreservedBook journal (if test then b else with_confirmed b port upto) × (has_room_for journal (if test then b else with_confirmed b port upto) left ≡ true)
confirmed_room journal b port upto left true L there = (L, fewer journal b left there)
confirmed_room journal b port upto left false L there = with_room journal b port upto left L there

-- after one confirm there is room for one fewer
pub room_then : (journal : JournalRoom) (b c : BookValue) (left : ℕ) → IsConfirmed b c → UnreservedBook journal b → has_room_for journal b (left + 1) ≡ true
    → UnreservedBook journal c × (has_room_for journal c left ≡ true)
room_then journal b c left is L there =
    elim is [
      | inl same ↦ subst (λ b. UnreservedBook journal b × (has_room_for journal b left ≡ true)) (sym same) (L, fewer journal b left there)
      | inr (port, upto, same) ↦
          subst (λ b. UnreservedBook journal b × (has_room_for journal b left ≡ true)) (sym same)
          (confirmed_room journal b port upto left (nat_le upto (port_in b port).out_base) L there)
    ]
