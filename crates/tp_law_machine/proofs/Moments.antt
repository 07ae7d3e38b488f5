-- What a crash may leave of a device: after a write, after a call that broke, and with ranges that are all inside one range.
use Rattle.std.proofs.Common.{◌≡◌, ℕ, ◌+◌, ◌-◌, ◌<◌, ◌≤◌, ◌⊎◌, inl, inr, List, [], ◌∷◌, ◌++◌, length, take, drop, get_or, refl, sym, ap, ◌∙◌, arith, length-append, length-drop}
use Rattle.tp_law_machine.proofs.Lower.{length-take-le, get_or_append_left, get_or-take, get_or-append_right, get_or-drop, same_number_lists, Moment, MayBe, IsOutside, Write, Sync, Read, written, done, within, broken, IsWithin, AreWithin, SameOutside}
use Rattle.tp_model.specs.Disk.{Call}

-- ## Bytes with others over them

pub length-written : (old : List ℕ) (at : ℕ) (bytes : List ℕ) → at + length bytes ≤ length old → length (written old at bytes) ≡ length old
length-written old at bytes room =
    let whole = length-append (take at old ++ bytes) (drop (at + length bytes) old) in
    let front = length-append (take at old) bytes in
    let rest = length-drop (at + length bytes) old in
    let first : length (take at old) ≡ at = length-take-le at old (omega arith) in
    omega (arith, whole, front, rest, first)

pub get_or-written_outside : (old : List ℕ) (at : ℕ) (bytes : List ℕ) → at + length bytes ≤ length old
    → (place : ℕ) → (place < at) ⊎ (at + length bytes ≤ place) → get_or (written old at bytes) place 0 ≡ get_or old place 0
get_or-written_outside old at bytes room place (inl low) =
    let first : length (take at old) ≡ at = length-take-le at old (omega arith) in
    let size : length (take at old ++ bytes) ≡ at + length bytes = omega (arith, length-append (take at old) bytes) in
    get_or_append_left (take at old ++ bytes) (drop (at + length bytes) old) 0 place (omega arith)
    ∙ get_or_append_left (take at old) bytes 0 place (omega arith)
    ∙ get_or-take at old place 0 low
get_or-written_outside old at bytes room place (inr high) =
    let first : length (take at old) ≡ at = length-take-le at old (omega arith) in
    let size : length (take at old ++ bytes) ≡ at + length bytes = omega (arith, length-append (take at old) bytes) in
    get_or-append_right (take at old ++ bytes) (drop (at + length bytes) old) (at + length bytes) place 0 size high
    ∙ get_or-drop (at + length bytes) old (place - (at + length bytes)) 0
    ∙ ap (λ n. get_or old n 0) (omega arith)

pub get_or-written_inside : (old : List ℕ) (at : ℕ) (bytes : List ℕ) → at + length bytes ≤ length old → (k : ℕ) → k < length bytes → get_or (written old at bytes) (at + k) 0 ≡ get_or bytes k 0
get_or-written_inside old at bytes room k low =
    let first : length (take at old) ≡ at = length-take-le at old (omega arith) in
    let size : length (take at old ++ bytes) ≡ at + length bytes = omega (arith, length-append (take at old) bytes) in
    get_or_append_left (take at old ++ bytes) (drop (at + length bytes) old) 0 (at + k) (omega arith)
    ∙ get_or-append_right (take at old) bytes at (at + k) 0 first (omega arith)
    ∙ ap (λ n. get_or bytes n 0) (omega arith)

pub written_same_outside : (old : List ℕ) (at : ℕ) (bytes : List ℕ) → at + length bytes ≤ length old → SameOutside at (length bytes) old (written old at bytes)
written_same_outside old at bytes room = record { same_length = length-written old at bytes room; same = get_or-written_outside old at bytes room }

-- ## Places outside ranges

-- outside a list of ranges and one more
pub outside_last : (ranges : List (ℕ × ℕ)) (range : ℕ × ℕ) (place : ℕ) → IsOutside ranges place → (place < range.0) ⊎ (range.0 + range.1 ≤ place)
    → IsOutside (ranges ++ range ∷ []) place
outside_last [] range place all one = (one, tt)
outside_last (first ∷ ranges) range place all one = (all.0, outside_last ranges range place all.1 one)

pub outside_each : (ranges : List (ℕ × ℕ)) (range : ℕ × ℕ) (place : ℕ) → IsOutside (ranges ++ range ∷ []) place
    → IsOutside ranges place × ((place < range.0) ⊎ (range.0 + range.1 ≤ place))
outside_each [] range place all = (tt, all.0)
outside_each (first ∷ ranges) range place all = let rest = outside_each ranges range place all.1 in ((all.0, rest.0), rest.1)

-- outside a range is outside each range in it
pub outside_inner : (outer inner : ℕ × ℕ) (place : ℕ) → IsWithin outer inner → (place < outer.0) ⊎ (outer.0 + outer.1 ≤ place)
    → (place < inner.0) ⊎ (inner.0 + inner.1 ≤ place)
outside_inner outer inner place within (inl low) = inl (let first = within.0 in omega arith)
outside_inner outer inner place within (inr high) = inr (let last = within.1 in omega arith)

pub outside_all_inner : (outer : ℕ × ℕ) (ranges : List (ℕ × ℕ)) (place : ℕ) → AreWithin outer ranges → (place < outer.0) ⊎ (outer.0 + outer.1 ≤ place) → IsOutside ranges place
outside_all_inner outer [] place all out = tt
outside_all_inner outer (range ∷ ranges) place all out = (outside_inner outer range place all.0 out, outside_all_inner outer ranges place all.1 out)

pub within_last : (outer : ℕ × ℕ) (ranges : List (ℕ × ℕ)) (range : ℕ × ℕ) → AreWithin outer ranges → IsWithin outer range → AreWithin outer (ranges ++ range ∷ [])
within_last outer [] range all one = (one, tt)
within_last outer (first ∷ ranges) range all one = (all.0, within_last outer ranges range all.1 one)

-- ## What a crash may leave

-- the bytes as they are
pub may_stand : (m : Moment) → MayBe m m.bytes
may_stand m = record { same_length = refl; same_outside = λ place out. refl }

-- the bytes after a write, of a crash within it
pub may_be_written : (m : Moment) (at : ℕ) (bytes : List ℕ) → at + length bytes ≤ length m.bytes → MayBe (within (Write at bytes) m) (written m.bytes at bytes)
may_be_written m at bytes room = record {
  same_length = length-written m.bytes at bytes room;
  same_outside = λ place out. get_or-written_outside m.bytes at bytes room place (outside_each m.unsynced (at, length bytes) place out).1;
}

-- after a write, what a crash within it may leave
pub write_may : (m : Moment) (at : ℕ) (bytes left : List ℕ) → at + length bytes ≤ length m.bytes → MayBe (done (Write at bytes) m) left → MayBe (within (Write at bytes) m) left
write_may m at bytes left room may = record {
  same_length = may.same_length ∙ length-written m.bytes at bytes room;
  same_outside = λ place out. may.same_outside place out ∙ get_or-written_outside m.bytes at bytes room place (outside_each m.unsynced (at, length bytes) place out).1;
}

-- and the other way round
pub may_write : (m : Moment) (at : ℕ) (bytes left : List ℕ) → at + length bytes ≤ length m.bytes → MayBe (within (Write at bytes) m) left → MayBe (done (Write at bytes) m) left
may_write m at bytes left room may = record {
  same_length = may.same_length ∙ sym (length-written m.bytes at bytes room);
  same_outside = λ place out. may.same_outside place out ∙ sym (get_or-written_outside m.bytes at bytes room place (outside_each m.unsynced (at, length bytes) place out).1);
}

-- before a call, what a crash within it may leave
pub may_within : (m : Moment) (call : Call) (left : List ℕ) → MayBe m left → MayBe (within call m) left
may_within m (Write at bytes) left may = record {
  same_length = may.same_length;
  same_outside = λ place out. may.same_outside place (outside_each m.unsynced (at, length bytes) place out).0;
}
may_within m Sync left may = may
may_within m Read left may = may

-- after a call that broke, what a crash within it may leave
pub broken_may : (m : Moment) (call : Call) (stood left : List ℕ) → MayBe (within call m) stood → MayBe (broken call stood m) left → MayBe (within call m) left
broken_may m (Write at bytes) stood left may more = record {
  same_length = more.same_length ∙ may.same_length;
  same_outside = λ place out. more.same_outside place out ∙ may.same_outside place out;
}
broken_may m Sync stood left may more = record {
  same_length = more.same_length ∙ may.same_length;
  same_outside = λ place out. more.same_outside place out ∙ may.same_outside place out;
}
broken_may m Read stood left may more = record {
  same_length = more.same_length ∙ may.same_length;
  same_outside = λ place out. more.same_outside place out ∙ may.same_outside place out;
}

-- once all is synced, the bytes as they are
pub synced_may : (bytes left : List ℕ) → MayBe (record { bytes = bytes; unsynced = [] }) left → left ≡ bytes
synced_may bytes left may = same_number_lists left bytes may.same_length (λ k _. may.same_outside k tt)

-- ranges that are inside one range count as that one
pub loose_may : (m : Moment) (outer : ℕ × ℕ) (left : List ℕ) → AreWithin outer m.unsynced → MayBe m left
    → MayBe (record { bytes = m.bytes; unsynced = outer ∷ [] }) left
loose_may m outer left all may = record {
  same_length = may.same_length;
  same_outside = λ place out. may.same_outside place (outside_all_inner outer m.unsynced place all out.0);
}

-- and with one more beside them
pub loose_more : (bytes : List ℕ) (ranges : List (ℕ × ℕ)) (outer range : ℕ × ℕ) (left : List ℕ) → AreWithin outer ranges
    → MayBe (record { bytes = bytes; unsynced = ranges ++ range ∷ [] }) left → MayBe (record { bytes = bytes; unsynced = outer ∷ range ∷ [] }) left
loose_more bytes ranges outer range left all may = record {
  same_length = may.same_length;
  same_outside = λ place out. may.same_outside place (outside_last ranges range place (outside_all_inner outer ranges place all out.0) out.1.0);
}
