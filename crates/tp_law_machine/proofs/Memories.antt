-- Memory keeps its length, and what is stored in it and read from it are bytes.
use Rattle.std.proofs.Common.{◌≡◌, ℕ, zero, suc, ◌+◌, ◌%◌, ◌^◌, ◌<◌, Bool, true, false, cond, List, [], ◌∷◌, ◌++◌, length, take, drop, refl, subst, ◌∙◌, arith, Option, Some, None, slice_get}
use Rattle.std.specs.Prelude.{◌==◌, nat_lt, ◌&&◌, slice_range}
use Rattle.tp_law_machine.proofs.Lower.{option_and_then, from_le_bytes, to_le_bytes, w32, offset, word_offset, byte_at, word_at, set_byte, set_word, byte_stored, stored, is_inside, moved, copied, changed}
use Rattle.tp_law_machine.proofs.Writes.{length-stored, length-byte_stored, length-copied, length-changed}
use Rattle.tp_law_machine.proofs.Numbers.{AreBytes, are_bytes-take, are_bytes-drop, are_bytes-append}
use Rattle.tp_law_machine.proofs.EndImages.{word_below}
use Rattle.tp_law_machine.proofs.Partial.{cond_some}

-- ## Bytes

word_bytes : (word : ℕ) → AreBytes (to_le_bytes w32 word)
word_bytes word = (omega arith, (omega arith, (omega arith, (omega arith, tt))))

set_word_bytes : (memory : List ℕ) (at word : ℕ) → AreBytes memory → AreBytes (set_word memory at word)
set_word_bytes memory at word h =
    are_bytes-append (take at memory ++ to_le_bytes w32 word) (drop (at + 4) memory)
    (are_bytes-append (take at memory) (to_le_bytes w32 word) (are_bytes-take at memory h) (word_bytes word)) (are_bytes-drop (at + 4) memory h)

set_byte_bytes : (memory : List ℕ) (at byte : ℕ) → AreBytes memory → byte < 256 → AreBytes (set_byte memory at byte)
set_byte_bytes memory at byte h small =
    are_bytes-append (take at memory) (byte ∷ drop (at + 1) memory) (are_bytes-take at memory h) (small, are_bytes-drop (at + 1) memory h)

stored_bytes : (memory : List ℕ) (writes : List (ℕ × ℕ)) (after : List ℕ) → AreBytes memory → stored memory writes ≡ Some after → AreBytes after
stored_bytes memory [] after h e = let same : memory ≡ after = cc in subst AreBytes same h
stored_bytes memory (write ∷ writes) after h e =
    let now = set_word memory (word_offset write.0) write.1 in
    stored_bytes now writes after (set_word_bytes memory (word_offset write.0) write.1 h) (cond_some (nat_lt (word_offset write.0) (length memory)) (stored now writes) after e).1

byte_stored_bytes : (memory : List ℕ) (address byte : ℕ) (after : List ℕ) → AreBytes memory → byte < 256 → byte_stored memory address byte ≡ Some after → AreBytes after
byte_stored_bytes memory address byte after h small e =
    let found = (cond_some (nat_lt (offset address) (length memory)) (Some (set_byte memory (offset address) byte)) after e).1 in
    let same : set_byte memory (offset address) byte ≡ after = cc in
    subst AreBytes same (set_byte_bytes memory (offset address) byte h small)

range_bytes : (memory : List ℕ) (from to : ℕ) → AreBytes memory → AreBytes (slice_range memory from to)
range_bytes memory from to h = are_bytes-take _ (drop from memory) (are_bytes-drop from memory h)

moved_bytes : (memory : List ℕ) (to from count : ℕ) → AreBytes memory → AreBytes (moved memory to from count)
moved_bytes memory to from count h =
    are_bytes-append (take to memory ++ slice_range memory from (from + count)) (drop (to + count) memory)
    (are_bytes-append (take to memory) (slice_range memory from (from + count)) (are_bytes-take to memory h) (range_bytes memory from (from + count) h)) (are_bytes-drop (to + count) memory h)

copied_bytes : (memory : List ℕ) (to from count : ℕ) (after : List ℕ) → AreBytes memory → copied memory to from count ≡ Some after → AreBytes after
copied_bytes memory to from count after h e =
    let whole = cond (count == 0) memory (moved memory (offset to) (offset from) count) in
    let found = (cond_some (is_inside memory to count && is_inside memory from count) (Some whole) after e).1 in
    let same : whole ≡ after = cc in
    subst AreBytes same (go (count == 0))
  where
    go : (b : Bool) → AreBytes (cond b memory (moved memory (offset to) (offset from) count))
    go true = h
    go false = moved_bytes memory (offset to) (offset from) count h

changed_bytes : (memory : List ℕ) (to from count : ℕ) (writes : List (ℕ × ℕ)) (after : List ℕ) → AreBytes memory → changed memory to from count writes ≡ Some after → AreBytes after
changed_bytes memory to from count writes after h = go (copied memory to from count) (λ now is. copied_bytes memory to from count now h is)
  where
    go : (o : Option (List ℕ)) → ((now : List ℕ) → o ≡ Some now → AreBytes now) → option_and_then (λ m. stored m writes) o ≡ Some after → AreBytes after
    go None h e = cc
    go (Some now) h e = stored_bytes now writes after (h now refl) e

-- ## Memory

-- memory of `n` bytes, which are whole words
pub record Holds (n : ℕ) (memory : List ℕ) : Type 0 where
  pub long : length memory ≡ n
  pub whole : n % 4 ≡ 0
  pub bytes : AreBytes memory

-- this is true of memory that may exist
pub record HoldsIf (n : ℕ) (o : Option (List ℕ)) : Type 0 where
  pub is : (memory : List ℕ) → o ≡ Some memory → Holds n memory

pub same_holds : {n : ℕ} {memory : List ℕ} → Holds n memory → HoldsIf n (Some memory)
same_holds {n} {memory} H = record { is = λ after e. let same : memory ≡ after = cc in subst (Holds n) same H }

pub stored_holds : {n : ℕ} {memory : List ℕ} (writes : List (ℕ × ℕ)) → Holds n memory → HoldsIf n (stored memory writes)
stored_holds {n} {memory} writes H = record {
  is = λ after e. record {
    long = length-stored memory writes after (rw H.long H.whole) e ∙ H.long;
    whole = H.whole;
    bytes = stored_bytes memory writes after H.bytes e;
  };
}

pub byte_holds : {n : ℕ} {memory : List ℕ} (address byte : ℕ) → Holds n memory → byte < 256 → HoldsIf n (byte_stored memory address byte)
byte_holds {n} {memory} address byte H small = record {
  is = λ after e. record {
    long = length-byte_stored memory address byte after e ∙ H.long;
    whole = H.whole;
    bytes = byte_stored_bytes memory address byte after H.bytes small e;
  };
}

pub copied_holds : {n : ℕ} {memory : List ℕ} (to from count : ℕ) → Holds n memory → HoldsIf n (copied memory to from count)
copied_holds {n} {memory} to from count H = record {
  is = λ after e. record {
    long = length-copied memory to from count after e ∙ H.long;
    whole = H.whole;
    bytes = copied_bytes memory to from count after H.bytes e;
  };
}

pub changed_holds : {n : ℕ} {memory : List ℕ} (to from count : ℕ) (writes : List (ℕ × ℕ)) → Holds n memory → HoldsIf n (changed memory to from count writes)
changed_holds {n} {memory} to from count writes H = record {
  is = λ after e. record {
    long = length-changed memory to from count writes after (rw H.long H.whole) e ∙ H.long;
    whole = H.whole;
    bytes = changed_bytes memory to from count writes after H.bytes e;
  };
}

-- ## Reading

-- a number that may be there is below a limit
pub record IsBelow (limit : ℕ) (o : Option ℕ) : Type 0 where
  pub is : (x : ℕ) → o ≡ Some x → x < limit

element_below : (bytes : List ℕ) (i x : ℕ) → AreBytes bytes → slice_get bytes i ≡ Some x → x < 256
element_below [] i x h e = cc
element_below (byte ∷ bytes) zero x h e = let same : byte ≡ x = cc in subst (λ n. n < 256) same h.0
element_below (byte ∷ bytes) (suc i) x h e = element_below bytes i x h.1 e

pub byte_read : (memory : List ℕ) (address : ℕ) → AreBytes memory → IsBelow 256 (byte_at memory address)
byte_read memory address h = record { is = λ x e. element_below memory (offset address) x h e }

pub word_read : (memory : List ℕ) (address : ℕ) → AreBytes memory → IsBelow (2 ^ 32) (word_at memory address)
word_read memory address h = record {
  is = λ x e.
      let at = word_offset address in
      let word = from_le_bytes w32 (slice_range memory at (at + 4)) in
      let found = (cond_some (nat_lt at (length memory)) (Some word) x e).1 in
      let same : word ≡ x = cc in
      subst (λ n. n < 2 ^ 32) same (word_below (slice_range memory at (at + 4)) (range_bytes memory at (at + 4) h) 0);
}
