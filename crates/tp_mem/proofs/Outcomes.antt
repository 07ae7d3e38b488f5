-- What a call that writes answers, by where its writes go.
use Rattle.std.proofs.Common.{◌≡◌, ℕ, ◌%◌, ◌≤◌, Bool, true, false, ◌&&◌, cond, List, [], ◌∷◌, length, Option, Some, None, Ok, Err, eqb, refl, sym, ap, ◌∙◌}
use Rattle.std.specs.Prelude.{option_and_then}
use Rattle.tp_mem.proofs.Lower.{le-ltb, Frames, offset, word_offset, stored, is_inside, moved, copied, changed}
use Rattle.tp_mem.specs.After.{changed_after}
use Rattle.tp_mem.specs.Bytes.{byte_changed}
use Rattle.tp_mem.specs.Copies.{IsPaged}
use Rattle.tp_mem.specs.Ranges.{are_inside}
use Rattle.tp_mem.specs.Stored.{IsStored}
use Rattle.tp_mem.specs.declared.fault.WriteFault.TheVariants.{Outside}
use Rattle.tp_mem.proofs.Writes.{length-stored, changed_outside, is_inside-long}
use Rattle.tp_mem.proofs.Written.{done}

-- writes that aren't possible leave memory as it was
pub IsStored-outside : (written : Option (List ℕ)) (before : List ℕ) → written ≡ None → IsStored written before (Err Outside) before
IsStored-outside None before is = refl
IsStored-outside (Some after) before is = absurd (cc)

-- a block outside memory
cond-none : (b : Bool) (o : Option (List ℕ)) → cond (b && false) o None ≡ None
cond-none true o = refl
cond-none false o = refl

pub changed-to_outside : (memory : List ℕ) (to from count : ℕ) (writes : List (ℕ × ℕ)) → is_inside memory to count ≡ false → changed memory to from count writes ≡ None
changed-to_outside memory to from count writes out = rw out refl

pub changed-from_outside : (memory : List ℕ) (to from count : ℕ) (writes : List (ℕ × ℕ)) → is_inside memory from count ≡ false → changed memory to from count writes ≡ None
changed-from_outside memory to from count writes out =
    let none : copied memory to from count ≡ None = rw out (cond-none (is_inside memory to count) (Some (cond (eqb count 0) memory (moved memory (offset to) (offset from) count)))) in
    ap (option_and_then (λ m. stored m writes)) none

-- a byte outside memory
pub byte_changed-past : (memory : List ℕ) (address byte : ℕ) (writes : List (ℕ × ℕ)) → length memory ≤ offset address → byte_changed memory address byte writes ≡ None
byte_changed-past memory address byte writes past = rw (le-ltb (offset address) (length memory) past) refl

-- a first word outside memory, and what is outside after one
pub changed_after-past : (memory : List ℕ) (first : ℕ × ℕ) (to from count : ℕ) (writes : List (ℕ × ℕ)) → length memory ≤ word_offset first.0 → changed_after memory first to from count writes ≡ None
changed_after-past memory first to from count writes past = rw (le-ltb (word_offset first.0) (length memory) past) refl

none_behind : (o : Option (List ℕ)) (rest : List ℕ → Option (List ℕ)) → ((m : List ℕ) → o ≡ Some m → rest m ≡ None) → option_and_then rest o ≡ None
none_behind None rest none = refl
none_behind (Some m) rest none = none m refl

pub changed_after-outside : (memory : List ℕ) (first : ℕ × ℕ) (to from count : ℕ) (writes : List (ℕ × ℕ)) → length memory % 4 ≡ 0 → ((m : List ℕ) → length m ≡ length memory → changed m to from count writes ≡ None) → changed_after memory first to from count writes ≡ None
changed_after-outside memory first to from count writes whole none =
    none_behind (stored memory (first ∷ [])) (λ m. changed m to from count writes) (λ m there. none m (length-stored memory (first ∷ []) m whole there))

pub changed_after-to_outside : (memory : List ℕ) (first : ℕ × ℕ) (to from count : ℕ) (writes : List (ℕ × ℕ)) → length memory % 4 ≡ 0 → is_inside memory to count ≡ false → changed_after memory first to from count writes ≡ None
changed_after-to_outside memory first to from count writes whole out =
    changed_after-outside memory first to from count writes whole (λ m long. changed-to_outside m to from count writes (is_inside-long memory m to count long ∙ out))

pub changed_after-from_outside : (memory : List ℕ) (first : ℕ × ℕ) (to from count : ℕ) (writes : List (ℕ × ℕ)) → length memory % 4 ≡ 0 → is_inside memory from count ≡ false → changed_after memory first to from count writes ≡ None
changed_after-from_outside memory first to from count writes whole out =
    changed_after-outside memory first to from count writes whole (λ m long. changed-from_outside m to from count writes (is_inside-long memory m from count long ∙ out))

pub changed_after-words_outside : (memory : List ℕ) (first : ℕ × ℕ) (to from count : ℕ) (writes : List (ℕ × ℕ)) → length memory % 4 ≡ 0 → are_inside (length memory) writes ≡ false → changed_after memory first to from count writes ≡ None
changed_after-words_outside memory first to from count writes whole out =
    changed_after-outside memory first to from count writes whole (λ m long.
    let whole_m : length m % 4 ≡ 0 = rw long whole in
    changed_outside m to from count writes whole_m (ap (λ n. are_inside n writes) long ∙ out))

-- what is true of every memory stays true while its length does
pub IsPaged-same_length : (live after : List ℕ) (shared : List Bool) (copies : List (Option ℕ)) (frames : Frames) (is_frozen : Bool) → length after ≡ length live → IsPaged live shared copies frames is_frozen → IsPaged after shared copies frames is_frozen
IsPaged-same_length live after shared copies frames is_frozen long is = record { whole = long ∙ is.whole; few = is.few; flags = is.flags; own = is.own; thawed = is.thawed }

-- memory whose writes were made
pub IsStored-done : (written : List ℕ → Option (List ℕ)) (memory live new : List ℕ) → live ≡ memory → written live ≡ Some new → IsStored (written memory) memory (Ok tt) new
IsStored-done written memory live new same is = done (written memory) memory new (ap written (sym same) ∙ is)
