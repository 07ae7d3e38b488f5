-- Ends of links as bytes, read back.
use Rattle.std.proofs.Common.{◌≡◌, ℕ, zero, suc, ◌*◌, ◌^◌, ◌<◌, Bool, true, false, List, [], ◌∷◌, ◌++◌, length, get_or, drop, refl, sym, ap, ◌∙◌, append_assoc, length-append, arith, Some, None}
use Rattle.std.specs.Prelude.{◌==◌, if◌then◌else◌, flat_map}
use Rattle.tp_law_machine.proofs.Lower.{AllByRecursion, w32, from_le_bytes, drop-append_seam, from_le_bytes-to_le_bytes_4, Transfer, OutEnd, OutIdle, Waits, InEnd, InIdle, Inputs, Enabled, transfer_at, out_end_bytes, in_end_bytes, out_end_at, in_end_at, ends_at, IsTransfer, FitsOutEnd, FitsInEnd, u32_bytes, u8_at, u32_at}
use Rattle.tp_law_machine.specs.NodeOfBytes.{HoldsByte}
use Rattle.tp_law_machine.proofs.Numbers.{AreBytes, byte_below, are_bytes-drop}

-- ## The ends of a node, read back

-- a record, field by field
abbrev transfer_of : ℕ → ℕ → ℕ → Transfer
transfer_of process pointer left = record { process = process; pointer = pointer; left = left }

transfer_back : (t : Transfer) → IsTransfer t → transfer_of (from_le_bytes w32 (u32_bytes t.process)) (from_le_bytes w32 (u32_bytes t.pointer)) (from_le_bytes w32 (u32_bytes t.left)) ≡ t
transfer_back t h = rw (from_le_bytes-to_le_bytes_4 t.process h.0, from_le_bytes-to_le_bytes_4 t.pointer h.1, from_le_bytes-to_le_bytes_4 t.left h.2) refl

pub out_end_at-bytes : (end : OutEnd) (rest : List ℕ) → FitsOutEnd end → out_end_at (out_end_bytes end ++ rest) ≡ end
out_end_at-bytes OutIdle rest h = refl
out_end_at-bytes (Waits t) rest h = ap Waits (transfer_back t h)

pub in_end_at-bytes : (end : InEnd) (rest : List ℕ) → FitsInEnd end → in_end_at (in_end_bytes end ++ rest) ≡ end
in_end_at-bytes (InIdle None) rest h = refl
in_end_at-bytes (InIdle (Some byte)) rest h = refl
in_end_at-bytes (Inputs t) rest h = ap Inputs (transfer_back t h)
in_end_at-bytes (Enabled process) rest h = ap Enabled (from_le_bytes-to_le_bytes_4 process h)

pub length-out_end : (end : OutEnd) → length (out_end_bytes end) ≡ 16
length-out_end OutIdle = refl
length-out_end (Waits t) = refl

pub length-in_end : (end : InEnd) → length (in_end_bytes end) ≡ 16
length-in_end (InIdle None) = refl
length-in_end (InIdle (Some byte)) = refl
length-in_end (Inputs t) = refl
length-in_end (Enabled process) = refl

-- ends that are one after the other
module _ {End : Type 0} (Fits : End → Type 0) (spelt : End → List ℕ) (read : List ℕ → End)
    (back : (end : End) (rest : List ℕ) → Fits end → read (spelt end ++ rest) ≡ end)
    (long : (end : End) → length (spelt end) ≡ 16)
  where
    past : (end : End) (rest : List ℕ) → drop 16 (spelt end ++ rest) ≡ rest
    past end rest = ap (λ n. drop n (spelt end ++ rest)) (sym (long end)) ∙ drop-append_seam (spelt end) rest

    pub ends_back : (ends : List End) (rest : List ℕ) → AllByRecursion Fits ends → ends_at read (length ends) (flat_map spelt ends ++ rest) ≡ ends
    unfolding ends_at
    ends_back [] rest h = refl
    ends_back (end ∷ ends) rest h =
        rw (append_assoc (spelt end) (flat_map spelt ends) rest, back end (flat_map spelt ends ++ rest) h.0, past end (flat_map spelt ends ++ rest), ends_back ends rest h.1) refl

    pub length-ends : (ends : List End) → length (flat_map spelt ends) ≡ 16 * length ends
    length-ends [] = refl
    length-ends (end ∷ ends) = omega (arith, length-append (spelt end) (flat_map spelt ends), long end, length-ends ends)

-- ## Ends that bytes spell

pub word_below : (bytes : List ℕ) → AreBytes bytes → (k : ℕ) → u32_at bytes k < 2 ^ 32
word_below bytes h k =
    let b : (i : ℕ) → get_or (drop k bytes) i 0 < 256 = byte_below (drop k bytes) (are_bytes-drop k bytes h) in
    omega (arith, b 0, b 1, b 2, b 3)

transfer_fits : (bytes : List ℕ) → AreBytes bytes → IsTransfer (transfer_at bytes)
transfer_fits bytes h = (word_below bytes h 4, word_below bytes h 8, word_below bytes h 12)

pub out_end_fits : (bytes : List ℕ) → AreBytes bytes → FitsOutEnd (out_end_at bytes)
out_end_fits bytes h = go (u8_at bytes 0 == 0)
  where
    go : (b : Bool) → FitsOutEnd (if b then OutIdle else Waits (transfer_at bytes))
    go true = tt
    go false = transfer_fits bytes h

pub in_end_fits : (bytes : List ℕ) → AreBytes bytes → FitsInEnd (in_end_at bytes)
in_end_fits bytes h = go (u8_at bytes 0 == 0) (u8_at bytes 0 == 1)
  where
    go : (b c : Bool) → FitsInEnd (if b then InIdle (if u8_at bytes 1 == 0 then None else Some (u8_at bytes 2)) else if c then Inputs (transfer_at bytes) else Enabled (u32_at bytes 4))
    go true c = tt
    go false true = transfer_fits bytes h
    go false false = word_below bytes h 4

pub in_end_holds : (bytes : List ℕ) → AreBytes bytes → HoldsByte (in_end_at bytes)
in_end_holds bytes h = go (u8_at bytes 0 == 0) (u8_at bytes 0 == 1) (u8_at bytes 1 == 0)
  where
    go : (b c d : Bool) → HoldsByte (if b then InIdle (if d then None else Some (u8_at bytes 2)) else if c then Inputs (transfer_at bytes) else Enabled (u32_at bytes 4))
    go true c true = tt
    go true c false = byte_below bytes h 2
    go false true d = tt
    go false false d = tt

pub ends_fit : {End : Type 0} (Fits : End → Type 0) (read : List ℕ → End) → ((bytes : List ℕ) → AreBytes bytes → Fits (read bytes))
    → (count : ℕ) (bytes : List ℕ) → AreBytes bytes → AllByRecursion Fits (ends_at read count bytes)
unfolding ends_at
ends_fit Fits read fits zero bytes h = tt
ends_fit Fits read fits (suc count) bytes h = (fits bytes h, ends_fit Fits read fits count (drop 16 bytes) (are_bytes-drop 16 bytes h))
