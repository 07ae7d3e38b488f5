-- What the machine computes fits a word.
use Rattle.std.proofs.Common.{◌≡◌, ℕ, ◌+◌, ◌*◌, ◌/◌, ◌%◌, ◌^◌, ◌<◌, Bool, true, false, cond, List, [], ◌∷◌, sym, subst, arith, Option, Some, None}
use Rattle.std.specs.Prelude.{◌==◌, nat_lt, is_some, ℤ, pos, negsuc, Result, Ok, Err}
use Rattle.tp_law_machine.proofs.Lower.{cast_unsigned, int_wrap, w32, FitsSigned, div-le_self, of_z-to_z, SFits-int_wrap, Fun, Opr, Instr, DecodeFault, wrap, less, signed, word_of, bit, operand_of, op_of, fun_of, is_prefix, prefixed, instr_at, reads, shl, shr}
use Rattle.tp_model.specs.declared.instruction.DecodeFault.TheVariants.{LongPrefix, UnknownOp}

-- ## Arithmetic

pub bit_below : (flag : Bool) → bit flag < 2 ^ 32
bit_below true = omega arith
bit_below false = omega arith

pub less_below : (a b : ℕ) → less a b < 2 ^ 32
less_below a b = omega arith

unsigned_below : (z : ℤ) → FitsSigned w32 z → cast_unsigned w32 z < 2 ^ 32
unsigned_below (pos n) fits = omega (arith, fits.sfits)
unsigned_below (negsuc n) fits = omega arith

pub word_of_below : (z : ℤ) → word_of z < 2 ^ 32
word_of_below z = unsigned_below (int_wrap w32 z) (SFits-int_wrap w32 z)

pub shl_below : (x places : ℕ) → shl x places < 2 ^ 32
shl_below x places = go (nat_lt places 32)
  where
    go : (b : Bool) → cond b (wrap (x * 2 ^ places)) 0 < 2 ^ 32
    go true = omega arith
    go false = omega arith

pub shr_below : (x places : ℕ) → x < 2 ^ 32 → shr x places < 2 ^ 32
shr_below x places h = go (nat_lt places 32)
  where
    go : (b : Bool) → cond b (x / 2 ^ places) 0 < 2 ^ 32
    go true = omega (arith, div-le_self x (2 ^ places))
    go false = omega arith

-- ## Operands

-- the operand of an instruction that was read is a word
pub record ReadsWord (read : Result Instr DecodeFault) : Type 0 where
  pub is : (i : Instr) → read ≡ Ok i → operand_of i < 2 ^ 32

abbrev instr_with : Fun → ℕ → ℕ → Instr
instr_with fun e len = record { fun = fun; operand = signed e; len = len }

spelt_word : (fun : Fun) (e len : ℕ) → e < 2 ^ 32 → ReadsWord (Ok (instr_with fun e len))
spelt_word fun e len h = record {
  is = λ i same.
      let this : instr_with fun e len ≡ i = cc in
      subst (λ (j : Instr). operand_of j < 2 ^ 32) this (subst (λ n. n < 2 ^ 32) (sym (of_z-to_z w32 e h)) h);
}

no_word : (fault : DecodeFault) → ReadsWord (Err fault)
no_word fault = record { is = λ i same. cc }

instr_word : (fun : Option Fun) (e len : ℕ) → e < 2 ^ 32 → ReadsWord (instr_at fun e len)
instr_word (Some Opr) e len h = go (is_some (op_of e))
  where
    go : (b : Bool) → ReadsWord (cond b (Ok (instr_with Opr e len)) (Err UnknownOp))
    go true = spelt_word Opr e len h
    go false = no_word UnknownOp
instr_word (Some fun) e len h = spelt_word fun e len h
instr_word None e len h = no_word UnknownOp

either_word : (b : Bool) (x y : Result Instr DecodeFault) → ReadsWord x → ReadsWord y → ReadsWord (cond b x y)
either_word true x y h k = h
either_word false x y h k = k

pub reads_word : (count v : ℕ) (bytes : List ℕ) → ReadsWord (reads count v bytes)
reads_word count v [] = no_word _
reads_word count v (byte ∷ bytes) =
    either_word (is_prefix byte) _ _
    (either_word (count == 16) _ _ (no_word LongPrefix) (reads_word (count + 1) (prefixed v byte) bytes))
    (instr_word (fun_of (byte / 16)) (wrap (v + byte % 16)) (count + 1) (omega arith))
