-- A test as a number.
use Rattle.std.proofs.Common.{◌≡◌, ◌≤◌, Bool, true, false, refl, arith}
use Rattle.tp_model.specs.Word.{bit}

pub bit_small : (b : Bool) → bit b ≤ 1
bit_small true = omega arith
bit_small false = omega arith

pub bit_none : (b : Bool) → bit b ≡ 0 → b ≡ false
bit_none true e = absurd (omega arith)
bit_none false e = refl

pub bit_some : (b : Bool) → 1 ≤ bit b → b ≡ true
bit_some true h = refl
bit_some false h = absurd (omega arith)
