-- Words that are written after what a token puts into memory.
use Rattle.std.proofs.Common.{◌≡◌, ℕ, ◌%◌, Bool, true, false, cond, ltb, List, [], ◌∷◌, length, Some, None, is_some, refl, sym, ap, ◌∙◌}
use Rattle.tp_node.proofs.Lower.{word_offset, word_at, set_word, stored, length-stored, length-byte_stored}
use Rattle.tp_node.specs.declared.first.First.{First}
use Rattle.tp_node.specs.declared.first.First.TheVariants.{Nothing, Byte, Word}
use Rattle.tp_node.specs.First.{first_stored}

-- it keeps the length of memory
pub length-first_stored : (first : First) (memory m : List ℕ) → length memory % 4 ≡ 0 → first_stored first memory ≡ Some m → length m ≡ length memory
length-first_stored Nothing memory m whole is = ap length (cc)
length-first_stored (Byte address byte) memory m whole is = length-byte_stored memory address byte m is
length-first_stored (Word address word) memory m whole is = length-stored memory ((address, word) ∷ []) m whole is

is_some-cond : {A : Type 0} (b : Bool) (x : A) → is_some (cond b (Some x) None) ≡ b
is_some-cond true x = refl
is_some-cond false x = refl

-- so a word after it has its place exactly if it has one before it
pub word_behind : (first : First) (memory m : List ℕ) (address word : ℕ) → length memory % 4 ≡ 0 → first_stored first memory ≡ Some m
    → is_some (stored m ((address, word) ∷ [])) ≡ is_some (word_at memory address)
word_behind first memory m address word whole is =
    is_some-cond (ltb (word_offset address) (length m)) (set_word m (word_offset address) word)
    ∙ ap (ltb (word_offset address)) (length-first_stored first memory m whole is)
    ∙ sym (is_some-cond (ltb (word_offset address) (length memory)) _)
