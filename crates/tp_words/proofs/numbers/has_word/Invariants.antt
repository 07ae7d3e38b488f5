-- The words so far are others.
use Rattle.std.proofs.Common.{◌≡◌, false, take}
use Rattle.tp_words.specs.Typed.{has_word}
use Rattle.tp_words.proofs.numbers.has_word.Given as goal

abbrev pub invariant-loop-word : goal.invariant-loop-word
invariant-loop-word l = has_word l.text (take l.word-index l.words) ≡ false
