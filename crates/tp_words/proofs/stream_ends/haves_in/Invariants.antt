use Rattle.std.proofs.Common.{◌≡◌, All, map, take}
use Rattle.tp_words.specs.Ends.{IsHave, have_text}
use Rattle.tp_words.proofs.stream_ends.haves_in.Given as goal

abbrev pub invariant-loop-text : goal.invariant-loop-text
invariant-loop-text l = record {
  each : All IsHave l.haves.items;
  typed : map have_text l.haves.items ≡ map (λ text. text.now) (take l.text-index l.texts);
}
