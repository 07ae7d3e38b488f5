use Rattle.std.proofs.Common.{◌≡◌, All, map, take}
use Rattle.tp_words.specs.Ends.{IsFile, file_text}
use Rattle.tp_words.proofs.stream_ends.files_in.Given as goal

abbrev pub invariant-loop-text : goal.invariant-loop-text
invariant-loop-text l = record {
  each : All IsFile l.files.items;
  typed : map file_text l.files.items ≡ map (λ text. text.now) (take l.text-index l.texts);
}
