use Rattle.std.proofs.Common.{◌≡◌, All, map, take}
use Rattle.std.specs.Fmt.{decimal}
use Rattle.tp_words.specs.Ends.{IsPort}
use Rattle.tp_words.proofs.stream_ends.discards_in.Given as goal

abbrev pub invariant-loop-text : goal.invariant-loop-text
invariant-loop-text l = record {
  each : All IsPort l.ports.items;
  typed : map decimal l.ports.items ≡ map (λ text. text.now) (take l.text-index l.texts);
}
