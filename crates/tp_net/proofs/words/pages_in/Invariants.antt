use Rattle.std.proofs.Common.{◌≡◌, ◌≤◌, take}
use Rattle.tp_net.proofs.Lower.{digits_value, MAX_PAGES}
use Rattle.tp_net.proofs.words.pages_in.Given as goal

abbrev pub invariant-loop-byte : goal.invariant-loop-byte
invariant-loop-byte l = record {
  read : l.pages ≡ digits_value 10 (take l.byte-index l.word);
  bound : l.pages ≤ MAX_PAGES;
}
