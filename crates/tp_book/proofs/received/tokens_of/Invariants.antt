-- The tokens so far, and then those of the links that are left, are all.
use Rattle.std.proofs.Common.{◌≡◌, ◌≤◌, ◌*◌, ◌++◌, length, drop}
use Rattle.tp_book.proofs.Lower.{by_link, CarryBytes}
use Rattle.tp_book.proofs.received.tokens_of.Given as goal

abbrev pub invariant-loop-link : goal.invariant-loop-link
invariant-loop-link l = record {
  tokens : l.tokens.items ++ by_link l.link (drop l.link l.takes) ≡ by_link 0 l.takes;
  few : length l.tokens.items ≤ 2 * l.link;
  bytes : CarryBytes l.tokens.items;
}
