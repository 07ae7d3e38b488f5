use Rattle.std.proofs.Common.{◌≡◌, ◌≤◌, ◌+◌, length, drop, filter}
use Rattle.tp_views.specs.Done.{is_counted}
use Rattle.tp_views.proofs.text.done.count_tokens.Given as goal

abbrev pub invariant-loop-one : goal.invariant-loop-one
invariant-loop-one l = record {
  found : l.count + length (filter (is_counted l.fn.is_byte l.fn.link) (drop l.one-index l.tokens)) ≡ length (filter (is_counted l.fn.is_byte l.fn.link) l.fn.tokens);
  few : l.count ≤ l.one-index;
}
