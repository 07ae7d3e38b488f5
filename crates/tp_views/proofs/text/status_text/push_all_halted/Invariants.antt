use Rattle.std.proofs.Common.{◌≡◌, ◌≤◌, ◌++◌, string_bytes, drop, map}
use Rattle.tp_views.specs.Status.{halts_text}
use Rattle.tp_views.proofs.text.status_text.push_all_halted.Given as goal

abbrev pub invariant-loop-number : goal.invariant-loop-number
invariant-loop-number l = record {
  text : string_bytes l.text ++ halts_text l.json l.before l.number (map (λ node. node.live) (drop l.number l.nodes))
      ≡ string_bytes l.fn.text ++ halts_text l.fn.json 0 0 (map (λ node. node.live) l.fn.nodes);
  few : l.before ≤ l.number;
}
