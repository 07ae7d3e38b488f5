use Rattle.std.proofs.Common.{◌≡◌, ◌++◌, string_bytes, drop}
use Rattle.tp_views.specs.NodeText.{outputs_text}
use Rattle.tp_views.proofs.text.registers.push_outputs.Given as goal

abbrev pub invariant-loop-link : goal.invariant-loop-link
invariant-loop-link l = string_bytes l.text ++ outputs_text l.json l.link (drop l.link l.ends) ≡ string_bytes l.fn.text ++ outputs_text l.fn.json 0 l.fn.ends
