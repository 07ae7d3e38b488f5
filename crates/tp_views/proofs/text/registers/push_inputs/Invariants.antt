use Rattle.std.proofs.Common.{◌≡◌, ◌++◌, string_bytes, drop}
use Rattle.tp_views.specs.NodeText.{inputs_text}
use Rattle.tp_views.proofs.text.registers.push_inputs.Given as goal

abbrev pub invariant-loop-link : goal.invariant-loop-link
invariant-loop-link l = string_bytes l.text ++ inputs_text l.json l.link (drop l.link l.ends) ≡ string_bytes l.fn.text ++ inputs_text l.fn.json 0 l.fn.ends
