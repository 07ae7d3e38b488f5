use Rattle.std.proofs.Common.{◌≡◌, ◌++◌, string_bytes, drop}
use Rattle.tp_views.specs.Parts.{parts_text}
use Rattle.tp_views.proofs.text.parts.push_parts.Given as goal

abbrev pub invariant-loop-part : goal.invariant-loop-part
invariant-loop-part l = string_bytes l.text ++ parts_text (drop l.part-index l.parts) ≡ string_bytes l.fn.text ++ parts_text l.fn.parts
