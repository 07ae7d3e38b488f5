use Rattle.std.proofs.Common.{◌≡◌, ◌++◌, string_bytes, drop, map}
use Rattle.tp_views.specs.Fields.{field_given, fields_text}
use Rattle.tp_views.proofs.text.fields.push_fields.Given as goal

abbrev pub invariant-loop-field : goal.invariant-loop-field
invariant-loop-field l =
    string_bytes l.text ++ fields_text l.json (map field_given (drop l.field-index l.fields))
    ≡ string_bytes l.fn.text ++ fields_text l.fn.json (map field_given l.fn.fields)
