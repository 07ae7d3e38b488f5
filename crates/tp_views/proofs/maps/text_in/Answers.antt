use Rattle.std.proofs.Common.{sym, ◌∙◌}
use Rattle.tp_views.proofs.Mapped.{no_text, text_of}
use Rattle.tp_views.proofs.maps.text_in.Goals as goal

pub returns-in-Ok : goal.returns-in-Ok
returns-in-Ok c =
    text_of c.args.bytes.now c.in-Ok.text.now (sym c.has_plain_bytes.ensures ∙ c.if-not-has_plain_bytes.false) c.in-Ok.ensures.cases.0 c.in-Ok.ensures.cases.1

pub returns-in-Err : goal.returns-in-Err
returns-in-Err c = no_text c.args.bytes.now c.in-Err.ensures.cases.0
