use Rattle.std.proofs.Common.{sym, ◌∙◌, subst, Err, List, ℕ}
use Rattle.std.specs.Str.Parse.{ParsesUnsigned}
use Rattle.tp_views.proofs.Mapped.{IsUtf8-address, unread}
use Rattle.tp_views.proofs.maps.address_in.Goals as goal

pub returns-in_default : goal.returns-in_default
returns-in_default c = absurd (c.in_default.ensures.cases.0 (IsUtf8-address c.args.word.now (sym c.is_address.ensures ∙ c.if-not-is_address.false)))

pub returns-in-Err : goal.returns-in-Err
returns-in-Err c =
    let P : List ℕ → _ = λ digits. ParsesUnsigned 32 16 digits (Err c.in-Err.field-0) in
    absurd (unread c.args.word.now c.in-Err.field-0 (sym c.is_address.ensures ∙ c.if-not-is_address.false) (subst P c.in-Ok.ensures.cases.0 c.in-Err.ensures.value))
