use Rattle.std.proofs.Common.{◌∙◌, inl, inr, arith}
use Rattle.tp_area.proofs.Ports.{is_port_at-rules, said_many}
use Rattle.tp_area.proofs.encoding.port.is_port_at.Goals as goal
use Rattle.tp_area.proofs.encoding.port.is_port_at.Goals.{then-held-gt-MAX_HELD-via-then-held-gt-MAX_HELD, then-held-gt-MAX_HELD-via-else-held-gt-MAX_HELD+then-shown-gt-MAX_HELD}

pub returns-then-held-gt-MAX_HELD : goal.returns-then-held-gt-MAX_HELD
returns-then-held-gt-MAX_HELD c =
    elim c.then-held-gt-MAX_HELD.branch [
      | then-held-gt-MAX_HELD-via-then-held-gt-MAX_HELD w ↦ said_many c.args.base c.args.bytes.now (inl (omega arith))
      | then-held-gt-MAX_HELD-via-else-held-gt-MAX_HELD+then-shown-gt-MAX_HELD w ↦ said_many c.args.base c.args.bytes.now (inr (omega arith))
    ]

pub returns : goal.returns
returns c =
    c.keeps_rules.ensures
    ∙ is_port_at-rules c.args.base c.from-held.result c.from-shown.result c.args.bytes.now (record { each = c.type_inv.bytes }) c.requires (c.from-held.ensures ∙ c.u16_at.ensures) (c.from-shown.ensures ∙ c.u16_at-2.ensures) c.if-held-gt-MAX_HELD.false c.if-shown-gt-MAX_HELD.false
