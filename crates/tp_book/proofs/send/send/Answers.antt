use Rattle.std.proofs.Common.{◌≡◌, true, false, sym, ◌∙◌}
use Rattle.tp_model.specs.Network.{has_wire}
use Rattle.tp_book.proofs.Sending.{wired_some, pushed_open, pushed_shut}
use Rattle.tp_book.proofs.send.send.Goals as goal

pub returns-then-is_some : goal.returns-then-is_some
returns-then-is_some c =
    let on : has_wire c.args.wires.now c.args.line ≡ true = wired_some _ ∙ sym c.is_some.ensures ∙ c.if-is_some.true in
    c.push.ensures ∙ sym (pushed_open (has_wire c.args.wires.now) c.args.lines.now c.args.line c.args.token on)

pub returns-else-is_some : goal.returns-else-is_some
returns-else-is_some c =
    let on : has_wire c.args.wires.now c.args.line ≡ false = wired_some _ ∙ sym c.is_some.ensures ∙ c.if-is_some.false in
    sym (pushed_shut (has_wire c.args.wires.now) c.args.lines.now c.args.line c.args.token on)
