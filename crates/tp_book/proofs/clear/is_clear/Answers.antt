use Rattle.std.proofs.Common.{◌∙◌, sym, ap, cond, false, drop, ◌+◌}
use Rattle.tp_model.specs.Network.{on_line}
use Rattle.tp_book.specs.Clear.{is_clear}
use Rattle.tp_book.proofs.Clearing.{token_clear}
use Rattle.tp_book.proofs.clear.is_clear.Goals as goal

pub returns-then-not-is_marker : goal.returns-then-not-is_marker
returns-then-not-is_marker c =
    let us = on_line c.args.lines.now c.args.line in
    sym (token_clear us c.loop-at.at c.in-Some.token (sym c.get.ensures ∙ c.in-Some.is) c.loop-at.invariant
    ∙ ap (λ is. cond is (is_clear (drop (c.loop-at.at + 1) us)) false) (sym c.is_marker.ensures ∙ c.if-not-is_marker.true))
