use Rattle.std.proofs.Common.{◌≡◌, ◌∙◌, sym, ap, false, drop, ◌+◌, ◌<◌, arith, Some, slice_get, length, get_or, refl, []}
use Rattle.std.specs.Prelude.{◌&&◌}
use Rattle.tp_book.proofs.Lower.{list_all, slice_get_read, on_line}
use Rattle.tp_book.specs.Clear.{is_clear}
use Rattle.tp_book.proofs.Clearing.{line_clear}
use Rattle.tp_book.proofs.clear.are_clear.Goals as goal

pub returns-then-not-is_clear : goal.returns-then-not-is_clear
returns-then-not-is_clear c =
    sym (line_clear c.args.lines.now c.loop-line.line c.loop-line.invariant (omega (arith, c.loop-line-test.true, c.count-line-end.ensures))
    ∙ ap (λ is. is && list_all is_clear (drop (c.loop-line.line + 1) c.args.lines.now)) (sym c.is_clear.ensures ∙ c.if-not-is_clear.true))

pub loop-line-preserved : goal.loop-line-preserved
loop-line-preserved c =
    line_clear c.args.lines.now c.loop-line.line c.loop-line.invariant (omega (arith, c.loop-line-test.true, c.count-line-end.ensures))
    ∙ ap (λ is. is && list_all is_clear (drop (c.loop-line.line + 1) c.args.lines.now)) (sym c.is_clear.ensures ∙ c.if-not-is_clear.false)
