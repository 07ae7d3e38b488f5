use Rattle.std.proofs.Common.{◌<◌, true, false, length, get_or, sym, ◌∙◌, arith}
use Rattle.tp_book.proofs.Lower.{slice_get-get_or, get_or_from_slice_get, has_wire}
use Rattle.tp_book.proofs.Counts.{all_closed_not, open_wired}
use Rattle.tp_book.proofs.cuts.running.all_closed.Goals as goal

pub returns-then-not-is_done : goal.returns-then-not-is_done
returns-then-not-is_done c =
    let state = open_wired _ _ (sym c.is_done.ensures ∙ c.if-not-is_done.true) in
    let below : c.loop-line.line < length c.args.closed.now = omega (arith, c.requires, c.loop-line-test.true) in
    sym (all_closed_not (has_wire c.args.wires.now) (λ line. get_or c.args.closed.now line true) _ c.loop-line.line c.loop-line-test.true state.0
    (get_or_from_slice_get c.args.closed.now c.loop-line.line (get_or c.args.closed.now c.loop-line.line false) true (slice_get-get_or c.args.closed.now c.loop-line.line false below) ∙ state.1))
