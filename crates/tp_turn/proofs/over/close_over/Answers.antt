use Rattle.std.proofs.Common.{sym, ◌∙◌}
use Rattle.tp_turn.proofs.Closing.{over_done, over_left}
use Rattle.tp_turn.proofs.over.close_over.Goals as goal

pub returns-then-is_closable : goal.returns-then-is_closable
returns-then-is_closable c =
    over_done c.args.book.now c.close_over.new.self c.args.line (sym c.is_closable.ensures ∙ c.if-is_closable.true) c.close_over.ensures.book c.close_over.ensures.act

pub returns-else-is_closable : goal.returns-else-is_closable
returns-else-is_closable c = over_left c.args.book.now c.args.line (sym c.is_closable.ensures ∙ c.if-is_closable.false)
