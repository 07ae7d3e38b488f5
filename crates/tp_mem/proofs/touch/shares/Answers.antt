use Rattle.std.proofs.Common.{sym, ◌∙◌}
use Rattle.tp_mem.proofs.Touches.{words_untouched, or_false}
use Rattle.tp_mem.proofs.touch.shares.Goals as goal

pub returns : goal.returns
returns c = λ none page shared.
    or_false _ _ _ (c.shares_range.ensures c.if-shares_range.false page shared) (c.shares_range-2.ensures c.if-shares_range-2.false page shared)
    (words_untouched _ _ page (sym c.shares_word.ensures ∙ none) shared)
