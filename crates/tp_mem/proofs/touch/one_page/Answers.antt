use Rattle.std.proofs.Common.{◌/◌, refl}
use Rattle.tp_mem.proofs.Lower.{word_ranges, touches, list_any, PAGE_BYTES}
use Rattle.tp_mem.proofs.Touches.{or_false, words_alone}
use Rattle.tp_mem.proofs.touch.one_page.Goals as goal

pub returns-then-have_page-clause-alone : goal.returns-then-have_page-clause-alone
returns-then-have_page-clause-alone c other differs =
    let page = c.in_ok-page.field-0 / PAGE_BYTES in
    or_false (touches other c.args.first) (touches other c.args.block) (list_any (touches other) (word_ranges c.args.words.now))
    (c.if-keeps_to.ensures refl other differs) (c.if-keeps_to-2.ensures refl other differs) (words_alone c.args.words.now page other (c.if-have_page.ensures refl) differs)
