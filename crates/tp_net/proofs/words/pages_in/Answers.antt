use Rattle.std.proofs.Common.{◌+◌, sym, ◌∙◌, arith}
use Rattle.tp_net.proofs.Numerals.{digits_value_next, not_pages}
use Rattle.tp_net.proofs.words.pages_in.Goals as goal

pub returns-then-pages-gt-MAX_PAGES : goal.returns-then-pages-gt-MAX_PAGES
returns-then-pages-gt-MAX_PAGES c =
    let next = digits_value_next c.args.word.now c.loop-byte.byte-index c.loop-byte.pages c.from.result (sym c.has_digits.ensures ∙ c.if-not-has_digits.false) c.loop-byte-test.true c.loop-byte.invariant.read c.from.ensures in
    sym (not_pages c.args.word.now (c.loop-byte.byte-index + 1) (omega (arith, next)))

pub loop-byte-preserved : goal.loop-byte-preserved
loop-byte-preserved c = record {
  read = digits_value_next c.args.word.now c.loop-byte.byte-index c.loop-byte.pages c.from.result (sym c.has_digits.ensures ∙ c.if-not-has_digits.false) c.loop-byte-test.true c.loop-byte.invariant.read c.from.ensures;
  bound = c.if-pages-gt-MAX_PAGES.false;
}
