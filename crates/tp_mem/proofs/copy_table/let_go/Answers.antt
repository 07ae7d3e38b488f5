use Rattle.std.proofs.Common.{◌<◌, ◌≤◌, None, length, sym, ◌∙◌, arith}
use Rattle.std.proofs.lemmas.List.{get_or_default}
use Rattle.tp_mem.proofs.Copies.{copy_single, AreCopies-gone, free_in-gone, copied_in-next, copied_in-past}
use Rattle.tp_mem.proofs.copy_table.let_go.Goals as goal

pub give_copy-requires : goal.give_copy-requires
give_copy-requires c =
    let within : c.loop-page.page < length c.loop-page.copies = omega arith in
    let at = get_or_default _ _ None _ within ∙ sym c.take-copy.ensures.value in
    copy_single c.loop-page.pool c.loop-page.copies c.loop-page.page c.take-copy.result at c.loop-page.invariant.0

pub loop-page-preserved : goal.loop-page-preserved
loop-page-preserved c =
    let within : c.loop-page.page < length c.loop-page.copies = omega arith in
    let at = get_or_default _ _ None _ within ∙ sym c.take-copy.ensures.value in
    rw (c.give_copy.ensures, c.take-copy.ensures.after) (
      AreCopies-gone c.loop-page.pool c.loop-page.copies c.loop-page.page c.take-copy.result at c.loop-page.invariant.0,
      free_in-gone c.loop-page.pool c.loop-page.copies c.loop-page.page c.take-copy.result at c.loop-page.invariant.0 ∙ c.loop-page.invariant.1,
      copied_in-next c.loop-page.copies c.loop-page.page within c.loop-page.invariant.2,
    )

pub returns-clause-gone : goal.returns-clause-gone
returns-clause-gone c =
    let past : length c.loop-page.copies ≤ c.loop-page.page = omega arith in
    copied_in-past c.loop-page.copies c.loop-page.page past c.loop-page.invariant.2

pub returns-clause-free : goal.returns-clause-free
returns-clause-free c =
    let past : length c.loop-page.copies ≤ c.loop-page.page = omega arith in
    let none = copied_in-past c.loop-page.copies c.loop-page.page past c.loop-page.invariant.2 in
    omega (arith, none)
