use Rattle.std.proofs.Common.{◌*◌, length, take, drop, sym, ap, ◌∙◌, arith}
use Rattle.tp_mem.proofs.Lower.{length-drop, PAGE_BYTES}
use Rattle.tp_mem.proofs.Copies.{page_of-take, length-page_of, take_past}
use Rattle.tp_mem.proofs.copy_table.page_at.Goals as goal

pub returns-clause-value : goal.returns-clause-value
returns-clause-value c =
    let page = c.args.page in let live = c.args.live.now in
    c.in-Some.ensures.cases.same ∙ ap (take PAGE_BYTES) (take_past _ (drop (PAGE_BYTES * page) live) (omega (arith, length-drop (PAGE_BYTES * page) live))) ∙ sym (page_of-take live page)

pub returns-clause-len : goal.returns-clause-len
returns-clause-len c =
    let page = c.args.page in let live = c.args.live.now in
    ap length (c.in-Some.ensures.cases.same ∙ ap (take PAGE_BYTES) (take_past _ (drop (PAGE_BYTES * page) live) (omega (arith, length-drop (PAGE_BYTES * page) live))) ∙ sym (page_of-take live page))
    ∙ length-page_of live page c.requires
