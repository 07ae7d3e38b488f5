use Rattle.std.proofs.Common.{◌≡◌, ◌∙◌, Some, true, length, take, drop, ap, arith, nat_lt}
use Rattle.tp_trace.proofs.Lower.{lt-ltb, from_le_bytes, w32}
use Rattle.tp_trace.proofs.Heads.{page_word}
use Rattle.tp_trace.proofs.looking.kept_of.Goals as goal

pub returns : goal.returns
returns c =
    let memory = c.args.node.now.live.memory in
    let page : c.frozen_page.new.out ≡ take 1024 memory = rw c.requires at c.frozen_page.ensures in
    let some : nat_lt 44 (length memory) ≡ true = lt-ltb 44 (length memory) (omega (arith, c.pages.ensures.live, c.if-pages-eq0.false)) in
    rw some (ap Some (c.kept_in.ensures ∙ ap (λ bytes. from_le_bytes w32 (take 4 (drop 44 bytes))) page ∙ ap (from_le_bytes w32) (page_word memory)))
