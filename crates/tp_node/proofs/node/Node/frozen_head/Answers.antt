use Rattle.std.proofs.Common.{◌≡◌, ◌*◌, ◌++◌, [], ℕ, List, Option, Some, None, length, drop, ap, ◌∙◌, arith}
use Rattle.tp_node.proofs.Lower.{IfSome, append-nil, drop_all, PAGE_BYTES, IMAGE_HEAD_BYTES, page_count, image_head}
use Rattle.tp_node.specs.declared.head.Head.{Head}
use Rattle.tp_node.specs.NodeContents.{frozen_state}
use Rattle.tp_node.specs.StateWith.{state_with}
use Rattle.tp_node.proofs.node.Node.frozen_head.Goals as goal

-- what was written is the head of the frozen node, whose memory has `pages` pages
is_head : (head : Head) (memory : Option (List ℕ)) (pages : ℕ) (out rest : List ℕ) → rest ≡ [] → IfSome memory (λ kept. length kept ≡ PAGE_BYTES * pages)
    → ((kept : List ℕ) → page_count kept ≡ pages → out ≡ image_head (state_with head kept) ++ rest)
    → IfSome (frozen_state (Some head) memory) (λ node. out ≡ image_head node)
is_head head None pages out rest end size written = tt
is_head head (Some kept) pages out rest end size written =
    written kept (omega arith) ∙ ap (λ xs. image_head (state_with head kept) ++ xs) end ∙ append-nil (image_head (state_with head kept))

pub returns-in-Some : goal.returns-in-Some
returns-in-Some c =
    let old = c.args.out.now in
    let end : drop IMAGE_HEAD_BYTES old ≡ [] = drop_all IMAGE_HEAD_BYTES old (omega arith) in
    rw (← c.self.view_is, c.in-Some.is) (is_head c.in-Some.head c.self.inside.memory.frozen c.pages.result c.write.new.out (drop IMAGE_HEAD_BYTES old) end c.pages.ensures.frozen c.write.ensures)
