use Rattle.std.proofs.Common.{◌≡◌, ◌/◌, ◌++◌, ℕ, List, Some, length, take, replicate, true, bytes_eq, sym, ap, ◌∙◌, arith}
use Rattle.tp_node.proofs.Lower.{append-nil, length-replicate, take_at, IMAGE_HEAD_BYTES, image_head, node_at, is_node}
use Rattle.tp_node.specs.StateWith.{state_with}
use Rattle.tp_node.proofs.Images.{HasPages, node_at-front, node_of-unruly, node_of-other_head, node_of-image, has_pages}
use Rattle.tp_node.proofs.image.read_head.Goals as goal
use Rattle.tp_node.proofs.image.read_head.Goals.{After-keeps_rules, After-write}

-- the node that was read, and whether it keeps the rules
is_read : (c : After-keeps_rules) (memory : List ℕ) → node_at (c.args.front.now ++ memory) ≡ state_with c.read-head.result memory
is_read c memory =
    let e = c.read-head.ensures in
    node_at-front c.args.front.now memory c.read-head.result c.requires e.cpu e.outputs e.inputs

keeps : (c : After-keeps_rules) (memory : List ℕ) → length memory ≡ c.args.len → c.keeps_rules.result ≡ is_node (node_at (c.args.front.now ++ memory))
keeps c memory size = c.keeps_rules.ensures memory size ∙ ap is_node (sym (is_read c memory))

-- the bytes that were written are its head
spells : (c : After-write) (memory : List ℕ) → length memory ≡ c.args.len → c.write.new.out ≡ image_head (state_with c.read-head.result memory)
spells c memory size = c.write.ensures memory (ap (λ n. n / 1024) size) ∙ append-nil (image_head (state_with c.read-head.result memory))

pub returns-then-not-keeps_rules : goal.returns-then-not-keeps_rules
returns-then-not-keeps_rules c memory size =
    node_of-unruly (c.args.front.now ++ memory) (sym (keeps (goal.at.returns-then-not-keeps_rules c).After-keeps_rules memory size) ∙ c.if-not-keeps_rules.true)

pub overflow_cast-len : goal.overflow_cast-len
overflow_cast-len c =
    let k = (goal.at.overflow_cast-len c).After-keeps_rules in
    let memory = replicate c.args.len 0 in
    let size : length memory ≡ c.args.len = length-replicate c.args.len 0 in
    let pages : HasPages memory =
    has_pages (state_with c.read-head.result memory) (ap is_node (sym (is_read k memory)) ∙ sym (keeps k memory size) ∙ c.if-not-keeps_rules.false) in
    omega (arith, pages.few, size)

pub returns-then-eq : goal.returns-then-eq
returns-then-eq c memory size =
    let k = (goal.at.returns-then-eq c).After-keeps_rules in
    let w = (goal.at.returns-then-eq c).After-write in
    let bytes = c.args.front.now ++ memory in
    let same : bytes_eq (take IMAGE_HEAD_BYTES bytes) (image_head (node_at bytes)) ≡ true =
    ap (λ xs. bytes_eq xs (image_head (node_at bytes))) (take_at c.args.front.now memory IMAGE_HEAD_BYTES c.requires)
    ∙ ap (bytes_eq c.args.front.now) (ap image_head (is_read k memory) ∙ sym (spells w memory size)) ∙ sym c.eq.ensures ∙ c.if-eq.true in
    node_of-image bytes (sym (keeps k memory size) ∙ c.if-not-keeps_rules.false) same ∙ ap Some (is_read k memory)

pub returns-else-eq : goal.returns-else-eq
returns-else-eq c memory size =
    let k = (goal.at.returns-else-eq c).After-keeps_rules in
    let w = (goal.at.returns-else-eq c).After-write in
    let bytes = c.args.front.now ++ memory in
    node_of-other_head bytes
    (ap (λ xs. bytes_eq xs (image_head (node_at bytes))) (take_at c.args.front.now memory IMAGE_HEAD_BYTES c.requires)
    ∙ ap (bytes_eq c.args.front.now) (ap image_head (is_read k memory) ∙ sym (spells w memory size)) ∙ sym c.eq.ensures ∙ c.if-eq.false)
