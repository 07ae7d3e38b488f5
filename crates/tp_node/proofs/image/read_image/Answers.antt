use Rattle.std.proofs.Common.{rules, ◌≡◌, ◌∙◌, ◌-◌, ◌++◌, ℕ, List, None, length, take, drop, refl, sym, ap}
use Rattle.tp_node.proofs.Lower.{take-append-drop, take_rest, IMAGE_HEAD_BYTES, node_of}
use Rattle.tp_node.proofs.Images.{node_of-short}
use Rattle.tp_node.proofs.image.read_image.Goals as goal

-- the memory after the head
behind : List ℕ → List ℕ
behind bytes = take (length bytes - IMAGE_HEAD_BYTES) (drop IMAGE_HEAD_BYTES bytes)

-- the bytes are their head and what follows it
in_parts : (bytes : List ℕ) → node_of bytes ≡ node_of (take IMAGE_HEAD_BYTES bytes ++ behind bytes)
unfolding behind
in_parts bytes = ap node_of (sym (ap (λ ys. take IMAGE_HEAD_BYTES bytes ++ ys) (take_rest bytes IMAGE_HEAD_BYTES) ∙ take-append-drop IMAGE_HEAD_BYTES bytes))

pub returns-then-bytes-lt-IMAGE_HEAD_BYTES : goal.returns-then-bytes-lt-IMAGE_HEAD_BYTES
returns-then-bytes-lt-IMAGE_HEAD_BYTES c = node_of-short c.args.bytes.now c.if-bytes-lt-IMAGE_HEAD_BYTES.true

pub returns-in_err-head : goal.returns-in_err-head
unfolding behind
returns-in_err-head c =
    let told : c.from_residual.result ≡ None = search rules in
    rw told (in_parts c.args.bytes.now ∙ c.in_err-head.ensures (behind c.args.bytes.now) refl)

pub returns : goal.returns
unfolding behind
returns c = in_parts c.args.bytes.now ∙ c.in_ok-head.ensures (behind c.args.bytes.now) refl
