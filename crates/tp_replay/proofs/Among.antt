-- Nodes with others before them and after them.
use Rattle.std.proofs.Common.{◌≡◌, ℕ, zero, suc, ◌+◌, ◌-◌, ◌<◌, List, [], ◌∷◌, ◌++◌, length, set, replicate, refl, ap, ◌∙◌, arith, length-append, slice_get, false, nat_le}
use Rattle.tp_replay.proofs.Lower.{lt-leb, length-replicate, set-append_left, set-append_right, NodeState}
use Rattle.tp_replay.specs.Blank.{blank_node, among}

pub length_among : (before : ℕ) (nodes : List NodeState) (behind : ℕ) → length (among before nodes behind) ≡ before + length nodes + behind
length_among before nodes behind =
    let a = length-append (replicate before blank_node) (nodes ++ replicate behind blank_node) in
    let b = length-append nodes (replicate behind blank_node) in
    omega (arith, a, b, length-replicate before blank_node, length-replicate behind blank_node)

skip : (before : ℕ) (ys : List NodeState) (i : ℕ) → slice_get (replicate before blank_node ++ ys) (before + i) ≡ slice_get ys i
skip zero ys i = ap (slice_get ys) (let e : 0 + i ≡ i = omega arith in e)
skip (suc before) ys i =
    let e : suc before + i ≡ suc (before + i) = omega arith in
    ap (slice_get (replicate (suc before) blank_node ++ ys)) e ∙ skip before ys i

front : (xs ys : List NodeState) (i : ℕ) → i < length xs → slice_get (xs ++ ys) i ≡ slice_get xs i
front [] ys i below = absurd (omega (arith, below))
front (x ∷ xs) ys zero below = refl
front (x ∷ xs) ys (suc i) below = front xs ys i (omega (arith, below))

pub among_at : (before : ℕ) (nodes : List NodeState) (behind i : ℕ) → i < length nodes → slice_get (among before nodes behind) (before + i) ≡ slice_get nodes i
among_at before nodes behind i below = skip before (nodes ++ replicate behind blank_node) i ∙ front nodes (replicate behind blank_node) i below

pub among_set : (before : ℕ) (nodes : List NodeState) (behind i : ℕ) (node : NodeState) → i < length nodes → set (among before nodes behind) (before + i) node ≡ among before (set nodes i node) behind
among_set before nodes behind i node below =
    let e : before + i - before ≡ i = omega arith in
    set-append_right (replicate before blank_node) (nodes ++ replicate behind blank_node) before (before + i) node (length-replicate before blank_node) (omega arith)
    ∙ ap (λ k. replicate before blank_node ++ set (nodes ++ replicate behind blank_node) k node) e
    ∙ ap (λ ns. replicate before blank_node ++ ns) (set-append_left nodes (replicate behind blank_node) i node below)

-- The process with all that is no node's has none of the nodes.
pub no_node : (nodes n : ℕ) → n < length (replicate nodes blank_node) → nat_le nodes n ≡ false
no_node nodes n below = let many = length-replicate nodes blank_node in lt-leb nodes n (omega (arith, below, many))
