-- What the head and the first page of a node's image say.
use Rattle.std.proofs.Common.{◌≡◌, ◌∙◌, ℕ, List, [], ◌∷◌, take, drop, ap, refl}
use Rattle.tp_trace.proofs.Lower.{drop-take_min, node_at-image, IsNode, cpu_at, image, image_head, node_at, NodeState}

-- the processor is in the head alone
head_alone : (n : NodeState) → cpu_at (image_head n) ≡ cpu_at (image n)
unfolding image image_head
head_alone n = refl

image_spells : (n : NodeState) → IsNode n → cpu_at (image n) ≡ n.cpu
unfolding node_at
image_spells n is = ap (λ (m : NodeState). m.cpu) (node_at-image n is)

pub head_spells : (n : NodeState) → IsNode n → cpu_at (image_head n) ≡ n.cpu
head_spells n is = head_alone n ∙ image_spells n is

-- the first four of many are the first four of all
four_of : (bytes : List ℕ) → take 4 (take 980 bytes) ≡ take 4 bytes
four_of [] = refl
four_of (a ∷ []) = refl
four_of (a ∷ b ∷ []) = refl
four_of (a ∷ b ∷ c ∷ []) = refl
four_of (a ∷ b ∷ c ∷ d ∷ bytes) = refl

-- a word of the first page
pub page_word : (memory : List ℕ) → take 4 (drop 44 (take 1024 memory)) ≡ take 4 (drop 44 memory)
page_word memory = ap (take 4) (drop-take_min memory 1024 44 44 refl) ∙ four_of (drop 44 memory)
