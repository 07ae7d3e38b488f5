-- The images that can be tried are those with which a device may be formatted.
use Rattle.std.proofs.Common.{◌≡◌, ℕ, Bool, true, false, cond, List, refl, ap, ◌∙◌, Option, Some, None, eq-eqb}
use Rattle.std.specs.Prelude.{◌==◌, ◌&&◌}
use Rattle.tp_turn.proofs.Lower.{NodeState, page_count, node_of, has_idle_links, only_if, fresh_node}
use Rattle.tp_turn.specs.Tried.{fresh_image}
use Rattle.tp_turn.proofs.Begun.{fresh_is}

pub formatted : (image : List ℕ) (node : NodeState) → fresh_image image ≡ Some node → fresh_node (page_count node.memory) image ≡ Some node
formatted image node e =
    let F = fresh_is image node e in
    ap (only_if (λ n. page_count n.memory == page_count node.memory && has_idle_links n)) F.0
    ∙ ap (λ b. cond (b && has_idle_links node) (Some node) None) (eq-eqb (page_count node.memory) (page_count node.memory) refl)
    ∙ ap (λ b. cond b (Some node) None) F.1

pub not_formatted : (image : List ℕ) (pages : ℕ) → fresh_image image ≡ None → fresh_node pages image ≡ None
not_formatted image pages e = go (node_of image) e
  where
    busy : (same idle : Bool) (n : NodeState) → cond idle (Some n) None ≡ None → cond (same && idle) (Some n) None ≡ None
    busy true idle n e = e
    busy false idle n e = refl

    go : (o : Option NodeState) → only_if has_idle_links o ≡ None → only_if (λ n. page_count n.memory == pages && has_idle_links n) o ≡ None
    go None e = refl
    go (Some n) e = busy (page_count n.memory == pages) (has_idle_links n) n e
