-- Nodes that were read.
use Rattle.std.specs.Prelude.{◌≡◌, ℕ, List, [], ◌∷◌, None, map}
use Rattle.tp_recover.specs.Lower.{AllByRecursion, page_count, NodeState, IsNodeOfBytes, NodeContents}

abbrev pub live_node : NodeContents → NodeState
live_node node = node.live

-- none of them is frozen
abbrev pub AreAllThawed : List NodeContents → Type 0
AreAllThawed [] = Unit {0}
AreAllThawed (node ∷ nodes) = (node.frozen ≡ None) × AreAllThawed nodes

-- it has an image, and `pages` pages
pub record HasImage (pages : ℕ) (node : NodeState) : Type 0 where
  pub image : IsNodeOfBytes node
  pub count : page_count node.memory ≡ pages

-- each node has an image, and the number of pages that `pages` gives for it
pub record HaveImages (pages : List ℕ) (nodes : List NodeState) : Type 0 where
  pub images : AllByRecursion IsNodeOfBytes nodes
  pub counts : map (λ n. page_count n.memory) nodes ≡ pages
