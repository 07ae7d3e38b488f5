-- Images of a flat network's nodes spell its nodes again.
use Rattle.std.proofs.Common.{◌≡◌, ℕ, zero, suc, List, [], ◌∷◌, Vec, Global, map, refl, sym, ap, ◌∙◌, Some, slice_get}
use Rattle.tp_replay.proofs.Lower.{map-map, NodeState, image, node_at, node_of, Network, IsNodeOfBytes, node_at-image, node_of-image}
use Rattle.tp_replay.specs.Flat.{IsFlat}

-- each of the nodes has an image
abbrev HaveImages : List NodeState → Type 0
HaveImages nodes = (i : ℕ) (node : NodeState) → slice_get nodes i ≡ Some node → IsNodeOfBytes node

node_of-images : (nodes : List NodeState) → HaveImages nodes → map (λ node. node_of (image node)) nodes ≡ map Some nodes
node_of-images [] all = refl
node_of-images (node ∷ nodes) all =
    let first = node_of-image node (all zero node refl).image in
    let rest = node_of-images nodes (λ i other at. all (suc i) other at) in
    λ j. first j ∷ rest j

node_at-images : (nodes : List NodeState) → HaveImages nodes → map (λ node. node_at (image node)) nodes ≡ nodes
node_at-images [] all = refl
node_at-images (node ∷ nodes) all =
    let first = node_at-image node (all zero node refl).image in
    let rest = node_at-images nodes (λ i other at. all (suc i) other at) in
    λ j. first j ∷ rest j

-- vectors that hold the images
pub images_spelt : (images : List (Vec ℕ Global)) (s : Network NodeState) → IsFlat s → map (λ bytes. bytes.items) images ≡ map image s.nodes
    → map (λ bytes. node_of bytes.items) images ≡ map Some s.nodes
images_spelt images s F are =
    sym (map-map node_of (λ (bytes : Vec ℕ Global). bytes.items) images) ∙ ap (map node_of) are ∙ map-map node_of image s.nodes ∙ node_of-images s.nodes F.nodes

pub images_again : (images : List (Vec ℕ Global)) (s : Network NodeState) → IsFlat s → map (λ bytes. bytes.items) images ≡ map image s.nodes
    → map (λ bytes. node_at bytes.items) images ≡ s.nodes
images_again images s F are =
    sym (map-map node_at (λ (bytes : Vec ℕ Global). bytes.items) images) ∙ ap (map node_at) are ∙ map-map node_at image s.nodes ∙ node_at-images s.nodes F.nodes
