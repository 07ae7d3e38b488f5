-- Nodes that are made of images.
use Rattle.std.proofs.Common.{◌≡◌, ◌∙◌, ◌<◌, ℕ, List, [], ◌∷◌, ◌++◌, map, length, Option, Some, None, zero, suc, slice_get, get_or, refl, sym, ap, subst}
use Rattle.std.specs.Prelude.{Ok}
use Rattle.tp_work.proofs.Lower.{AllZip, get_or-map, length-map, map-append, all_zipped_more, IsNodeOfBytes, node_at, node_of, NodeState, HasFrames, ReadsImage, NodeContents}
use Rattle.tp_work.specs.Nodes.{IsMade}

pub made_of : (spare : ℕ) (bytes : List ℕ) (node : NodeContents) → node_of bytes ≡ Some (node_at bytes) → IsNodeOfBytes (node_at bytes) → ReadsImage (node_of bytes) (Ok node)
    → HasFrames spare node → IsMade spare (node_at bytes) node
made_of spare bytes node spelt image reads frames =
    let is : ReadsImage (Some (node_at bytes)) (Ok node) = subst (λ s. ReadsImage s (Ok node)) spelt reads in
    record {
      live = is.0;
      thawed = is.1;
      image = subst IsNodeOfBytes (sym is.0) image;
      frames = frames;
    }

-- each image spells its node, if all do
pub each_spelt : {X Y : Type 0} (f : X → Y) (g : X → Option Y) (xs : List X) (i : ℕ) (x : X) → i < length xs → x ≡ get_or xs i x → map g xs ≡ map Some (map f xs) → g x ≡ Some (f x)
each_spelt f g xs i x below is all =
    ap g is ∙ sym (get_or-map g xs i x (Some (f x)) below) ∙ ap (λ ys. get_or ys i (Some (f x))) all ∙ get_or-map Some (map f xs) i (f x) (Some (f x)) (subst (λ n. i < n) (sym (length-map xs f)) below)
    ∙ ap Some (get_or-map f xs i x (f x) below ∙ ap f (sym is))

-- one more
pub made_more : {X : Type 0} (spare : ℕ) (f : X → NodeState) (xs : List X) (x : X) (node : NodeContents) (old new : List NodeContents) → AllZip (IsMade spare) (map f xs) old → IsMade spare (f x) node
    → new ≡ old ++ node ∷ [] → AllZip (IsMade spare) (map f (xs ++ x ∷ [])) new
made_more spare f xs x node old new made here are =
    subst (λ ys. AllZip (IsMade spare) (map f (xs ++ x ∷ [])) ys) (sym are)
    (subst (λ ys. AllZip (IsMade spare) ys (old ++ node ∷ [])) (sym (map-append f xs (x ∷ []))) (all_zipped_more (IsMade spare) (map f xs) old (f x) node made here))

-- ## All of them

-- the nodes of all images
pub made_all : {X : Type 0} (spare : ℕ) (f : X → NodeState) (xs all : List X) (nodes : List NodeContents) → xs ≡ all → AllZip (IsMade spare) (map f xs) nodes → AllZip (IsMade spare) (map f all) nodes
made_all spare f xs all nodes is made = subst (λ ys. AllZip (IsMade spare) (map f ys) nodes) is made

-- they are in the given states
pub made_live : (spare : ℕ) (states : List NodeState) (nodes : List NodeContents) → AllZip (IsMade spare) states nodes → map (λ (node : NodeContents). node.live) nodes ≡ states
made_live spare [] [] made = refl
made_live spare [] (node ∷ nodes) made = absurd made
made_live spare (state ∷ states) [] made = absurd made
made_live spare (state ∷ states) (node ∷ nodes) made =
    ap (λ first. first ∷ map (λ (other : NodeContents). other.live) nodes) made.0.live ∙ ap (λ rest. state ∷ rest) (made_live spare states nodes made.1)

-- what each of them is
abbrev Stands : ℕ → NodeContents → Type 0
Stands spare node = IsNodeOfBytes node.live × (node.frozen ≡ None) × HasFrames spare node

stands : (spare : ℕ) (states : List NodeState) (nodes : List NodeContents) → AllZip (IsMade spare) states nodes → (i : ℕ) (node : NodeContents) → slice_get nodes i ≡ Some node → Stands spare node
stands spare [] [] made i node at = cc
stands spare [] (first ∷ nodes) made i node at = absurd made
stands spare (state ∷ states) [] made i node at = absurd made
stands spare (state ∷ states) (first ∷ nodes) made zero node at =
    let same : first ≡ node = cc in
    subst (Stands spare) same (made.0.image, made.0.thawed, made.0.frames)
stands spare (state ∷ states) (first ∷ nodes) made (suc i) node at = stands spare states nodes made.1 i node at

pub made_each : (spare : ℕ) (states : List NodeState) (nodes : List NodeContents) → AllZip (IsMade spare) states nodes → (i : ℕ) (node : NodeContents) → slice_get nodes i ≡ Some node
    → IsNodeOfBytes node.live × (node.frozen ≡ None)
made_each spare states nodes made i node at = let s = stands spare states nodes made i node at in (s.0, s.1)

pub made_frames : (spare : ℕ) (states : List NodeState) (nodes : List NodeContents) → AllZip (IsMade spare) states nodes → (i : ℕ) (node : NodeContents) → slice_get nodes i ≡ Some node
    → HasFrames spare node
made_frames spare states nodes made i node at = let s = stands spare states nodes made i node at in s.2
