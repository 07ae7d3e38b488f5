-- What is tried without a device: one node, its link 0 wired to port 0.
use Rattle.std.specs.Prelude.{◌≡◌, ℕ, List, [], ◌∷◌, replicate, Option, Some, None, IsSome, Result, Ok, Err}
use Rattle.tp_turn.specs.Lower.{WireEnd, Link, AtPort, NodeState, node_of, has_idle_links, only_if, Network, fresh_port, NodeContents}
use Rattle.tp_turn.specs.declared.image.TryFault.{TryFault}
use Rattle.tp_turn.specs.declared.image.TryFault.TheVariants.{BadImage, Memory}

-- The node of an image whose links are idle, as of one that a device may be formatted with.
abbrev pub fresh_image : List ℕ → Option NodeState
fresh_image image = only_if has_idle_links (node_of image)

-- What reading an image whose links have to be idle answers: the node, not frozen, or a fault. `Memory` is only answered if the image is
-- one.
abbrev pub ReadsFresh : List ℕ → Result NodeContents TryFault → Type 0
ReadsFresh image (Ok node) = (fresh_image image ≡ Some node.live) × (node.frozen ≡ None)
ReadsFresh image (Err BadImage) = fresh_image image ≡ None
ReadsFresh image (Err Memory) = IsSome (fresh_image image)

-- line 0 leads to the port, line 4 to the link, and links 1 to 3 have no wire
abbrev pub one_wire : List (Option WireEnd)
one_wire = Some (AtPort 0) ∷ None ∷ None ∷ None ∷ Some (Link 0 0) ∷ []

-- the network of the node and the port, before its first entry
abbrev pub lone_network : NodeState → Network NodeState
lone_network node = record { wires = one_wire; nodes = node ∷ []; ports = fresh_port ∷ []; lines = replicate 5 [] }
