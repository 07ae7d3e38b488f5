-- The nodes with pages that are kept as they were when the node recorded.
use Rattle.std.specs.Prelude.{◌≡◌, ℕ, ◌*◌, Bool, false, not, nat_lt, List, [], ◌∷◌, length, get_or, Option, Some, None, slice_get}
use Rattle.tp_shared.specs.Lower.{list_all, PAGE_BYTES, NodeState, MarkedNetwork, IsFrozenAs}
use Rattle.tp_shared.specs.declared.nodes.seal.NodeSeal.{NodeSeal}

-- what is beside each seal
abbrev pub frozen_in : List NodeSeal → List Bool
frozen_in [] = []
frozen_in (s ∷ seals) = s.frozen ∷ frozen_in seals

-- whether pages of a node are kept
abbrev pub keeps_pages : List Bool → ℕ → Bool
keeps_pages frozen i = get_or frozen i false

-- whether no node has kept pages
abbrev pub none_kept : List Bool → Bool
none_kept frozen = list_all (λ is. not is) frozen

-- A node that has recorded in the snapshot that runs, and has no kept pages, gets none.
abbrev pub StayGone : MarkedNetwork NodeState → List Bool → List Bool → Type 0
StayGone net old new = (i : ℕ) (node : NodeState) → IsFrozenAs net i node → keeps_pages old i ≡ false → keeps_pages new i ≡ false

-- whether a node has a page
abbrev pub has_page_in : Option NodeState → ℕ → Bool
has_page_in None page = false
has_page_in (Some node) page = nat_lt (PAGE_BYTES * page) (length node.memory)

abbrev pub has_page : MarkedNetwork NodeState → ℕ → ℕ → Bool
has_page net i page = has_page_in (slice_get net.live.nodes i) page
