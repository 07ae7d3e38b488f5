-- What the other area has of a snapshot's frozen images.
use Rattle.std.specs.Prelude.{◌≡◌, ◌<◌, ℕ, suc, ◌*◌, Bool, false, List, length, take, drop}
use Rattle.tp_flush.specs.Lower.{IMAGE_HEAD_BYTES, PAGE_BYTES, NodeState, image_head, MarkedNetwork, IsFrozenAs, IsThere, Topology, piece_place, keeps_pages}

-- In a content, the head and the first `count` pages of node i's frozen image are at their places.
pub record IsPartOut (t : Topology) (net : MarkedNetwork NodeState) (content : List ℕ) (i count : ℕ) : Type 0 where
  pub node : NodeState
  pub frozen : IsFrozenAs net i node
  pub long : length (image_head node) ≡ IMAGE_HEAD_BYTES
  pub head : IsThere content (piece_place t i 0) (image_head node)
  pub pages : (page : ℕ) → page < count → IsThere content (piece_place t i (suc page)) (take PAGE_BYTES (drop (PAGE_BYTES * page) node.memory))

-- Node i has recorded in the snapshot that runs.
abbrev pub HasRecorded : MarkedNetwork NodeState → ℕ → Type 0
HasRecorded net i = (node : NodeState) × IsFrozenAs net i node

-- It has recorded, and no page of it is kept.
pub record IsGone (net : MarkedNetwork NodeState) (frozen : List Bool) (i : ℕ) : Type 0 where
  pub recorded : HasRecorded net i
  pub none : keeps_pages frozen i ≡ false
