-- What is copied of a node that recorded, while a snapshot runs.
use Rattle.std.specs.Prelude.{◌≡◌, ◌<◌, ℕ, ◌+◌, ◌*◌, List, [], length, get_or, take, drop}
use Rattle.tp_shared.specs.Lower.{PAGE_BYTES, NodeState, image_head, MarkedNetwork, IsFrozenAs}

-- The image of the node, as it recorded in the snapshot that runs, begins with `bytes`.
pub record IsFrozenHead (net : MarkedNetwork NodeState) (i : ℕ) (bytes : List ℕ) : Type 0 where
  pub node : NodeState
  pub frozen : IsFrozenAs net i node
  pub is : bytes ≡ image_head node

-- It has this page.
pub record IsFrozenPage (net : MarkedNetwork NodeState) (i page : ℕ) (bytes : List ℕ) : Type 0 where
  pub node : NodeState
  pub frozen : IsFrozenAs net i node
  pub there : PAGE_BYTES * page < length node.memory
  pub is : bytes ≡ take PAGE_BYTES (drop (PAGE_BYTES * page) node.memory)

-- It has `count` pages from `first` on: the first ones of `pages`.
abbrev pub AreFrozenPages : MarkedNetwork NodeState → ℕ → ℕ → ℕ → List (List ℕ) → Type 0
AreFrozenPages net i first count pages = (k : ℕ) → k < count → IsFrozenPage net i (first + k) (get_or pages k [])

-- A memory has this page.
pub record IsPageOf (memory : List ℕ) (page : ℕ) (bytes : List ℕ) : Type 0 where
  pub there : PAGE_BYTES * page < length memory
  pub is : bytes ≡ take PAGE_BYTES (drop (PAGE_BYTES * page) memory)

-- It has `count` pages from `first` on: the first ones of `pages`.
abbrev pub ArePagesOf : List ℕ → ℕ → ℕ → List (List ℕ) → Type 0
ArePagesOf memory first count pages = (k : ℕ) → k < count → IsPageOf memory (first + k) (get_or pages k [])
