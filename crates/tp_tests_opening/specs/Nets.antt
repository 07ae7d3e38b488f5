-- A network in memory: a book with its nodes.
use Rattle.std.specs.Prelude.{◌≡◌, ◌≢◌, ℕ, false, List, map, Option, Some, None, slice_get}
use Rattle.tp_tests_opening.specs.Lower.{Turns, node_of, NodeState, NodeContents, BookValue, IsNodeOf}

-- ## A node

-- No turn of the node is open, and it is the one that the book's entries make of it.
pub record IsHome (b : BookValue) (number : ℕ) (node : NodeContents) : Type 0 where
  pub free : slice_get b.runs number ≡ Some false
  pub is : IsNodeOf b number node

-- ## The network

pub record NetValue : Type 0 where
  pub book : BookValue
  pub nodes : List NodeContents

-- each node is at home, and nothing is made ready
pub record HasNodes (b : BookValue) (nodes : List NodeContents) : Type 0 where
  pub idle : b.ready ≡ None
  pub form : b.form ≡ Turns
  pub each : (i : ℕ) (node : NodeContents) → slice_get nodes i ≡ Some node → IsHome b i node

-- Others are at home as before, whatever one node did.
pub record Leaves (number : ℕ) (old new : BookValue) : Type 0 where
  pub idle : new.ready ≡ old.ready
  pub form : new.form ≡ old.form
  pub others : (i : ℕ) (node : NodeContents) → i ≢ number → IsHome old i node → IsHome new i node

-- ## Of a device

-- what an image spells, with nothing frozen
abbrev pub spelt_one : List ℕ → Option NodeState × Option NodeState
spelt_one image = (node_of image, None)

abbrev pub spelt : List (List ℕ) → List (Option NodeState × Option NodeState)
spelt images = map spelt_one images

-- a node as it is and as it is frozen
abbrev pub seen_one : NodeContents → Option NodeState × Option NodeState
seen_one node = (Some node.live, node.frozen)

abbrev pub seen : List NodeContents → List (Option NodeState × Option NodeState)
seen nodes = map seen_one nodes
