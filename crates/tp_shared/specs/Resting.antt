-- What is left to do in a network.
use Rattle.std.specs.Prelude.{◌≡◌, ℕ, Bool, true, false, ◌&&◌, if◌then◌else◌, List, [], ◌∷◌, Some, slice_get}
use Rattle.tp_shared.specs.Lower.{list_all, Token, NodeState, Network, rest_of, Rest, Halted, Quiet, Busy, BookValue, world_of}

abbrev pub is_halted : Rest → Bool
is_halted Halted = true
is_halted Quiet = false
is_halted Busy = false

-- nothing is left to do
abbrev pub leaves_nothing : Rest → Bool
leaves_nothing Halted = true
leaves_nothing Quiet = true
leaves_nothing Busy = false

-- nothing is under way on a line
abbrev pub is_empty : List Token → Bool
is_empty [] = true
is_empty (t ∷ ts) = false

-- Either each node has halted, or nothing is left to do for any node by itself, and nothing is under way on any line, or something is left
-- to do.
abbrev pub rest_in : Network NodeState → Rest
rest_in s =
    if list_all (λ node. is_halted (rest_of node)) s.nodes
    then Halted
    else (if list_all (λ node. leaves_nothing (rest_of node)) s.nodes && list_all is_empty s.lines then Quiet else Busy)

-- what is left to do for a node by itself, as a book's entries make the node
pub record IsRestAt (b : BookValue) (i : ℕ) (rest : Rest) : Type 0 where
  pub node : NodeState
  pub there : slice_get (world_of b).live.nodes i ≡ Some node
  pub is : rest ≡ rest_of node

-- Some node of a network has halted.
pub record HasHalted (s : Network NodeState) : Type 0 where
  pub number : ℕ
  pub node : NodeState
  pub there : slice_get s.nodes number ≡ Some node
  pub is : rest_of node ≡ Halted
