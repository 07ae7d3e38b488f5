-- The entries that make up a turn.
use Rattle.std.specs.Prelude.{◌≡◌, ℕ, zero, suc, true, List, [], ◌∷◌, ◌++◌, map, length, nat_lt, nat_le, Some, slice_get}
use Rattle.tp_law_network.specs.Lower.{Token, Received, Entry, Take, Turn, MAX_STEPS, Network, taken, by_link, comes_in, takes}
use Rattle.tp_model.specs.declared.entry.Entry.TheVariants.{Run}

-- the takes of tokens, one after the other
abbrev pub takes_in : List (ℕ × Token) → List Entry
takes_in tokens = map (λ m. Take m.0 m.1) tokens

-- the run that a turn ends with, if it has steps
abbrev pub run_of : ℕ → ℕ → List Entry
run_of node zero = []
run_of node (suc k) = Run node (suc k) ∷ []

-- a turn's takes, links in order, and then its run
abbrev pub entries_of_turn : {Node : Type 0} → Network Node → ℕ → List Received → ℕ → List Entry
entries_of_turn s node links count = takes_in (takes s.wires (length s.nodes) (Turn node links count)) ++ run_of node count

-- A turn takes at least one token, each on a line that comes in on its link, and the tokens of each line are a front of it.
pub record IsFront {Node : Type 0} (s : Network Node) (i : ℕ) (links : List Received) (count : ℕ) : Type 0 where
  pub node : Node
  pub there : slice_get s.nodes i ≡ Some node
  pub into : comes_in s.wires (length s.nodes) i (by_link 0 links) ≡ true
  pub some : nat_lt 0 (length (by_link 0 links)) ≡ true
  pub few : nat_le count MAX_STEPS ≡ true
  pub out : List (List Token)
  pub front : taken s.lines (takes s.wires (length s.nodes) (Turn i links count)) ≡ Some out
