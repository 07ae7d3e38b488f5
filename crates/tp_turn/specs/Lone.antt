-- A node with the book of its network, and what turns do to them.
use Rattle.std.specs.Prelude.{◌≡◌, ◌≤◌, ℕ, ◌+◌, false, List, [], ◌∷◌, length, Some, None, slice_get}
use Rattle.tp_turn.specs.Lower.{Entry, Turns, NodeState, Network, Port, standing, Standing, BookValue, agreed, next_in_book, network_now}
use Rattle.tp_turn.specs.Moments.{IsNodeOf}
use Rattle.tp_turn.specs.Tried.{lone_network}
use Rattle.tp_turn.specs.declared.lone.Lone.{Lone}

-- the network of a book, and the number that its next entry gets
pub record LoneValue : Type 0 where
  pub network : Network NodeState
  pub entries : ℕ

abbrev pub lone_value : BookValue → LoneValue
lone_value b = record { network = network_now b; entries = next_in_book b }

abbrev pub lone_of : Lone → LoneValue
lone_of t = lone_value t.book

-- A book of one node and one port. It has no device, so it may hold every entry. No snapshot runs, nothing is reserved or made ready, and
-- its store isn't broken.
pub record IsLoneBook (b : BookValue) : Type 0 where
  pub alone : b.room ≡ None
  pub idle : b.state.snapshot ≡ None
  pub ready : b.ready ≡ None
  pub runs : b.runs ≡ false ∷ []
  pub whole : b.broken ≡ false
  pub nodes : length b.state.start.nodes ≡ 1
  pub many : length (agreed b.state) ≡ 1
  pub ports : length b.state.ports ≡ 1
  pub form : b.form ≡ Turns

-- The node is the one that the book's entries make of it, and it isn't frozen.
pub record IsLone (t : Lone) : Type 0 where
  pub book : IsLoneBook t.book
  pub node : IsNodeOf t.book 0 t.node
  pub thawed : t.node.frozen ≡ None

-- before the first entry
pub record Begins (node : NodeState) (t : Lone) : Type 0 where
  pub lone : IsLone t
  pub network : network_now t.book ≡ lone_network node
  pub first : next_in_book t.book ≡ 0

-- An act of at most `most` entries was done, and they were numbered.
pub record Made (act : Network NodeState → List Entry → Network NodeState → Type 0) (most : ℕ) (old new : LoneValue) : Type 0 where
  pub entries : List Entry
  pub few : length entries ≤ most
  pub counted : new.entries ≡ old.entries + length entries
  pub did : act old.network entries new.network

-- An act of at most `most` entries was done, and a node with its book has gone on by it.
pub record WentByAct (act : Network NodeState → List Entry → Network NodeState → Type 0) (most : ℕ) (old new : Lone) : Type 0 where
  pub made : Made act most (lone_of old) (lone_of new)
  pub lone : IsLone new

-- the outputs of port 0
pub record IsOutputOf (s : Network NodeState) (output : List ℕ) : Type 0 where
  pub port : Port
  pub there : slice_get s.ports 0 ≡ Some port
  pub is : output ≡ port.outputs

-- the state of node 0 between its turns
pub record StandsAs (s : Network NodeState) (how : Standing) : Type 0 where
  pub node : NodeState
  pub there : slice_get s.nodes 0 ≡ Some node
  pub is : how ≡ standing node
