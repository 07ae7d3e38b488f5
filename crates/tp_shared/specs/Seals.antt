-- What the book's lock holds beside the book, and what a node's place shows.
use Rattle.std.specs.Prelude.{◌≡◌, ℕ, ◌+◌, Bool, true, List, length, get_or, Option, Some, None, IsSome, is_some, slice_get}
use Rattle.tp_shared.specs.Lower.{IsReceived, IsNodeOfBytes, Entry, Turns, Received, Token, NodeState, t414, steps, took_all, has_recorded_in, BookValue, agreed, next_in_book, world_of, tokens_in}
use Rattle.tp_shared.specs.Agreement.{Agreement, at_rest}
use Rattle.tp_shared.specs.declared.nodes.place.Place.{Place}
use Rattle.tp_shared.specs.declared.nodes.seal.NodeSeal.{NodeSeal}

-- The book, and all entries since it was opened. Then a position from which on its entries have their positions as numbers, and for each
-- node whether pages of it are kept as they were when it recorded.
pub record Stage : Type 0 where
  pub book : BookValue
  pub all : List Entry
  pub numbered_from : ℕ
  pub frozen : List Bool

-- Node i received these for an open turn that is one entry, and the book doesn't have them yet.
pub record AreWaiting (b : BookValue) (i : ℕ) (takes : List Received) : Type 0 where
  -- the book may have such an entry
  pub form : b.form ≡ Turns
  -- they are at the front of the node's lines, and stay there until the turn's commit
  pub fronts : IsReceived (world_of b).live i takes

-- A seal of this name shows what the book has of a node.
pub record IsSealOf (name : ℕ) (agreement : Agreement) (is_frozen : Bool) (seal_name : ℕ) (b : BookValue) (i : ℕ) : Type 0 where
  pub named : seal_name ≡ name
  -- the node is the one that the book's entries make, whatever it received since
  pub node : slice_get (agreed b.state) i ≡ Some agreement.node
  -- while it is frozen, it has recorded in a snapshot that runs
  pub recorded : IsSome agreement.frozen → has_recorded_in b.state.snapshot i ≡ true
  -- and it is kept as the book has it frozen
  pub kept : (here there : NodeState) → agreement.frozen ≡ Some here → get_or b.frozen i None ≡ Some there → here ≡ there
  -- whether a turn of it is reserved
  pub reserved : slice_get b.runs i ≡ Some agreement.reserved
  -- what it received for an open turn that is one entry stays for the commit, whatever others did since, and after a trim
  pub received : (takes : List Received) → agreement.takes ≡ Some takes → AreWaiting b i takes
  -- a flag beside the seal tells whether it is frozen
  pub flag : is_frozen ≡ is_some agreement.frozen

-- each seal is that of its node, under its name
abbrev pub Sealed : (ℕ → ℕ) → List NodeSeal → BookValue → Type 0
Sealed names seals b = (i : ℕ) (s : NodeSeal) → slice_get seals i ≡ Some s → IsSealOf (names i) s.seal.value.state s.frozen s.seal.name b i

-- These are all entries since the book was opened. The number of the first is `first`, and the next one will have the book's next number.
pub record IsTied (first : ℕ) (all : List Entry) (b : BookValue) : Type 0 where
  pub are : all ≡ b.history
  pub next : first + length all ≡ next_in_book b

-- No turn of the node is open. Its place's key shows it as it is, frozen or not. It has an image.
pub record KeyShows (place : Place) : Type 0 where
  pub shown : place.key.value.state ≡ at_rest place.node
  pub image : IsNodeOfBytes place.node.live

-- A turn of the node is open. Its place's key shows the node as the book has it, and what the node received since for a turn that is one
-- entry. To that the node answered `sent`. Both nodes have an image.
pub record ShowsOpen (place : Place) (takes : Option (List Received)) (sent : List (ℕ × Token)) : Type 0 where
  pub before : NodeState
  pub shown : place.key.value.state ≡ record { node = before; frozen = place.node.frozen; reserved = true; takes = takes }
  pub was : IsNodeOfBytes before
  pub took : took_all t414 (tokens_in takes) before ≡ Some (place.node.live, sent)
  pub image : IsNodeOfBytes place.node.live

-- a turn of the node is open, whatever was received for it
pub record IsInTurn (place : Place) : Type 0 where
  pub takes : Option (List Received)
  pub sent : List (ℕ × Token)
  pub shows : ShowsOpen place takes sent

-- The node has run since: it made `count` steps and sent `tokens` in them. The key shows what it showed.
pub record ShowsRun (place : Place) (takes : Option (List Received)) (sent : List (ℕ × Token)) (count : ℕ) (tokens : List (ℕ × Token)) : Type 0 where
  pub before : NodeState
  pub ahead : NodeState
  pub shown : place.key.value.state ≡ record { node = before; frozen = place.node.frozen; reserved = true; takes = takes }
  pub was : IsNodeOfBytes before
  pub took : took_all t414 (tokens_in takes) before ≡ Some (ahead, sent)
  pub image : IsNodeOfBytes ahead
  pub made : steps t414 count ahead ≡ Some (place.node.live, tokens)
