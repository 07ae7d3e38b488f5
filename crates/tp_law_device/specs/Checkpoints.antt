-- A checkpoint as a piece of a run: what it needs, and what it leads to.
use Rattle.std.specs.Prelude.{◌≡◌, ◌<◌, ℕ, ◌+◌, false, not, List, [], ◌∷◌, map, length, Some, None, Ok}
use Rattle.tp_law_device.specs.Lower.{AllByRecursion, Entry, Link, AtPort, Form, Turns, NodeState, t414, t414_ends, Network, MarkedNetwork, WholeCut, trimmed, Act, Begin, Record, Close, acted, Topology, fresh_port, IsWithin, all_done, put_calls, Held, device_areas, other_is_open, other_content, Opened, held_of, network_of, verdict, SpellsArea, entries_in, Resting, World, Event, HasCut, copy_of, fresh}
use Rattle.tp_model.specs.Runs.{Run}
use Rattle.tp_law_device.specs.FormattedWorld.{formatted_world}

-- The world's device opens as `o`, whose other area is closed. The pieces are after that area's gate. Once they are written, the area
-- spells the copy, with a higher generation and in this form.
pub record SpellsCopy (w : World NodeState) (o : Opened) (pieces : List (ℕ × List ℕ)) (copy : Held NodeState) (generation : ℕ) (form : Form) : Type 0 where
  pub opens : verdict w.disk.bytes ≡ Ok o
  pub closed : other_is_open o w.disk.bytes ≡ false
  pub inside : AllByRecursion (λ piece. IsWithin (device_areas.spare w.disk.bytes) (piece.0, length piece.1)) pieces
  pub groups : List (List (Entry × ℕ))
  pub now : Network NodeState
  pub spells : SpellsArea t414 t414_ends o.head.topology (other_content o (all_done (put_calls pieces) w.disk).bytes) generation form copy.base copy.network groups now
  pub entries : map (λ e. e.0) (entries_in groups) ≡ copy.entries
  pub later : o.generation < generation

-- A run leads from the world to one in which the book is trimmed to the cut. The device of that world opens as the other area, with that
-- generation and form, and holds the cut and all entries outside it.
pub record Switches (w : World NodeState) (o : Opened) (cut : WholeCut) (nodes : List NodeState) (generation : ℕ) (form : Form) : Type 0 where
  pub events : List (Event NodeState)
  pub last : World NodeState
  pub run : Run t414 device_areas w events last
  pub rests : last.at ≡ Resting
  pub net : last.net ≡ trimmed w.net cut nodes
  pub base : last.base ≡ w.base + cut.size
  pub journal : last.journal ≡ w.journal
  pub opened : Opened
  pub reads : verdict last.disk.bytes ≡ Ok opened
  pub holds : held_of opened ≡ copy_of w.net w.base cut nodes
  pub second : opened.second ≡ not o.second
  pub age : opened.generation ≡ generation
  pub of_form : opened.form ≡ form

-- From a device that was formatted, a run leads to a world with this network and book, and from there a checkpoint to the
-- second area, which has turns.
pub record HasCheckpoint (start : Network NodeState) (bytes : List ℕ) (net : MarkedNetwork NodeState) (cut : WholeCut) (nodes : List NodeState) : Type 0 where
  pub events : List (Event NodeState)
  pub w : World NodeState
  pub run : Run t414 device_areas (formatted_world start bytes) events w
  pub book : w.net ≡ net
  pub first : Opened
  pub opens : verdict bytes ≡ Ok first
  pub age : first.generation ≡ 1
  pub switches : Switches w first cut nodes 2 Turns

-- ## A snapshot of one node, whose link 0 is wired to port 0

abbrev pub checkpoint_topology : Topology
checkpoint_topology = record { pages = 4 ∷ []; ports = 1; wires = Some (AtPort 0) ∷ None ∷ None ∷ None ∷ Some (Link 0 0) ∷ [] }

abbrev pub before_checkpoint : NodeState → Network NodeState
before_checkpoint node = network_of checkpoint_topology (node ∷ []) ([] ∷ [] ∷ [] ∷ [] ∷ [] ∷ []) (fresh_port ∷ [])

-- it begins, the node records, and each line with a wire is closed
abbrev pub checkpoint_acts : List Act
checkpoint_acts = Begin ∷ Record 0 ∷ Close 0 ∷ Close 4 ∷ []

pub record HasSnapshot (node : NodeState) : Type 0 where
  pub net : MarkedNetwork NodeState
  pub is : acted t414 (fresh (before_checkpoint node)) checkpoint_acts ≡ Some net
  pub none : net.entries ≡ []
  pub cut : WholeCut
  pub has : HasCut net cut (node ∷ [])
