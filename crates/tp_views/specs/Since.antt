-- Since which entry a process waits at an end of a link, and which entry of its node is the last.
use Rattle.std.specs.Prelude.{ℕ, ◌==◌, ◌&&◌, Bool, true, false, if◌then◌else◌, List, [], ◌∷◌, get_or, length, replicate, set, slice_get, map, Option, Some, None}
use Rattle.tp_views.specs.Lower.{option_and_then, process, Entry, WireEnd, NodeState, Opened, Deed, Sends, Inputs, Chooses, Waiter, listener, sender}
use Rattle.tp_views.specs.EntriesTraced.{after_entry, tokens_in, took_all}
use Rattle.tp_views.specs.Scene.{node_seen}
use Rattle.tp_views.specs.Why.{waiting_at}
use Rattle.tp_views.specs.declared.waits.scene.NodeSeen.{NodeSeen}
use Rattle.tp_views.specs.declared.waits.since.FourSince.{FourSince}
use Rattle.tp_views.specs.declared.waits.since.FourStay.{FourStay}
use Rattle.tp_views.specs.declared.waits.since.NodeSince.{NodeSince}
use Rattle.tp_views.specs.declared.waits.since.Since.{Since}
use Rattle.tp_views.specs.declared.waits.since.Since.TheVariants.{By, Before}
use Rattle.tp_views.specs.declared.waits.since.Stay.{Stay}

-- ## A wait at two moments

-- the process that waits at the output end, or at the input end, of link k
abbrev pub waiter_of : Bool → NodeState → ℕ → Option Waiter
waiter_of sends node k = if sends then sender node k else listener node k

-- the one that waits there in the end, after the last entry
abbrev pub in_the_end : List NodeSeen → ℕ → Bool → ℕ → Option Waiter
in_the_end seen i sends k = option_and_then (λ own. waiting_at own sends k) (slice_get seen i)

abbrev pub is_deed : Deed → Deed → Bool
is_deed Sends Sends = true
is_deed Sends Inputs = false
is_deed Sends Chooses = false
is_deed Inputs Sends = false
is_deed Inputs Inputs = true
is_deed Inputs Chooses = false
is_deed Chooses Sends = false
is_deed Chooses Inputs = false
is_deed Chooses Chooses = true

-- one process waits at both moments, with one deed
abbrev pub is_same : Option Waiter → Option Waiter → Bool
is_same None other = false
is_same (Some one) None = false
is_same (Some one) (Some other) = (one.process == other.process) && is_deed one.deed other.deed

-- the process that waits at an end of node i in the end waits there when the node is this
abbrev pub stays : List NodeSeen → ℕ → NodeState → Bool → ℕ → Bool
stays seen i node sends k = is_same (in_the_end seen i sends k) (waiter_of sends node k)

abbrev pub four_stay : List NodeSeen → ℕ → NodeState → Bool → FourStay
four_stay seen i node sends = record {
  zero = stays seen i node sends 0;
  one = stays seen i node sends 1;
  two = stays seen i node sends 2;
  three = stays seen i node sends 3;
}

abbrev pub all_stay : List NodeSeen → ℕ → NodeState → Stay
all_stay seen i node = record { outputs = four_stay seen i node true; inputs = four_stay seen i node false }

-- ## An entry

-- Since when a process waits, by an entry of its node, if it was since `since` before. The wait goes on through the entry if the process is in it once
-- the entry's tokens have come in, and after its steps. An entry brings an end one token at most, only a token ends a message, and none begins one. So no
-- message has ended meanwhile. Otherwise the entry left the process in its wait.
abbrev pub one_since : ℕ → Bool → Bool → Since → Since
one_since entry between after since = if between && after then since else By entry

abbrev pub four_since : ℕ → FourStay → FourStay → FourSince → FourSince
four_since entry between after since = record {
  zero = one_since entry between.zero after.zero since.zero;
  one = one_since entry between.one after.one since.one;
  two = one_since entry between.two after.two since.two;
  three = one_since entry between.three after.three since.three;
}

abbrev pub all_since : ℕ → Stay → Stay → NodeSince → NodeSince
all_since entry between after since = record {
  last = Some entry;
  outputs = four_since entry between.outputs after.outputs since.outputs;
  inputs = four_since entry between.inputs after.inputs since.inputs;
}

abbrev pub entry_since : List (Option WireEnd) → List NodeSeen → ℕ → Entry × ℕ → NodeState → NodeSince → NodeSince
entry_since wires seen i kept node since =
    all_since kept.1 (all_stay seen i (took_all (tokens_in wires kept.0) node)) (all_stay seen i (after_entry wires kept.0 node)) since

-- ## All entries

-- what waits before the entry `first`, the first one after the checkpoint, has waited since before it
abbrev pub four_before : ℕ → FourSince
four_before first = record { zero = Before first; one = Before first; two = Before first; three = Before first }

abbrev pub all_before : ℕ → NodeSince
all_before first = record { last = None; outputs = four_before first; inputs = four_before first }

-- of node i; of one that isn't known, nothing is
abbrev pub known_since : List NodeSince → ℕ → NodeSince
known_since all i = get_or all i (all_before 0)

-- the nodes after an entry of node i, if that is one of them
abbrev pub nodes_with : List (Option WireEnd) → Entry × ℕ → ℕ → List NodeState → Option NodeState → List NodeState
nodes_with wires kept i nodes None = nodes
nodes_with wires kept i nodes (Some node) = set nodes i (after_entry wires kept.0 node)

abbrev pub nodes_after : List (Option WireEnd) → Entry × ℕ → List NodeState → List NodeState
nodes_after wires kept nodes =
    nodes_with wires kept (process wires (length nodes) kept.0) nodes (slice_get nodes (process wires (length nodes) kept.0))

-- and since when processes wait at their links then
abbrev pub found_with : List (Option WireEnd) → List NodeSeen → Entry × ℕ → ℕ → List NodeSince → Option NodeState → List NodeSince
found_with wires seen kept i found None = found
found_with wires seen kept i found (Some node) = set found i (entry_since wires seen i kept node (known_since found i))

abbrev pub found_after : List (Option WireEnd) → List NodeSeen → Entry × ℕ → List NodeState → List NodeSince → List NodeSince
found_after wires seen kept nodes found =
    found_with wires seen kept (process wires (length nodes) kept.0) found (slice_get nodes (process wires (length nodes) kept.0))

-- after all of some entries
unfoldable pub walked : List (Option WireEnd) → List NodeSeen → List (Entry × ℕ) → List NodeState → List NodeSince → List NodeSince
walked wires seen [] nodes found = found
walked wires seen (kept ∷ more) nodes found = walked wires seen more (nodes_after wires kept nodes) (found_after wires seen kept nodes found)

-- by the nodes of a checkpoint, after which entry `first` comes, and by who waits in the end
abbrev pub nodes_since : List (Option WireEnd) → List NodeSeen → ℕ → List (Entry × ℕ) → List NodeState → List NodeSince
nodes_since wires seen first kept nodes = walked wires seen kept nodes (replicate (length nodes) (all_before first))

-- the number of the first entry after a checkpoint that holds `base` of them; if there is none, the number that it will have
abbrev pub number_after : ℕ → List (Entry × ℕ) → ℕ
number_after base [] = base
number_after base (kept ∷ more) = kept.1

-- Since when processes wait at the links of each node of an opened device.
abbrev pub opened_since : Opened → List NodeSince
opened_since o = nodes_since o.head.topology.wires (map node_seen o.now.nodes) (number_after o.base o.kept) o.kept o.cut.nodes

-- ## An end

abbrev pub at_link : FourSince → ℕ → Since
at_link four k = if k == 0 then four.zero else if k == 1 then four.one else if k == 2 then four.two else four.three

-- at the output end, or at the input end, of link k
abbrev pub at_end : NodeSince → Bool → ℕ → Since
at_end since sends k = at_link (if sends then since.outputs else since.inputs) k

abbrev pub since_at : List NodeSince → Bool → ℕ → ℕ → Since
since_at all sends i k = at_end (known_since all i) sends k
