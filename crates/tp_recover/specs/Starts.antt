-- What is read of an area before its groups, and what is opened with them.
use Rattle.std.specs.Prelude.{◌≡◌, ◌<◌, ℕ, ◌+◌, Bool, List, drop, Result, Ok}
use Rattle.tp_recover.specs.Lower.{AllByRecursion, OpenFault, NUMBER_LIMIT, area_start, Head, Network, t414_ends, NodeState, Opened, cut_in, groups_place, Listing, Replay, listing, replay_from, ◌>>=◌, IsCut, IsNodeOfBytes, CutFront, front_given}
use Rattle.tp_recover.specs.declared.area.start.Start.{Start}
use Rattle.tp_recover.specs.AfterGroups.{after_groups}

-- the fields before a cut, and the cut
pub record Read : Type 0 where
  pub front : CutFront
  pub cut : Network NodeState

abbrev pub read_as : CutFront → Network NodeState → Read
read_as front cut = record { front = front; cut = cut }

abbrev pub read_of : Start → Read
read_of start = read_as start.front start.cut.network

-- what comes before an area's groups
abbrev pub read_in : Head → Bool → List ℕ → Result Read OpenFault
read_in head second content = do
  front ← front_given head.topology (area_start head.areas second) content
  cut ← cut_in t414_ends head.topology (area_start head.areas second + 1) content
  Ok (read_as front cut)

-- Nothing is replayed so far, the cut is one of that head's topology, whose nodes were read from bytes, and the generation is one.
pub record IsStart (head : Head) (start : Start) : Type 0 where
  pub replay : start.replay ≡ replay_from start.front.form start.cut.network start.front.base
  pub cut : IsCut t414_ends head.topology start.front.base start.cut.network
  pub nodes : AllByRecursion IsNodeOfBytes start.cut.network.nodes
  pub age : start.front.generation < NUMBER_LIMIT

-- what is read of the groups of an area
abbrev pub groups_of : Head → Bool → List ℕ → Listing
groups_of head second content =
    listing 0 (area_start head.areas second + 1 + groups_place head.topology) (drop (groups_place head.topology) content)

-- what is opened, by what was read and what was replayed, up to a closed gate at this place
abbrev pub opened_with : Head → Bool → Read → Replay NodeState × ℕ → Opened
opened_with head second read found = record {
  head = head;
  second = second;
  generation = read.front.generation;
  form = read.front.form;
  base = read.front.base;
  cut = read.cut;
  kept = found.0.kept;
  now = found.0.now;
  end = found.1;
}

-- what a device opened to, once its groups are read
abbrev pub opened_after : Head → Bool → List ℕ → Read → Result Opened OpenFault
opened_after head second content read =
    after_groups (replay_from read.front.form read.cut read.front.base) (groups_of head second content) >>= (λ found. Ok (opened_with head second read found))
