-- What an opened device's fields mean, and what they keep.
use Rattle.std.specs.Prelude.{◌+◌, ◌<◌, ◌≤◌}
use Rattle.tp_recover.specs.Lower.{AllByRecursion, AREA_HEAD_BYTES, NUMBER_LIMIT, area_start, t414_ends, Opened, replay_from, IsCut, IsNodeOfBytes}
use Rattle.tp_recover.specs.declared.opening.Opened.TheInside.{Inside}
use Rattle.tp_recover.specs.AfterGroups.{LeadsTo}

abbrev pub opened_of : Inside → Opened
opened_of o = record {
  head = o.head;
  second = o.second;
  generation = o.generation;
  form = o.form;
  base = o.base;
  cut = o.cut.network;
  kept = o.replay.kept;
  now = o.replay.now;
  end = o.end;
}

-- What is true of every opened device, whatever its reads gave. The cut is one of the head's topology, its nodes were read from bytes, and
-- its generation is one. Entries lead from it to what was replayed. The closed gate after them is inside the open area, after its head.
pub record IsWellOpened (o : Inside) : Type 0 where
  pub cut : IsCut t414_ends o.head.topology o.base o.cut.network
  pub nodes : AllByRecursion IsNodeOfBytes o.cut.network.nodes
  pub age : o.generation < NUMBER_LIMIT
  pub leads : LeadsTo (replay_from o.form o.cut.network o.base) o.replay
  pub behind : area_start o.head.areas o.second + AREA_HEAD_BYTES ≤ o.end
  pub inside : o.end < area_start o.head.areas o.second + o.head.areas.length
