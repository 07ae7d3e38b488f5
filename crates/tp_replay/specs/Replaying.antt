-- What is replayed so far, in its fields.
use Rattle.std.specs.Prelude.{◌<◌}
use Rattle.tp_replay.specs.Lower.{NUMBER_LIMIT, NodeState, Replay, AreCounted}
use Rattle.tp_replay.specs.declared.replaying.Replay.TheInside.{Inside}

abbrev pub replay_of : Inside → Replay NodeState
replay_of r = record { form = r.form; now = r.network; kept = r.kept.items; next = r.next; least = r.least }

-- A number is left for the next entry, and ports have counted at most as much as there are entries.
pub record IsReplay (r : Inside) : Type 0 where
  pub few : r.next < NUMBER_LIMIT
  pub counted : AreCounted r.next r.network.ports
