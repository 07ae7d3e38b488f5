-- A flat network's fields: what they mean, and what they keep.
use Rattle.tp_replay.specs.Lower.{NodeState, Network}
use Rattle.tp_replay.specs.declared.network.FlatNetwork.TheInside.{Inside}
use Rattle.tp_replay.specs.Flat.{IsFlat, AreThawed, network_flat}

abbrev pub replay_state : Inside → Network NodeState
replay_state n = network_flat n.wires.items n.nodes.items n.lines n.ports.items

-- What is true of every flat network.
pub record IsInside (n : Inside) : Type 0 where
  pub flat : IsFlat (replay_state n)
  pub thawed : AreThawed n.nodes.items
