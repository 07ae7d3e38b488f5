-- A network that has a cut image, with bytes in its nodes.
use Rattle.std.specs.Prelude.{ℕ}
use Rattle.tp_law_device.specs.Lower.{AllByRecursion, NodeState, t414_ends, Network, Topology, IsCut, IsNodeOfBytes}

pub record CutSpelt (t : Topology) (base : ℕ) (s : Network NodeState) : Type 0 where
  pub cut : IsCut t414_ends t base s
  pub bytes : AllByRecursion IsNodeOfBytes s.nodes
