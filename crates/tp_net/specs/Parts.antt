-- Topologies by their parts.
use Rattle.std.specs.Prelude.{ℕ, if◌then◌else◌, List, Option, Some, None}
use Rattle.tp_net.specs.Lower.{WireEnd, Topology, is_topology}

-- the nodes' pages, the ports and the lines' receivers, whether they are a topology or not
abbrev pub parts : List ℕ → ℕ → List (Option WireEnd) → Topology
parts pages ports wires = record { pages = pages; ports = ports; wires = wires }

-- what keeps the rules of topologies
abbrev pub if_topology : Topology → Option Topology
if_topology t = if is_topology t then Some t else None
