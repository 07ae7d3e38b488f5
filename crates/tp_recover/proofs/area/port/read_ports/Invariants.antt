-- The ports that were read, and those after them, are all.
use Rattle.std.proofs.Common.{◌≡◌, ◌+◌, ◌*◌, ◌-◌, drop, length, map, true}
use Rattle.tp_recover.proofs.Lower.{port_made, PORT_BYTES, ports_in, State, Counts, AreTrue, WereTrue}
use Rattle.tp_recover.specs.Ports.{ArePorts}
use Rattle.tp_recover.specs.Reading.{LeavesNothingNew}
use Rattle.tp_recover.proofs.Records.{behind}
use Rattle.tp_recover.proofs.area.port.read_ports.Given as goal

abbrev pub invariant-loop-port : goal.invariant-loop-port
invariant-loop-port g l = record {
  counts : Counts true (g.D.Disk.size_of l.fn.disk) (g.D.Disk.size_of l.disk) (g.D.Disk.failures_of l.fn.disk) (g.D.Disk.failures_of l.disk);
  premise : WereTrue (g.D.Disk.reads l.fn.disk) (g.D.Disk.reads l.disk);
  kept : (g.D.Disk.state l.disk).now ≡ (g.D.Disk.state l.fn.disk).now;
  leaves : (s : State) → LeavesNothingNew s (g.D.Disk.state l.fn.disk) → LeavesNothingNew s (g.D.Disk.state l.disk);
  count : length l.ports.items ≡ l.port;
  ports : ArePorts l.base (map port_made l.ports.items);
  read : AreTrue (g.D.Disk.reads l.disk) → ports_in l.base l.at l.count (drop l.at (g.D.Disk.state l.fn.disk).now.bytes)
      ≡ behind (map port_made l.ports.items) (ports_in l.base (l.at + PORT_BYTES * l.port) (l.count - l.port) (drop (l.at + PORT_BYTES * l.port) (g.D.Disk.state l.fn.disk).now.bytes));
}
