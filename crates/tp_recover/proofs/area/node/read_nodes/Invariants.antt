-- The nodes that were read, and those after them, are all.
use Rattle.std.proofs.Common.{◌≡◌, ◌+◌, take, drop, length, map, true}
use Rattle.std.specs.Prelude.{sum_by}
use Rattle.tp_recover.proofs.Lower.{nodes_in, State, Counts, image_length, AreTrue, WereTrue}
use Rattle.tp_recover.specs.Nodes.{live_node, AreAllThawed, HaveImages}
use Rattle.tp_recover.specs.Reading.{LeavesNothingNew}
use Rattle.tp_recover.proofs.Records.{behind}
use Rattle.tp_recover.proofs.area.node.read_nodes.Given as goal

abbrev pub invariant-loop-count : goal.invariant-loop-count
invariant-loop-count g l = record {
  counts : Counts true (g.D.Disk.size_of l.fn.disk) (g.D.Disk.size_of l.disk) (g.D.Disk.failures_of l.fn.disk) (g.D.Disk.failures_of l.disk);
  premise : WereTrue (g.D.Disk.reads l.fn.disk) (g.D.Disk.reads l.disk);
  kept : (g.D.Disk.state l.disk).now ≡ (g.D.Disk.state l.fn.disk).now;
  leaves : (s : State) → LeavesNothingNew s (g.D.Disk.state l.fn.disk) → LeavesNothingNew s (g.D.Disk.state l.disk);
  place : l.place ≡ l.at + sum_by image_length (take l.count-index l.pages);
  count : length l.nodes.items ≡ l.count-index;
  thawed : AreAllThawed l.nodes.items;
  images : HaveImages (take l.count-index l.pages) (map live_node l.nodes.items);
  read : AreTrue (g.D.Disk.reads l.disk) → nodes_in l.at l.pages (drop l.at (g.D.Disk.state l.fn.disk).now.bytes)
      ≡ behind (map live_node l.nodes.items) (nodes_in l.place (drop l.count-index l.pages) (drop l.place (g.D.Disk.state l.fn.disk).now.bytes));
}
