-- The world that a checkpoint leads to.
use Rattle.std.specs.Prelude.{◌+◌, List, [], length}
use Rattle.tp_area.specs.Lower.{State, NodeState, World, WholeCut, trimmed, Resting}

-- the book is trimmed to the cut, with its frozen nodes; all entries are stored, and the device is as it is then
abbrev pub checkpointed : World NodeState → WholeCut → List NodeState → State → World NodeState
checkpointed w cut nodes s = record w {
  net = trimmed w.net cut nodes;
  base = w.base + cut.size;
  disk = s.now;
  at = Resting;
  backlog = [];
  stored = w.base + length w.net.entries;
}
