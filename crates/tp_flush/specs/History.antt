-- What a process goes on from.
use Rattle.std.specs.Prelude.{[]}
use Rattle.tp_flush.specs.Lower.{NodeState, Network, World, fresh, Resting}

-- the network of the images with which the device was formatted, and the world before it was opened
pub record History : Type 0 where
  pub formatted : Network NodeState
  pub before : World NodeState

abbrev none : Network NodeState
none = record { wires = []; nodes = []; ports = []; lines = [] }

-- nothing is told
unfoldable pub untold : History
untold = record {
  formatted = none;
  before = record { net = fresh none; base = 0; journal = []; disk = record { bytes = []; unsynced = [] }; at = Resting; backlog = []; stored = 0; mark = 0; seen = [] };
}
