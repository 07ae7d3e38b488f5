-- What a caller gives who knows nothing of what was before, or of what devices hold.
use Rattle.std.proofs.Common.{List, []}
use Rattle.std.specs.Prelude.{None}
use Rattle.tp_program.proofs.Lower.{Medium, NodeState, Network, Resting, History}

no_network : Network NodeState
no_network = record { wires = []; nodes = []; ports = []; lines = [] }

pub no_history : History
no_history = record {
  formatted = no_network;
  before = record {
    net = record { start = no_network; entries = []; live = no_network; snapshot = None; frozen = [] };
    base = 0;
    journal = [];
    disk = record { bytes = []; unsynced = [] };
    at = Resting;
    backlog = [];
    stored = 0;
    mark = 0;
    seen = [];
  };
}

pub no_media : List Medium
no_media = []
