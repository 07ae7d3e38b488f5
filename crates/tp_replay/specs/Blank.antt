-- What a part has in place of nodes and ports that aren't its own, which it never reads.
use Rattle.std.specs.Prelude.{ℕ, List, [], ◌++◌, replicate, false, None}
use Rattle.tp_replay.specs.Lower.{Idle, NodeState, Port}

-- a node without memory and links
abbrev pub blank_node : NodeState
blank_node = record {
  cpu = record {
    iptr = 0;
    wptr = 0;
    regs = record { a = 0; b = 0; c = 0; error = false };
    high = record { front = 0; back = 0 };
    low = record { front = 0; back = 0 };
    state = Idle;
    slice = 0;
    halt = None;
  };
  memory = [];
  outputs = [];
  inputs = [];
}

-- a port at which nothing has happened
abbrev pub blank_port : Port
blank_port = record { pending = []; in_base = 0; outputs = []; out_base = 0 }

-- nodes with `before` blank ones before them, and `behind` blank ones after them
abbrev pub among : ℕ → List NodeState → ℕ → List NodeState
among before nodes behind = replicate before blank_node ++ (nodes ++ replicate behind blank_node)
