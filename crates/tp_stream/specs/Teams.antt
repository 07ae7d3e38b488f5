-- How many threads make turns.
use Rattle.std.specs.Prelude.{ℕ, ◌+◌, max, min}
use Rattle.tp_work.specs.declared.start.TheConstants.{MAX_WORKERS}

-- How many workers make the turns of a network of `nodes` nodes: as many as are asked for, but no more than MAX_WORKERS, and no more than there are
-- processes, which are the nodes and the host. There is at least one.
abbrev pub team_of : ℕ → ℕ → ℕ
team_of asked nodes = max 1 (min asked (min MAX_WORKERS (nodes + 1)))
