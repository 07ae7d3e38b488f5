-- The state of a node between its turns.
use Rattle.std.specs.Prelude.{ℕ, Bool, true, false, ◌||◌, Option, Some, None, if◌then◌else◌, slice_get}
use Rattle.tp_node.specs.Lower.{NodeState, waits, InEnd, Inputs, Enabled, Fault}
use Rattle.tp_model.specs.declared.link.InEnd.TheVariants.{Idle}
use Rattle.tp_node.specs.declared.standing.Standing.{Standing}
use Rattle.tp_node.specs.declared.standing.Standing.TheVariants.{Halted, Waits, Free}

-- a process waits at an input end for a byte
abbrev pub is_listening : Option InEnd → Bool
is_listening None = false
is_listening (Some (Idle held)) = false
is_listening (Some (Inputs t)) = true
is_listening (Some (Enabled process)) = true

-- a process waits at an end of link k: for the acknowledge of its byte, or for a byte
abbrev pub waits_at_end : NodeState → ℕ → Bool
waits_at_end node k = waits node k || is_listening (slice_get node.inputs k)

-- A node that has halted is at the instruction at which it did; else a process waits at one of its links, or none does.
abbrev pub standing_with : Option Fault → NodeState → Standing
standing_with (Some fault) node = Halted fault node.cpu.iptr
standing_with None node =
    if waits_at_end node 0 || waits_at_end node 1 || waits_at_end node 2 || waits_at_end node 3 then Waits else Free

abbrev pub standing : NodeState → Standing
standing node = standing_with node.cpu.halt node
