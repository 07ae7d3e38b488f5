-- What is left to be sent leads to the final lines, and has room.
use Rattle.std.proofs.Common.{◌≡◌, ◌-◌, length}
use Rattle.tp_book.proofs.Lower.{has_wire, sent, host_markers}
use Rattle.tp_book.specs.Room.{HasRoom}
use Rattle.tp_book.proofs.cuts.markers.mark_ports.Given as goal

abbrev pub invariant-loop-done : goal.invariant-loop-done
invariant-loop-done l =
    (length l.lines ≡ length l.wires)
    × HasRoom (has_wire l.wires) l.lines (host_markers l.nodes (l.ports - l.done))
    × (sent (has_wire l.wires) l.lines (host_markers l.nodes (l.ports - l.done)) ≡ sent (has_wire l.wires) l.initial.lines (host_markers l.nodes l.ports))
