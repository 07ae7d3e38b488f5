-- What is left to be sent leads to the final lines, and has room.
use Rattle.std.proofs.Common.{◌≡◌, length, drop}
use Rattle.tp_model.specs.Network.{has_wire, sent}
use Rattle.tp_book.specs.Room.{HasRoom, from_line}
use Rattle.tp_book.proofs.send.send_all.Given as goal

abbrev pub invariant-loop-m : goal.invariant-loop-m
invariant-loop-m l =
    (length l.lines ≡ length l.wires)
    × HasRoom (has_wire l.wires) l.lines (from_line l.first (drop l.m-index l.tokens))
    × (sent (has_wire l.wires) l.lines (from_line l.first (drop l.m-index l.tokens)) ≡ sent (has_wire l.wires) l.initial.lines (from_line l.first l.tokens))
