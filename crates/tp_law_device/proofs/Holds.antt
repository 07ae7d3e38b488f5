-- The device keeps what crashes need.
use Rattle.tp_law_device.proofs.Lower.{NodeState, Machine, EndsSeen, AreasHold, areas_of}
use Rattle.tp_law_device.proofs.Spare.{spare_holds, spare_has_room}
use Rattle.tp_law_device.proofs.Groups.{body_holds, body_has_room, gate_holds, added_holds}
use Rattle.tp_law_device.proofs.Switches.{clear_holds, clear_has_room, switch_holds, switched_holds, switch_has_room}

pub areas_keep : (M : Machine NodeState) (E : EndsSeen NodeState) → AreasHold M (areas_of M E)
areas_keep M E = record {
  spare = spare_holds M E;
  spare_room = spare_has_room M E;
  body = body_holds M E;
  body_room = body_has_room M E;
  gate = gate_holds M E;
  added = added_holds M E;
  clear = clear_holds M E;
  clear_room = clear_has_room M E;
  switch = switch_holds M E;
  switched = switched_holds M E;
  switch_room = switch_has_room M E;
}
