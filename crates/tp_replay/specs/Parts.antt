-- Parts of both kinds.
use Rattle.std.specs.Prelude.{ℕ}
use Rattle.tp_replay.specs.declared.pieces.net_part.NetPart.{NetPart}
use Rattle.tp_replay.specs.declared.pieces.net_part.NetPart.TheVariants.{Nodes, Host}
use Rattle.tp_replay.specs.Counts.{most_entries, room_of}
use Rattle.tp_replay.specs.Held.{HeldPart}

-- what contracts see of it
abbrev pub held_part : NetPart → HeldPart
held_part (Nodes held) = held
held_part (Host held) = held

-- with how many entries it can go on
abbrev pub net_room : NetPart → ℕ
net_room (Nodes held) = most_entries
net_room (Host held) = room_of held.network.ports
