use Rattle.tp_replay.specs.Held.{has}
use Rattle.tp_replay.proofs.Counting.{can_count, room_true}
use Rattle.tp_replay.proofs.Halves.{same_has}
use Rattle.tp_replay.proofs.pieces.host_part.HostPartPart.apply.Goals as goal

pub go_on-requires : goal.go_on-requires
go_on-requires c = can_count c.args.self.now.network c.requires

pub returns-clause-has : goal.returns-clause-has
returns-clause-has c = same_has _ _ c.go_on.ensures.same

pub returns-clause-goes : goal.returns-clause-goes
returns-clause-goes c = c.go_on.ensures.goes

pub returns-clause-room : goal.returns-clause-room
returns-clause-room c = room_true (has c.args.self.now) c.args.self.now.network c.args.entry.now c.go_on.new.self.network c.go_on.result c.go_on.ensures.goes
