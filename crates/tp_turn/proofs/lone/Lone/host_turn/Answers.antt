use Rattle.std.proofs.Common.{rules}
use Rattle.tp_turn.proofs.Went.{host_went, host_wants}
use Rattle.tp_turn.proofs.lone.Lone.host_turn.Goals as goal

pub host_turn-requires : goal.host_turn-requires
host_turn-requires c = c.requires.lone.book.ready

pub returns-in-Ok : goal.returns-in-Ok
returns-in-Ok c = host_went c.args.self.now c.requires.lone c.requires.few c.in-Ok._takes c.host_turn.new.book c.in-Ok.ensures

pub unreachable-requires : goal.unreachable-requires
unreachable-requires c =
    let so = host_wants c.args.self.now c.requires.lone c.requires.few c.in-Err.field-0 c.host_turn.new.book c.in-Err.ensures in
    search (rules, so)
