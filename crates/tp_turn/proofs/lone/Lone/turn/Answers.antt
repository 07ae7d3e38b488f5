use Rattle.std.specs.Prelude.{◌==◌, ◌%◌}
use Rattle.tp_turn.specs.TrialTurns.{IsTurnOf}
use Rattle.tp_turn.specs.declared.take.TheConstants.{TURN_ENTRIES}
use Rattle.tp_turn.proofs.Ended.{went_dropped}
use Rattle.tp_turn.proofs.lone.Lone.turn.Goals as goal

pub drop_entries-requires-clause-alone : goal.drop_entries-requires-clause-alone
drop_entries-requires-clause-alone c = c.in_ok-turn_of.ensures.lone.book.alone

pub drop_entries-requires-clause-idle : goal.drop_entries-requires-clause-idle
drop_entries-requires-clause-idle c = c.in_ok-turn_of.ensures.lone.book.idle

pub returns : goal.returns
returns c =
    went_dropped (IsTurnOf c.args.quantum (c.args.number % 2 == 0)) TURN_ENTRIES c.args.self.now c.turn_of.new.self c.drop_entries.new.self
    c.drop_entries.ensures.book c.drop_entries.ensures.agreed c.drop_entries.ensures.network c.in_ok-turn_of.ensures
