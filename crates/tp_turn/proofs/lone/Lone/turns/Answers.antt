use Rattle.std.proofs.Common.{◌+◌, ◌*◌, arith, ◌%◌}
use Rattle.std.specs.Prelude.{◌==◌}
use Rattle.tp_turn.specs.Lone.{lone_of}
use Rattle.tp_turn.specs.TrialTurns.{IsTurnOf, AreTurns}
use Rattle.tp_turn.specs.declared.take.TheConstants.{TURN_ENTRIES}
use Rattle.tp_turn.proofs.Made.{made_more, order_none, order_more}
use Rattle.tp_turn.proofs.lone.Lone.turns.Goals as goal

pub loop-number-init : goal.loop-number-init
loop-number-init c = record { turned = record { made = order_none (λ number. IsTurnOf c.args.quantum (number % 2 == 0)) (lone_of c.args.self.now); lone = c.requires.lone } }

pub turn-requires-clause-lone : goal.turn-requires-clause-lone
turn-requires-clause-lone c = c.loop-number.invariant.turned.lone

pub turn-requires-clause-few : goal.turn-requires-clause-few
turn-requires-clause-few c = omega (arith, c.loop-number.invariant.turned.made.few, c.loop-number.invariant.turned.made.counted, c.requires.few)

pub loop-number-preserved : goal.loop-number-preserved
loop-number-preserved c = record {
  turned = record {
    made = made_more (AreTurns c.args.quantum (c.loop-number.number + 1)) (TURN_ENTRIES * c.loop-number.number + TURN_ENTRIES) (TURN_ENTRIES * (c.loop-number.number + 1)) (lone_of c.args.self.now) (lone_of c.turn.new.self) (omega arith)
        (order_more (λ number. IsTurnOf c.args.quantum (number % 2 == 0)) c.loop-number.number (TURN_ENTRIES * c.loop-number.number) TURN_ENTRIES (lone_of c.args.self.now) (lone_of c.loop-number.self) (lone_of c.turn.new.self)
        c.loop-number.invariant.turned.made c.in_ok-turn.ensures.made);
    lone = c.in_ok-turn.ensures.lone;
  };
}
