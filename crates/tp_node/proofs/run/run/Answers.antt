use Rattle.std.proofs.Common.{◌≡◌, ◌+◌, ℕ, List, Option, Some, None, refl, sym, subst, arith}
use Rattle.std.specs.Prelude.{option_to_list}
use Rattle.tp_node.proofs.Lower.{NodeState, node_step, Token}
use Rattle.tp_node.specs.declared.step.StepOutcome.TheVariants.{Step}
use Rattle.tp_node.specs.Makes.{Makes}
use Rattle.tp_node.specs.StateWith.{state_with}
use Rattle.tp_node.proofs.Room.{room_step, room_few}
use Rattle.tp_node.proofs.RunSoFar.{Runs, runs_step, runs_on, runs_first}
use Rattle.tp_node.proofs.run.run.Goals as goal
use Rattle.tp_node.proofs.run.run.Goals.{In-Step}

-- the step that was made
made : (o : Option (NodeState × List (ℕ × Token))) (cause : Type 0) (before now : NodeState) (token : Option (ℕ × Token)) → Makes o cause before (Step token) now → o ≡ Some (now, option_to_list token)
made None cause before now token makes = absurd makes
made (Some (after, sent)) cause before now token makes = rw (makes.0, makes.1) refl

pub loop-count-init : goal.loop-count-init
loop-count-init g c =
    let begun = state_with c.args.head.now (g.M.Mem.bytes c.args.mem.now) in
    let few = room_few begun in
    record {
      runs = runs_first c.advance-count.result begun c.args.sent.now.items (g.M.Mem.kept c.args.mem.now)
          (record { cpu = c.advance-count.new.cpu; memory = g.M.Mem.bytes c.advance-count.new.mem; kept = g.M.Mem.kept c.advance-count.new.mem }) c.requires (omega arith) c.advance-count.ensures.advanced;
      most = c.advance-count.ensures.few;
    }

pub push-requires : goal.push-requires
push-requires g c =
    let step = made _ _ _ _ c.in-Step.token c.in-Step.ensures.makes in
    let less = room_step _ _ step in
    omega (arith, c.loop-count.invariant.runs.places)

pub loop-count-preserved : goal.loop-count-preserved
loop-count-preserved g c =
    let begun = state_with c.args.head.now (g.M.Mem.bytes c.args.mem.now) in
    let before = state_with c.loop-count.head (g.M.Mem.bytes c.loop-count.mem) in
    let now = state_with c.make_step.new.head (g.M.Mem.bytes c.make_step.new.mem) in
    let token = option_to_list c.in-Step.token in
    let sent = c.loop-count.sent.items in
    let was = g.M.Mem.kept c.args.mem.now in
    let left = g.M.Mem.kept c.make_step.new.mem in
    let step : node_step before ≡ Some (now, token) = made _ _ _ _ c.in-Step.token c.in-Step.ensures.makes in
    let one = runs_step c.loop-count.count begun before now sent token was (g.M.Mem.kept c.loop-count.mem) left c.loop-count.invariant.runs step c.in-Step.ensures.kept in
    let all : Runs (c.loop-count.count + 1) begun now c.push.new.sent.items was left =
    subst (λ (xs : List (ℕ × Token)). Runs (c.loop-count.count + 1) begun now xs was left) (sym c.push.ensures) one in
    record {
      runs = runs_on c.advance-count-in-loop-count.result (c.loop-count.count + 1) begun c.push.new.sent.items was now left
          (record { cpu = c.advance-count-in-loop-count.new.cpu; memory = g.M.Mem.bytes c.advance-count-in-loop-count.new.mem; kept = g.M.Mem.kept c.advance-count-in-loop-count.new.mem }) all c.advance-count-in-loop-count.ensures.advanced;
      most = omega (arith, c.advance-count-in-loop-count.ensures.few);
    }
