use Rattle.std.proofs.Common.{◌≡◌, ◌<◌, ◌≤◌, sym, ap, subst, ◌∙◌, arith, Some, None}
use Rattle.std.specs.Prelude.{is_some}
use Rattle.tp_replay.proofs.Lower.{true≢false, t414, node_step, steps, node_steps, why_most, why_fewer, lacking_frozen}
use Rattle.tp_replay.specs.NodesInside.{IsLive}
use Rattle.tp_replay.proofs.Fewer.{steps_fewer}
use Rattle.tp_replay.proofs.TurnOfNode.{turned_all, turned_none, turned_short}
use Rattle.tp_replay.proofs.pieces.turns.make_turn.Goals as goal

pub returns-then-not-take_all-clause-turns : goal.returns-then-not-take_all-clause-turns
returns-then-not-take_all-clause-turns c = turned_none c.args.tokens.now c.args.count c.args.node.now.live c.if-not-take_all.ensures.takes

pub returns-then-count-clause-live : goal.returns-then-count-clause-live
returns-then-count-clause-live c =
    let was = c.take_all.ensures.live in
    let new = c.run-ran.new.self in
    record { bytes = (node_steps c.run-ran.result.count c.take_all.new.node.live (new.live, c.run-ran.new.out.items) was.bytes c.run-ran.ensures.steps).0; thawed = c.run-ran.ensures.kept ∙ was.thawed }

pub returns-then-count-clause-turns : goal.returns-then-count-clause-turns
returns-then-count-clause-turns c =
    let was = c.take_all.ensures.live in
    let old = c.take_all.new.node in
    let new = c.run-ran.new.self in
    let live : IsLive new = record { bytes = (node_steps c.run-ran.result.count old.live (new.live, c.run-ran.new.out.items) was.bytes c.run-ran.ensures.steps).0; thawed = c.run-ran.ensures.kept ∙ was.thawed } in
    let most : c.run-ran.result.count ≤ c.args.count = why_most c.run-ran.result.why c.args.count c.run-ran.result.count _ new.live c.run-ran.ensures.why in
    let fewer : c.run-ran.result.count < c.args.count = omega (arith, most, c.count.ensures, c.if-count.true) in
    let none : node_step new.live ≡ None =
    why_fewer c.run-ran.result.why c.args.count c.run-ran.result.count _ new.live c.run-ran.ensures.why (λ lacks. true≢false (sym (lacking_frozen new _ lacks) ∙ ap is_some live.thawed)) fewer in
    let short : steps t414 c.args.count old.live ≡ None = steps_fewer t414 c.run-ran.result.count c.args.count old.live (new.live, c.run-ran.new.out.items) c.run-ran.ensures.steps none fewer in
    turned_short c.args.tokens.now c.args.count c.args.node.now.live old.live c.take_all.new.out.items c.if-not-take_all.ensures.takes short

pub returns-clause-live : goal.returns-clause-live
returns-clause-live c =
    let was = c.take_all.ensures.live in
    let new = c.run-ran.new.self in
    record { bytes = (node_steps c.run-ran.result.count c.take_all.new.node.live (new.live, c.run-ran.new.out.items) was.bytes c.run-ran.ensures.steps).0; thawed = c.run-ran.ensures.kept ∙ was.thawed }

pub returns-clause-turns : goal.returns-clause-turns
returns-clause-turns c =
    let old = c.take_all.new.node in
    let new = c.run-ran.new.self in
    let all : c.run-ran.result.count ≡ c.args.count = sym c.count.ensures ∙ c.if-count.false in
    let ran : steps t414 c.args.count old.live ≡ Some (new.live, c.run-ran.new.out.items) = subst (λ k. steps t414 k old.live ≡ Some (new.live, c.run-ran.new.out.items)) all c.run-ran.ensures.steps in
    turned_all c.args.tokens.now c.args.count c.args.node.now.live old.live new.live c.take_all.new.out.items c.run-ran.new.out.items c.if-not-take_all.ensures.takes ran
