use Rattle.std.proofs.Common.{◌≡◌, ℕ, rules, Err}
use Rattle.tp_recover.proofs.Openings.{area_unread, area_broken, area_whole}
use Rattle.tp_recover.proofs.Leaving.{then_leaves}
use Rattle.tp_recover.proofs.opening.open_area.Goals as goal

pub returns-in_err-front-clause-is : goal.returns-in_err-front-clause-is
returns-in_err-front-clause-is g c k =
    let told : c.from_residual.result ≡ Err c.in_err-front.field-0.0 = search rules in
    area_unread _ c.args.head c.args.second _ c.in_err-front.field-0.0 c.from_residual.result (c.in_err-front.ensures.is k) told

pub returns-in_err-end-clause-is : goal.returns-in_err-end-clause-is
returns-in_err-end-clause-is g c k =
    let told : c.from_residual-in_err-end.result ≡ Err c.in_err-end.field-0.0 = search rules in
    area_broken _ (λ (gate : ℕ). (c.replay_area.new.replay, gate)) c.args.head c.args.second (g.D.Disk.state c.args.disk.now).now (g.D.Disk.state c.read_start.new.disk).now c.in_ok-front.field-0 c.in_err-end.field-0.0 c.from_residual-in_err-end.result
    c.in_ok-front.ensures.start (c.in_ok-front.ensures.is (c.replay_area.ensures.premise k)) c.in_ok-front.ensures.kept (c.in_err-end.ensures.is k) told

pub returns-clause-is : goal.returns-clause-is
returns-clause-is g c k =
    area_whole c.args.head c.args.second (g.D.Disk.state c.args.disk.now).now (g.D.Disk.state c.read_start.new.disk).now c.in_ok-front.field-0 c.replay_area.new.replay c.in_ok-end.end
    c.in_ok-front.ensures.start (c.in_ok-front.ensures.is (c.replay_area.ensures.premise k)) c.in_ok-front.ensures.kept (c.in_ok-end.ensures.is k)

pub returns-in_err-end-clause-leaves : goal.returns-in_err-end-clause-leaves
returns-in_err-end-clause-leaves g c = then_leaves _ _ _ c.read_start.ensures.leaves c.replay_area.ensures.leaves

pub returns-clause-leaves : goal.returns-clause-leaves
returns-clause-leaves g c = then_leaves _ _ _ c.read_start.ensures.leaves c.replay_area.ensures.leaves
