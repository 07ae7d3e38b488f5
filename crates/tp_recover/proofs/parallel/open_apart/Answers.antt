use Rattle.std.proofs.Common.{◌≡◌, rules, Err}
use Rattle.tp_recover.proofs.TakenRows.{area_played, area_unplayed, area_untaken, taken_counted, taken_unmarked}
use Rattle.tp_recover.proofs.parallel.open_apart.Goals as goal

pub returns-in_err-start-clause-is : goal.returns-in_err-start-clause-is
returns-in_err-start-clause-is g c k =
    let told : c.from_residual.result ≡ Err c.in_err-start.field-0.0 = search rules in
    area_untaken _ c.args.head c.args.second _ c.in_err-start.field-0.0 c.from_residual.result (c.in_err-start.ensures.is k) told

pub play_rows-requires-clause-unmarked : goal.play_rows-requires-clause-unmarked
play_rows-requires-clause-unmarked g c κs within =
    taken_unmarked c.args.head c.args.second c.in_ok-start.field-0 _ c.in_ok-start.ensures.taken c.into_parts-network.ensures.network

pub play_rows-requires-clause-counted : goal.play_rows-requires-clause-counted
play_rows-requires-clause-counted g c κs within =
    taken_counted c.args.head c.args.second c.in_ok-start.field-0 _ c.in_ok-start.ensures.taken c.into_parts-network.ensures.network

pub returns-in_err-replay-clause-is : goal.returns-in_err-replay-clause-is
returns-in_err-replay-clause-is g c k =
    let told : c.from_residual-in_err-replay.result ≡ Err c.in_err-replay.field-0.0 = search rules in
    area_unplayed _ c.args.head c.args.second _ c.in_ok-start.field-0 _ c.in_err-replay.field-0.0 c.from_residual-in_err-replay.result
    c.in_ok-start.ensures.taken c.into_parts-network.ensures.network (c.in_ok-start.ensures.is k) c.in_err-replay.ensures.is told

pub returns-clause-is : goal.returns-clause-is
returns-clause-is g c k =
    area_played c.args.head c.args.second _ c.in_ok-start.field-0 _ (c.in_ok-replay.replay, c.in_ok-replay.end)
    c.in_ok-start.ensures.taken c.into_parts-network.ensures.network (c.in_ok-start.ensures.is k) c.in_ok-replay.ensures.is
