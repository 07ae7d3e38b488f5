use Rattle.std.proofs.Common.{Some}
use Rattle.tp_work.proofs.Seated.{all_new, all_seated}
use Rattle.tp_work.proofs.net.Net.start.Goals as goal

pub returns-clause-seats : goal.returns-clause-seats
returns-clause-seats g c =
    all_seated c.in_ok-seats.seats.items c.in_ok-queue.hands.items (Some c.in_ok-queue.queue) c.in_ok-seats.ensures.hands c.in_ok-queue.ensures.hands c.in_ok-seats.ensures.slips

pub returns-clause-new : goal.returns-clause-new
returns-clause-new g c = all_new c.in_ok-seats.seats.items c.in_ok-queue.hands.items c.in_ok-seats.ensures.hands c.in_ok-queue.ensures.new
