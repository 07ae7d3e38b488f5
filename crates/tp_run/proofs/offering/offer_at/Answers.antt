use Rattle.std.proofs.Common.{◌≡◌, ◌<◌, length, subst}
use Rattle.std.specs.Prelude.{IfErr}
use Rattle.tp_run.specs.declared.fault.RunFault.TheVariants.{OfferRefused}
use Rattle.tp_run.specs.Outset.{StandsIn}
use Rattle.tp_run.proofs.Slips.{offered_at, rest_is}
use Rattle.tp_run.proofs.offering.offer_at.Goals as goal

pub returns-clause-receipt : goal.returns-clause-receipt
returns-clause-receipt g c =
    let E = c.offer_rest.ensures in
    offered_at c.args.held.now.book c.offer_rest.new.held.book c.args.outset c.args.input.now c.args.seat.now c.offer_rest.new.seat c.args.key.now c.offer_rest.new.key c.offer_rest.result
    (subst (StandsIn c.args.outset) c.book.ensures c.in_ok-stands_in.ensures.stands) E.book E.number E.receipt E.handed

pub returns-clause-some : goal.returns-clause-some
returns-clause-some g c =
    let S = subst (StandsIn c.args.outset) c.book.ensures c.in_ok-stands_in.ensures.stands in
    subst (λ bytes. IfErr c.offer_rest.result (λ fault. fault ≡ OfferRefused → 0 < length bytes)) (rest_is c.args.held.now.book c.args.outset c.args.input.now S) c.offer_rest.ensures.some
