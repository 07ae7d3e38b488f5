use Rattle.std.proofs.Common.{◌≡◌, ◌-◌, ◌+◌, arith, sym, ap, ◌∙◌, subst}
use Rattle.tp_replay.proofs.Lower.{AllZip, range_with_len, slice_get, filter_by_mask}
use Rattle.tp_replay.proofs.First.{Tells, IsFirst, first_is, first_of_all}
use Rattle.tp_replay.proofs.pieces.stops.first_stop.Goals as goal

pub returns : goal.returns
returns g c =
    let e = c.find_first.ensures in
    let ends = c.into_par_iter.ensures in
    let whole : c.args.count - 0 ≡ c.args.count = omega arith in
    let all : 0 + c.args.count ≡ c.args.count = omega arith in
    let places = e.2 ∙ (λ i. range_with_len (ends.0 i) ((ends.1 i) - (ends.0 i))) ∙ ap (range_with_len 0) whole in
    let told = subst (λ xs. AllZip (Tells c.args.stops.now) xs e.1) places e.3 in
    let found = e.4 ∙ ap (λ xs. slice_get (filter_by_mask xs e.1) 0) places in
    first_of_all c.args.stops.now c.args.count c.find_first.result (subst (IsFirst c.args.stops.now 0 c.args.count) (sym found) (subst (λ n. IsFirst c.args.stops.now 0 n (slice_get (filter_by_mask (range_with_len 0 c.args.count) e.1) 0)) all (first_is c.args.stops.now 0 c.args.count e.1 told)))
