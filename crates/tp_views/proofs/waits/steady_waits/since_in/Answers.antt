use Rattle.std.specs.Prelude.{◌≡◌, Ok, Err, map}
use Rattle.std.proofs.Common.{◌∙◌, sym, ap, rules}
use Rattle.tp_recover.specs.Nodes.{live_node}
use Rattle.tp_views.specs.Since.{nodes_since, number_after, opened_since}
use Rattle.tp_views.proofs.Told.{cut_again, no_fault, since_again}
use Rattle.tp_views.proofs.waits.steady_waits.since_in.Goals as goal

pub returns-in-Ok-clause-is : goal.returns-in-Ok-clause-is
returns-in-Ok-clause-is g c k o opens I =
    let head = c.args.head.now in
    let kept = c.args.kept.now in
    let seen = c.args.seen.now in
    let nodes = map live_node c.in_ok-cut.cut.nodes.items in
    let again : nodes ≡ o.cut.nodes = cut_again _ o head c.args.second c.args.base kept seen (Ok c.in_ok-cut.cut) opens I (c.in_ok-cut.ensures.is k) in
    let given : c.in-Ok.since.items ≡ nodes_since head.topology.wires seen (number_after c.args.base kept) kept nodes = search rules in
    ap Ok (sym (given ∙ since_again o head c.args.second c.args.base kept seen nodes I again))

pub returns-in_err-cut-clause-is : goal.returns-in_err-cut-clause-is
returns-in_err-cut-clause-is g c k o opens I =
    let told : c.from_residual.result ≡ Err c.in_err-cut.field-0.0 = search rules in
    no_fault _ (opened_since o) o.cut c.in_err-cut.field-0.0 c.from_residual.result
    (cut_again _ o c.args.head.now c.args.second c.args.base c.args.kept.now c.args.seen.now (Err c.in_err-cut.field-0.0) opens I (c.in_err-cut.ensures.is k)) told
