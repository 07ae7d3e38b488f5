use Rattle.std.proofs.Common.{rules, ◌≡◌, ◌∙◌, ◌∷◌, Some, ap, map, option_copied, set, sym, option_map}
use Rattle.tp_trace.proofs.Lower.{map-set, NodeState, Data}
use Rattle.tp_trace.specs.Others.{Attended, attended, data_at}
use Rattle.tp_trace.specs.Steps.{heard}
use Rattle.tp_trace.specs.declared.hearing.Heard.{Heard}
use Rattle.tp_trace.proofs.others.data_at.Goals as goal

pub returns-clause-comes : goal.returns-clause-comes
returns-clause-comes c =
    let a = attended c.args.linked.now in
    let byte = c.in_ok-byte.byte.now in
    let rest = c.in_ok-byte.behind.now in
    let cut : c.args.rest.now ≡ byte ∷ rest = search rules in
    let after : NodeState → Heard × Attended =
    λ node. (heard a.node c.args.link (Data byte), record { node = node; others = set a.others c.args.link (Some rest) }) in
    let others : map option_copied (set c.args.linked.now.others c.args.link (Some c.in_ok-byte.behind)) ≡ set a.others c.args.link (Some rest) =
    map-set option_copied c.args.linked.now.others c.args.link (Some c.in_ok-byte.behind) in
    ap (data_at a c.args.link) cut ∙ ap (option_map after) c.in_ok-heard.ensures.hears.0
    ∙ (λ i. Some (sym c.in_ok-heard.ensures.hears.1 i, record { node = c.trace_take.new.node.live; others = sym others i }))
