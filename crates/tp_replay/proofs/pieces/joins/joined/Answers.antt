use Rattle.std.proofs.Common.{◌≡◌, ◌∷◌, [], refl, ap, ◌∙◌, length, length-append, slice_index_or}
use Rattle.tp_replay.proofs.Lower.{get_or_at, IfOk-weaker, NodeState, Network}
use Rattle.tp_replay.specs.Apart.{network_apart}
use Rattle.tp_replay.specs.Dealing.{AgreeAll, no_part}
use Rattle.tp_replay.specs.NodesInside.{AreLive}
use Rattle.tp_replay.specs.Joining.{AreBefore, HoldsFrom}
use Rattle.tp_replay.proofs.Rejoined.{all_before, holds_all, last_is_host}
use Rattle.tp_replay.proofs.pieces.joins.joined.Goals as goal

pub unreachable-requires : goal.unreachable-requires
unreachable-requires c =
    let items = c.args.parts.items in
    let rest = c.pop.new.self.items in
    let last = c.in-Some-Nodes.field-0 in
    let took = c.in-Some-Nodes.ensures.items in
    last_is_host items c.requires (length rest) (ap length took ∙ length-append rest (last ∷ [])) c.in-Some-Nodes.run' c.known.ensures.0
    (ap (λ ps. slice_index_or ps (length rest) no_part) took ∙ get_or_at rest last [] no_part (length rest) refl ∙ c.in-Some-Nodes.field-0-is) c.known.ensures.1

pub with_runs-requires : goal.with_runs-requires
with_runs-requires c = (
  c.requires.whole,
  all_before c.args.parts.items c.requires c.pop.new.self.items c.in-Some-Host.field-0 c.in-Some-Host.host c.in-Some-Host.ensures.items c.in-Some-Host.field-0-is c.in_ok-apart-in-Some-Host.apart
      c.in_ok-apart-in-Some-Host.ensures c.requires.whole c.requires.agree,
)

pub returns-clause-is : goal.returns-clause-is
returns-clause-is c =
    let rest = c.pop.new.self.items in
    let a = c.in_ok-apart-in-Some-Host.apart in
    let before = all_before c.args.parts.items c.requires rest c.in-Some-Host.field-0 c.in-Some-Host.host c.in-Some-Host.ensures.items c.in-Some-Host.field-0-is a c.in_ok-apart-in-Some-Host.ensures in
    IfOk-weaker c.with_runs.result (λ now. (t : Network NodeState) → AreBefore t rest a → HoldsFrom t 0 now) (λ now. (t : Network NodeState) → AgreeAll c.args.parts.items t → network_apart now ≡ t)
    (λ now holds t agree. holds_all t now (holds t (before t agree))) c.with_runs.ensures

pub returns-clause-live : goal.returns-clause-live
returns-clause-live c =
    let rest = c.pop.new.self.items in
    let a = c.in_ok-apart-in-Some-Host.apart in
    let t = c.requires.whole in
    let before = all_before c.args.parts.items c.requires rest c.in-Some-Host.field-0 c.in-Some-Host.host c.in-Some-Host.ensures.items c.in-Some-Host.field-0-is a c.in_ok-apart-in-Some-Host.ensures in
    IfOk-weaker c.with_runs.result (λ now. (t : Network NodeState) → AreBefore t rest a → HoldsFrom t 0 now) (λ now. AreLive now.nodes.items) (λ now holds. (holds t (before t c.requires.agree)).live) c.with_runs.ensures
