use Rattle.std.proofs.Common.{◌≡◌, ◌+◌, ◌*◌, refl, sym, ap, subst, ◌∙◌, length}
use Rattle.tp_replay.specs.declared.pieces.apart.Apart.{Apart}
use Rattle.tp_replay.specs.Copies.{Copies}
use Rattle.tp_replay.specs.Joining.{HoldsFrom, Precedes}
use Rattle.tp_replay.proofs.Rejoined.{run_holds}
use Rattle.tp_replay.proofs.pieces.joins.with_run.Goals as goal

pub returns : goal.returns
returns c = λ t precedes.
    let n = c.run.inside in
    let a = c.args.apart in
    let to = c.copy_lines.new.to in
    let now : Apart = record { wires = a.wires; nodes = c.append.new.self; lines = to; ports = a.ports } in
    let same : c.lanes.inside.lines ≡ n.lanes.lines = ap (λ l. l.lines) c.lanes.view_is in
    let many : c.len.result ≡ length n.nodes.items = c.len.ensures ∙ n.nodes.ok.0 in
    subst (λ first. HoldsFrom t first now) (ap (λ held. held.first) c.run.view_is)
    (run_holds t n a now (subst (λ held. Precedes t held a) (sym c.run.view_is) precedes) c.run.invariant.live refl refl c.in_ok-append.ensures.items
    (subst (λ ls. Copies (4 * n.before) (4 * (n.before + length n.nodes.items)) ls a.lines to) same
    (subst (λ k. Copies (4 * n.before) (4 * (n.before + k)) c.lanes.inside.lines a.lines to) many c.copy_lines.ensures)))
