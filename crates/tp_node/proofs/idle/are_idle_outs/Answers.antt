use Rattle.std.proofs.Common.{◌≡◌, ◌+◌, ◌-◌, ◌*◌, true, false, drop, refl, sym, ap, ◌∙◌, arith, rules}
use Rattle.std.specs.Prelude.{◌&&◌}
use Rattle.tp_node.proofs.Lower.{list_all, out_end_at, ends_at, is_idle_out}
use Rattle.tp_node.proofs.IdleLinks.{link_step, links_done}
use Rattle.tp_node.proofs.idle.are_idle_outs.Goals as goal

pub loop-link-init : goal.loop-link-init
loop-link-init c = refl

pub returns-then-not-is_idle_out : goal.returns-then-not-is_idle_out
returns-then-not-is_idle_out c =
    let no : is_idle_out (out_end_at (drop (44 + 16 * c.loop-link.link) c.args.image.now)) ≡ false = search rules in
    sym (sym c.loop-link.invariant ∙ link_step is_idle_out out_end_at 44 c.loop-link.link c.args.image.now (omega arith)
    ∙ ap (λ b. b && list_all is_idle_out (ends_at out_end_at (4 - (c.loop-link.link + 1)) (drop (44 + 16 * (c.loop-link.link + 1)) c.args.image.now))) no)

pub loop-link-preserved : goal.loop-link-preserved
loop-link-preserved c =
    let yes : is_idle_out (out_end_at (drop (44 + 16 * c.loop-link.link) c.args.image.now)) ≡ true = search rules in
    sym (sym c.loop-link.invariant ∙ link_step is_idle_out out_end_at 44 c.loop-link.link c.args.image.now (omega arith)
    ∙ ap (λ b. b && list_all is_idle_out (ends_at out_end_at (4 - (c.loop-link.link + 1)) (drop (44 + 16 * (c.loop-link.link + 1)) c.args.image.now))) yes)

pub returns : goal.returns
returns c = sym (sym c.loop-link.invariant ∙ links_done is_idle_out out_end_at (4 - c.loop-link.link) (44 + 16 * c.loop-link.link) c.args.image.now (omega arith))
