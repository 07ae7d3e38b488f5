use Rattle.std.proofs.Common.{[], length, subst, ap, ◌∙◌}
use Rattle.std.proofs.lemmas.List.{length-replicate}
use Rattle.tp_replay.specs.Copies.{Copies}
use Rattle.tp_replay.proofs.Copying.{all_copied}
use Rattle.tp_replay.proofs.pieces.copies.copy_of.Goals as goal

pub returns : goal.returns
returns c =
    let long = ap length c.in_ok-copy.ensures ∙ length-replicate c.count.result [] ∙ c.count.ensures in
    all_copied c.args.lines.now c.in_ok-copy.copy c.copy_lines.new.to long
    (subst (λ past. Copies 0 past c.args.lines.now c.in_ok-copy.copy c.copy_lines.new.to) c.count-2.ensures c.copy_lines.ensures)
