use Rattle.std.proofs.Common.{[], ◌∷◌, ◌++◌, set, sym, ap, ◌∙◌}
use Rattle.tp_model.specs.Network.{on_line}
use Rattle.tp_replay.proofs.Copying.{line_more}
use Rattle.tp_replay.proofs.pieces.copies.copy_line.Goals as goal

pub loop-at-preserved : goal.loop-at-preserved
loop-at-preserved c =
    let line = c.args.line in
    let token = c.in-Some.token in
    c.push.ensures ∙ ap (λ ls. set ls line (on_line ls line ++ token ∷ [])) c.loop-at.invariant
    ∙ line_more c.args.to.now line c.loop-at.at (on_line c.args.from.now line) token c.requires.room (sym c.get.ensures ∙ c.in-Some.is)
