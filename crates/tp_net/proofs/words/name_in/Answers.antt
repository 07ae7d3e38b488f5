use Rattle.std.proofs.Common.{sym, ◌∙◌}
use Rattle.tp_net.proofs.Names.{IsUtf8-name}
use Rattle.tp_net.proofs.words.name_in.Goals as goal

pub returns-in-Err : goal.returns-in-Err
returns-in-Err c = absurd (c.in-Err.ensures.cases.0 (IsUtf8-name c.args.word.now (sym c.is_name.ensures ∙ c.if-not-is_name.false)))
