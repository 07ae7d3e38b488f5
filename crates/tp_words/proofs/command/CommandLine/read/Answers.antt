use Rattle.std.proofs.Common.{◌≡◌, false, None, refl, inr, arith}
use Rattle.tp_words.specs.Explaining.{explaining_typed}
use Rattle.tp_words.specs.Lines.{asks_help}
use Rattle.tp_words.proofs.Asking.{helped}
use Rattle.tp_words.proofs.command.CommandLine.read.Goals as goal

pub returns-in-None-2-clause-refused : goal.returns-in-None-2-clause-refused
returns-in-None-2-clause-refused c =
    let none : explaining_typed c.args.words.now ≡ None = cc in
    let unasked : asks_help c.args.words.now ≡ false =
    cc (helped c.args.words.now c.in_ok-command.command c.in_ok-command.ensures.places) in
    inr (inr (inr (refl, none, unasked)), omega arith)

pub returns-clause-help : goal.returns-clause-help
returns-clause-help c = helped c.args.words.now c.in_ok-command.command c.in_ok-command.ensures.places
