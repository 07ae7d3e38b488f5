use Rattle.std.proofs.Common.{inr, arith}
use Rattle.tp_net.proofs.Reading.{after_words-else}
use Rattle.tp_net.proofs.declarations.Declarations.add_words.Goals as goal

pub returns-in_default : goal.returns-in_default
returns-in_default c = inr (after_words-else c.args.self.now c.args.number c.args.words.now (λ two. omega arith) (λ three. omega arith))

pub returns-in_default-2 : goal.returns-in_default-2
returns-in_default-2 c = inr (after_words-else c.args.self.now c.args.number c.args.words.now (λ two. omega arith) (λ three. omega arith))
