use Rattle.tp_cpu.proofs.IsaSpelling.{spelling_spells}
use Rattle.tp_cpu.proofs.Shortest.{spelling-shortest}
use Rattle.tp_cpu.proofs.laws.no_spelling_is_shorter.Goals as goal

pub returns-clause-spells : goal.returns-clause-spells
returns-clause-spells c = spelling_spells

pub returns-clause-shortest : goal.returns-clause-shortest
returns-clause-shortest c = spelling-shortest
