use Rattle.tp_law_processes.proofs.Lower.{t414, has_four_links}
use Rattle.tp_law_processes.proofs.Outputs.{after_grown}
use Rattle.tp_law_processes.proofs.ports_put_out.Goals as goal

pub returns : goal.returns
returns c = after_grown t414 has_four_links
