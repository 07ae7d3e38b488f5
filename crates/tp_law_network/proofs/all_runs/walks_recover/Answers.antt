use Rattle.tp_law_network.proofs.Lower.{has_four_links, never_marks, t414}
use Rattle.tp_law_network.proofs.Walks as Walks
use Rattle.tp_law_network.proofs.all_runs.walks_recover.Goals as goal

pub returns-clause-joined : goal.returns-clause-joined
returns-clause-joined c = Walks.walks_then t414

pub returns-clause-leave : goal.returns-clause-leave
returns-clause-leave c = λ areas law start before first w v old new formatted run.
    Walks.walks_recover t414 areas has_four_links never_marks law start before first w formatted run v old new
