use Rattle.std.proofs.Common.{false, [], None}
use Rattle.tp_model.specs.Image.{node_at}
use Rattle.tp_shared.proofs.parts.ends_of.Given as goal

abbrev pub ghost-pair : goal.ghost-pair
ghost-pair a = record { state = record { node = node_at []; frozen = None; reserved = false; takes = None } }
