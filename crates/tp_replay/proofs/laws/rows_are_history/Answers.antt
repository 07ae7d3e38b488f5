use Rattle.tp_model.specs.Node.{t414}
use Rattle.tp_replay.proofs.History.{history_of}
use Rattle.tp_replay.proofs.laws.rows_are_history.Goals as goal

pub returns : goal.returns
returns c = λ form start base rows last e. history_of t414 form start base last rows e
