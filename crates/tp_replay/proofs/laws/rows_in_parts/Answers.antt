use Rattle.tp_model.specs.Node.{t414}
use Rattle.tp_replay.proofs.Rows.{rows_on, rows_fail}
use Rattle.tp_replay.proofs.laws.rows_in_parts.Goals as goal

pub returns : goal.returns
returns c = record {
  on = λ r now rows more first. rows_on t414 r now rows more first;
  fault = λ r rows more fault first. rows_fail t414 r rows more fault first;
}
