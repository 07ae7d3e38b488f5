use Rattle.tp_replay.proofs.Counted.{counted_next}
use Rattle.tp_replay.proofs.Flat.{flat_next, markers_next}
use Rattle.tp_replay.proofs.Fronts.{front_taken}
use Rattle.tp_replay.proofs.laws.entries_keep_flat.Goals as goal

pub returns : goal.returns
returns c = record {
  kept = λ s t e F low h. flat_next s e t F low h;
  marks = λ s t e F h line. markers_next s e t F h line;
  fronts = λ s F line i k node token to at plain front. front_taken s F line i k node to at token plain front;
  counted = λ n s t e all h. counted_next n s e t all h;
}
