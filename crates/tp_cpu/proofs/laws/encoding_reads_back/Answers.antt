use Rattle.tp_cpu.proofs.IsaSpelling.{reads_back}
use Rattle.tp_cpu.proofs.laws.encoding_reads_back.Goals as goal

pub returns : goal.returns
returns c = reads_back
