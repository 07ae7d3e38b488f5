use Rattle.tp_law_device.proofs.FreshHeads.{head_of-head_bytes}
use Rattle.tp_law_device.proofs.heads_read_back.Goals as goal

pub returns : goal.returns
returns c = head_of-head_bytes
