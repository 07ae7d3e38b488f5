use Rattle.tp_law_device.proofs.Receipts.{receipts_held}
use Rattle.tp_law_device.proofs.receipts_cover_entries.Goals as goal

pub returns : goal.returns
returns c = receipts_held
