use Rattle.tp_law_device.proofs.Pieces.{there_written, there_kept}
use Rattle.tp_law_device.proofs.Places.{content_put, content_elsewhere}
use Rattle.tp_law_device.proofs.Frozen.{image_in_pieces}
use Rattle.tp_law_device.proofs.the_copy.pieces_stay.Goals as goal

pub returns-clause-written : goal.returns-clause-written
returns-clause-written c = there_written

pub returns-clause-apart : goal.returns-clause-apart
returns-clause-apart c = there_kept

pub returns-clause-inside : goal.returns-clause-inside
returns-clause-inside c = content_put

pub returns-clause-elsewhere : goal.returns-clause-elsewhere
returns-clause-elsewhere c = content_elsewhere

pub returns-clause-image : goal.returns-clause-image
returns-clause-image c = image_in_pieces
