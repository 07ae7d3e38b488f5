use Rattle.tp_area.proofs.Roomy.{group_fits_room, tail_fits_room}
use Rattle.tp_area.proofs.laws.entries_with_room_fit.Goals as goal

pub returns : goal.returns
returns c = record { appended = group_fits_room; put = tail_fits_room }
