use Rattle.tp_area.proofs.Lower.{t414, t414_ends, verdict}
use Rattle.tp_area.proofs.OpenedPlace.{opening_place}
use Rattle.tp_area.proofs.laws.open_devices_say_their_place.Goals as goal

pub returns : goal.returns
unfolding verdict
returns c = opening_place t414 t414_ends
