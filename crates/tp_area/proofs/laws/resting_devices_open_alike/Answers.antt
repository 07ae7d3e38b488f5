use Rattle.std.proofs.Common.{sym, ap, subst}
use Rattle.tp_area.proofs.Lower.{option_map, result_ok, t414, AreWithin, held_of, verdict, device_areas, rests_may}
use Rattle.tp_area.proofs.StoreCrashes.{keep}
use Rattle.tp_area.proofs.laws.resting_devices_open_alike.Goals as goal

pub returns-clause-synced : goal.returns-clause-synced
unfolding verdict
returns-clause-synced c s o opens synced = record {
  reads = ap (λ found. option_map held_of (result_ok found)) opens;
  loose = subst (λ ranges. AreWithin (device_areas.spare s.now.bytes) ranges) (sym synced) tt;
}

pub returns-clause-alike : goal.returns-clause-alike
returns-clause-alike c h s rests left may = rests_may t414 device_areas keep h s.now rests left may
