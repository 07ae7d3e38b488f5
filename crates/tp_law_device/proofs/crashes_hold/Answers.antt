use Rattle.tp_law_device.proofs.Lower.{has_four_links, never_marks, t414, t414_ends, device_areas, run_recovers, goes_on, stays}
use Rattle.tp_law_device.proofs.Holds.{areas_keep}
use Rattle.tp_law_device.proofs.Verdicts.{crash_opens}
use Rattle.tp_law_device.proofs.crashes_hold.Goals as goal

pub returns-clause-recovers : goal.returns-clause-recovers
returns-clause-recovers c = run_recovers t414 has_four_links never_marks device_areas (areas_keep t414 t414_ends)

pub returns-clause-stays : goal.returns-clause-stays
returns-clause-stays c = stays t414 has_four_links never_marks device_areas (areas_keep t414 t414_ends)

pub returns-clause-goes_on : goal.returns-clause-goes_on
returns-clause-goes_on c = goes_on t414 device_areas

pub returns-clause-opens : goal.returns-clause-opens
returns-clause-opens c = crash_opens
