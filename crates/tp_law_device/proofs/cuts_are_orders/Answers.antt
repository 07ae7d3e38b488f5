use Rattle.tp_law_device.proofs.Lower.{has_four_links, never_marks, t414, t414_ends, device_areas}
use Rattle.tp_law_network.proofs.History as History
use Rattle.tp_law_device.proofs.Holds.{areas_keep}
use Rattle.tp_law_device.proofs.cuts_are_orders.Goals as goal

pub returns-clause-kept : goal.returns-clause-kept
returns-clause-kept c = History.kept_order t414 has_four_links never_marks device_areas (areas_keep t414 t414_ends)

pub returns-clause-cut : goal.returns-clause-cut
returns-clause-cut c = History.whole_order t414 has_four_links never_marks device_areas (areas_keep t414 t414_ends)

pub returns-clause-whole : goal.returns-clause-whole
returns-clause-whole c = History.whole_now t414 has_four_links never_marks device_areas (areas_keep t414 t414_ends)
