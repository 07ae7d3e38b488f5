use Rattle.tp_law_device.proofs.Lower.{has_four_links, never_marks, t414, t414_ends, device_areas}
use Rattle.tp_law_network.proofs.History as History
use Rattle.tp_law_device.proofs.Along.{live_sound, few_tokens, both_orders, ports_counted}
use Rattle.tp_law_device.proofs.Holds.{areas_keep}
use Rattle.tp_law_device.proofs.histories_hold.Goals as goal

pub returns-clause-journal : goal.returns-clause-journal
returns-clause-journal c = History.journal_leads t414 has_four_links never_marks device_areas (areas_keep t414 t414_ends)

pub returns-clause-kept : goal.returns-clause-kept
returns-clause-kept c = History.kept_leads t414 has_four_links never_marks device_areas (areas_keep t414 t414_ends)

pub returns-clause-markers : goal.returns-clause-markers
returns-clause-markers c = History.one_marker t414 has_four_links never_marks device_areas (areas_keep t414 t414_ends)

pub returns-clause-sound : goal.returns-clause-sound
returns-clause-sound c = live_sound

pub returns-clause-room : goal.returns-clause-room
returns-clause-room c = few_tokens

pub returns-clause-both : goal.returns-clause-both
returns-clause-both c = both_orders

pub returns-clause-ports : goal.returns-clause-ports
returns-clause-ports c = ports_counted
