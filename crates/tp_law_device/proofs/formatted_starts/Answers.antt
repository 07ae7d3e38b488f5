use Rattle.tp_law_device.proofs.Lower.{has_four_links, never_marks, t414, t414_ends, device_areas, run_recovers}
use Rattle.tp_law_device.specs.FormattedWorld.{formatted_world}
use Rattle.tp_law_device.proofs.Formatted.{formatted_form, formatted_stands, formatted_starts}
use Rattle.tp_law_device.proofs.Holds.{areas_keep}
use Rattle.tp_law_device.proofs.formatted_starts.Goals as goal

pub returns-clause-stands : goal.returns-clause-stands
returns-clause-stands c = formatted_stands

pub returns-clause-form : goal.returns-clause-form
returns-clause-form c = formatted_form

pub returns-clause-starts : goal.returns-clause-starts
returns-clause-starts c = formatted_starts t414

pub returns-clause-recovers : goal.returns-clause-recovers
returns-clause-recovers c = λ t areas form images start bytes W events last.
    run_recovers t414 has_four_links never_marks device_areas (areas_keep t414 t414_ends) start events (formatted_world start bytes) last (formatted_starts t414 t areas form images start bytes W)
