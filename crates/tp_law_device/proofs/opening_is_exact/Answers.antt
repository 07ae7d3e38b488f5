use Rattle.tp_law_device.proofs.Stand.{stands_for_verdict, verdict_stands}
use Rattle.tp_law_device.proofs.Verdicts.{verdict_leads}
use Rattle.tp_law_device.proofs.opening_is_exact.Goals as goal

pub returns-clause-spelt : goal.returns-clause-spelt
returns-clause-spelt c = stands_for_verdict

pub returns-clause-read : goal.returns-clause-read
returns-clause-read c = verdict_stands

pub returns-clause-leads : goal.returns-clause-leads
returns-clause-leads c = verdict_leads
