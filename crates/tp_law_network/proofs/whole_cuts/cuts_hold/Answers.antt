use Rattle.tp_law_network.proofs.Lower.{has_four_links, never_marks, t414}
use Rattle.tp_law_network.proofs.Happens.{cut_after, whole_after, leads_after, both_after}
use Rattle.tp_law_network.proofs.whole_cuts.cuts_hold.Goals as goal

pub returns-clause-cut : goal.returns-clause-cut
returns-clause-cut c = cut_after t414 has_four_links never_marks

pub returns-clause-whole : goal.returns-clause-whole
returns-clause-whole c = whole_after t414 has_four_links never_marks

pub returns-clause-leads : goal.returns-clause-leads
returns-clause-leads c = leads_after t414 has_four_links never_marks

pub returns-clause-both : goal.returns-clause-both
returns-clause-both c = both_after t414 has_four_links never_marks
