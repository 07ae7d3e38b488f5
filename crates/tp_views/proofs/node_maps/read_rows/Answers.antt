use Rattle.tp_views.proofs.node_maps.read_rows.Goals as goal

pub returns-in-Err-clause-refused : goal.returns-in-Err-clause-refused
returns-in-Err-clause-refused c = (c.in-Err.fault, c.in-Err.ensures.err, c.refusal_of.ensures)
