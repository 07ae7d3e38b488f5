use Rattle.std.proofs.Common.{refl}
use Rattle.tp_law_machine.proofs.Lower.{step_of, node_step, took, steps, own, put, taken, pushed, sent, process, takes, of_port, receives, does, next, acts, entry_at, rows_at, rows_behind, image_head, image, node_at, is_node, node_of, ends_at, cut_bytes, nodes_in, lines_in, ports_in, is_topology, all_lead_back, head_bytes, u16s_at, head_at, head_of, front_bytes, flights_in, listing, after_rows, chosen_area, cut_in, area_in, opening, verdict}
use Rattle.tp_law_machine.proofs.examples.openings.devices_are_refused.Goals as goal

pub returns-clause-short : goal.returns-clause-short
unfolding step_of node_step took steps own put taken pushed sent process takes of_port receives does next acts entry_at rows_at rows_behind image_head image node_at is_node node_of ends_at cut_bytes nodes_in lines_in ports_in is_topology all_lead_back head_bytes u16s_at head_at head_of front_bytes flights_in listing after_rows chosen_area cut_in area_in opening verdict
returns-clause-short c = refl

pub returns-clause-version : goal.returns-clause-version
unfolding step_of node_step took steps own put taken pushed sent process takes of_port receives does next acts entry_at rows_at rows_behind image_head image node_at is_node node_of ends_at cut_bytes nodes_in lines_in ports_in is_topology all_lead_back head_bytes u16s_at head_at head_of front_bytes flights_in listing after_rows chosen_area cut_in area_in opening verdict
returns-clause-version c = refl

pub returns-clause-closed : goal.returns-clause-closed
unfolding step_of node_step took steps own put taken pushed sent process takes of_port receives does next acts entry_at rows_at rows_behind image_head image node_at is_node node_of ends_at cut_bytes nodes_in lines_in ports_in is_topology all_lead_back head_bytes u16s_at head_at head_of front_bytes flights_in listing after_rows chosen_area cut_in area_in opening verdict
returns-clause-closed c = refl

pub returns-clause-no_group : goal.returns-clause-no_group
unfolding step_of node_step took steps own put taken pushed sent process takes of_port receives does next acts entry_at rows_at rows_behind image_head image node_at is_node node_of ends_at cut_bytes nodes_in lines_in ports_in is_topology all_lead_back head_bytes u16s_at head_at head_of front_bytes flights_in listing after_rows chosen_area cut_in area_in opening verdict
returns-clause-no_group c = refl

pub returns-clause-form : goal.returns-clause-form
unfolding step_of node_step took steps own put taken pushed sent process takes of_port receives does next acts entry_at rows_at rows_behind image_head image node_at is_node node_of ends_at cut_bytes nodes_in lines_in ports_in is_topology all_lead_back head_bytes u16s_at head_at head_of front_bytes flights_in listing after_rows chosen_area cut_in area_in opening verdict
returns-clause-form c = refl
