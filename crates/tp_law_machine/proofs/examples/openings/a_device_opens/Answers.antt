use Rattle.std.proofs.Common.{refl}
use Rattle.tp_law_machine.proofs.Lower.{step_of, node_step, took, steps, own, put, taken, pushed, sent, process, takes, of_port, receives, does, next, acts, entry_at, rows_at, rows_behind, image_head, image, node_at, is_node, node_of, ends_at, cut_bytes, nodes_in, lines_in, ports_in, is_topology, all_lead_back, head_bytes, u16s_at, head_at, head_of, front_bytes, flights_in, listing, after_rows, chosen_area, cut_in, area_in, opening, verdict}
use Rattle.tp_law_machine.proofs.examples.openings.a_device_opens.Goals as goal

pub returns : goal.returns
unfolding step_of node_step took steps own put taken pushed sent process takes of_port receives does next acts entry_at rows_at rows_behind image_head image node_at is_node node_of ends_at cut_bytes nodes_in lines_in ports_in is_topology all_lead_back head_bytes u16s_at head_at head_of front_bytes flights_in listing after_rows chosen_area cut_in area_in opening verdict
returns c = refl
