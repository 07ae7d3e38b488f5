-- The device with a turn in its journal, computed.
use Rattle.std.proofs.Common.{◌+◌, false, length, refl}
use Rattle.tp_law_device.proofs.Lower.{Turns, Narrow, AREA_HEAD_BYTES, step_of, node_step, took, steps, own, put, taken, pushed, sent, process, takes, of_port, receives, does, next, acts, took_all, turned, entry_at, group_length, rows_at, rows_behind, image_head, image, node_at, is_node, node_of, ends_at, cut_bytes, nodes_in, lines_in, ports_in, is_topology, all_lead_back, cut_length, area_start, head_bytes, u16s_at, head_at, head_of, front_bytes, flights_in, listing, after_rows, chosen_area, cut_in, area_in, opening, verdict, numbered, one_node, one_before, one_after}
use Rattle.tp_law_device.specs.OneCheckpoint.{one_areas}
use Rattle.tp_law_device.specs.OneTurn.{OneTurn, turning}

pub one_turn : OneTurn
unfolding step_of node_step took steps own put taken pushed sent process takes of_port receives does next acts took_all turned entry_at rows_at rows_behind image_head image node_at is_node node_of ends_at cut_bytes nodes_in lines_in ports_in is_topology all_lead_back head_bytes u16s_at head_at head_of front_bytes flights_in listing after_rows chosen_area cut_in area_in opening verdict
one_turn = record {
  opened = record {
    head = record { version = Narrow; topology = one_node; areas = one_areas };
    second = false;
    generation = 1;
    form = Turns;
    base = 0;
    cut = one_before;
    kept = numbered 0 turning;
    now = one_after;
    end = area_start one_areas false + AREA_HEAD_BYTES + cut_length one_node + group_length (length turning);
  };
  opens = refl;
  of_form = refl;
  kept = refl;
  now = refl;
  plain = refl;
}
