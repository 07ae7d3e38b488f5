-- The device of the computed checkpoint, as it is formatted and with a group of two entries.
use Rattle.std.proofs.Common.{◌≡◌, ℕ, ◌+◌, ◌-◌, true, false, List, [], ◌∷◌, length, refl, arith, Some, Ok}
use Rattle.std.specs.Prelude.{nat_lt}
use Rattle.tp_law_device.proofs.Lower.{list_all, and_parts, ltb-true, Turns, Narrow, AREA_HEAD_BYTES, step_of, node_step, took, t414, t414_ends, steps, own, put, taken, pushed, sent, process, takes, of_port, receives, does, next, acts, entry_at, rows_of, group_length, group_body, rows_at, rows_behind, image_head, image, node_at, is_node, node_of, ends_at, cut_bytes, nodes_in, lines_in, ports_in, is_topology, all_lead_back, cut_length, area_start, head_bytes, u16s_at, head_at, head_of, front_bytes, flights_in, fresh_nodes, listing, after_rows, gate_open, written, zeros, Opened, chosen_area, cut_in, area_in, opening, numbered, group_of, one_node, one_before, sending_node, AreBytes}
use Rattle.tp_law_device.specs.FormattedWorld.{WasFormatted}
use Rattle.tp_law_device.specs.OneCheckpoint.{one_areas, first_content, one_device, inside, checkpoint_network}

pub one_formatted : WasFormatted one_node one_areas Turns (image sending_node ∷ []) one_before one_device
unfolding image_head image node_at is_node node_of ends_at cut_bytes is_topology all_lead_back head_bytes front_bytes fresh_nodes
one_formatted = record {
  topology = refl;
  room = refl;
  area_fits = omega arith;
  network = refl;
  format = record { first = refl; head = refl; open_gate = refl; closed_gate = refl; rest = zeros (one_areas.length - 2 - length first_content); content = refl };
}

-- ## Its bytes

bytes_from : (bytes : List ℕ) → list_all (λ byte. nat_lt byte 256) bytes ≡ true → AreBytes bytes
bytes_from [] h = tt
bytes_from (byte ∷ bytes) h =
    let both = and_parts (nat_lt byte 256) (list_all (λ byte. nat_lt byte 256) bytes) h in
    (ltb-true byte 256 both.0, bytes_from bytes both.1)

pub one_bytes : AreBytes one_device
unfolding image_head image cut_bytes head_bytes front_bytes
one_bytes = bytes_from one_device refl

-- ## With the group

-- where its gate is, what follows that, and the device with it
abbrev pub one_gate : ℕ
one_gate = area_start one_areas false + AREA_HEAD_BYTES + cut_length one_node

abbrev pub one_body : List ℕ
one_body = group_body (rows_of (numbered 0 inside))

abbrev pub grouped_device : List ℕ
grouped_device = written (written one_device (one_gate + 1) one_body) one_gate gate_open

pub one_group : group_of (opening t414 t414_ends one_device) inside ≡ Some (one_gate, one_body)
unfolding step_of node_step took steps own put taken pushed sent process takes of_port receives does next acts entry_at rows_at rows_behind image_head image node_at is_node node_of ends_at cut_bytes nodes_in lines_in ports_in is_topology all_lead_back head_bytes u16s_at head_at head_of front_bytes flights_in listing after_rows chosen_area cut_in area_in opening group_of
one_group = refl

pub grouped_bytes : AreBytes grouped_device
unfolding image_head image cut_bytes head_bytes front_bytes group_body
grouped_bytes = bytes_from grouped_device refl

-- what it opens as
abbrev pub grouped : Opened
grouped = record {
  head = record { version = Narrow; topology = one_node; areas = one_areas };
  second = false;
  generation = 1;
  form = Turns;
  base = 0;
  cut = one_before;
  kept = numbered 0 inside;
  now = checkpoint_network;
  end = one_gate + group_length (length inside);
}

pub grouped_opens : opening t414 t414_ends grouped_device ≡ Ok grouped
unfolding step_of node_step took steps own put taken pushed sent process takes of_port receives does next acts entry_at rows_at rows_behind image_head image node_at is_node node_of ends_at cut_bytes nodes_in lines_in ports_in is_topology all_lead_back head_bytes u16s_at head_at head_of front_bytes flights_in listing after_rows chosen_area cut_in area_in opening group_body
grouped_opens = refl
