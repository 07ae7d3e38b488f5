-- Devices with areas of 16,384 bytes, for the network of one node.
use Rattle.std.specs.Prelude.{ℕ, false, List, [], ◌∷◌, ◌++◌}
use Rattle.tp_law_machine.specs.Lower.{TwoAreas, Form, Turns, HeadVersion, Narrow, GATE_OPEN, padded, rows_of, group_bytes, areas_end, head_bytes, areas_of_length, front_bytes, Opened, numbered}
use Rattle.tp_law_machine.specs.OneNode.{one_node, one_before, one_byte, one_after}

-- the areas after a head of this version
abbrev pub areas_behind : HeadVersion → TwoAreas
areas_behind version = areas_of_length version 16384

-- area 0 is open and of this form, with the cut of the network before its first entry, followed by the given bytes
abbrev pub device_of : HeadVersion → Form → List ℕ → List ℕ
device_of version form behind =
    padded (areas_end (areas_behind version)) (head_bytes version one_node (areas_behind version) ++ (GATE_OPEN ∷ (front_bytes one_node 1 form 0 one_before ++ behind)))

-- with a narrow head, and with turns
abbrev pub device_with : List ℕ → List ℕ
device_with behind = device_of Narrow Turns behind

-- as it was formatted, and with one group of four entries
abbrev pub fresh_device : List ℕ
fresh_device = device_with []

abbrev pub four_entries : List ℕ
four_entries = group_bytes (rows_of (numbered 0 one_byte))

abbrev pub later_device : List ℕ
later_device = device_with four_entries

-- what it opens to then, with a head of this version and an area of this form
abbrev pub opened_as : HeadVersion → Form → ℕ → Opened
opened_as version form end = record {
  head = record { version = version; topology = one_node; areas = areas_behind version };
  second = false;
  generation = 1;
  form = form;
  base = 0;
  cut = one_before;
  kept = numbered 0 one_byte;
  now = one_after;
  end = end;
}
