-- Where runs begin: a device that was formatted, and opened.
use Rattle.std.specs.Prelude.{◌≡◌, ◌<◌, ℕ, ◌^◌, true, List, [], length, Some}
use Rattle.tp_law_device.specs.Lower.{TwoAreas, Form, NodeState, Network, Resting, Topology, is_topology, fits_device, start_of, IsFormatted, World, fresh}

-- no entry yet, and the device is synced
abbrev pub formatted_world : Network NodeState → List ℕ → World NodeState
formatted_world start bytes = record {
  net = fresh start;
  base = 0;
  journal = [];
  disk = record { bytes = bytes; unsynced = [] };
  at = Resting;
  backlog = [];
  stored = 0;
  mark = 0;
  seen = [];
}

-- The bytes are a device that was formatted with the images, for a topology, in areas of a length for which there is room and a field. Its
-- open area is of this form.
pub record WasFormatted (t : Topology) (areas : TwoAreas) (form : Form) (images : List (List ℕ)) (start : Network NodeState) (bytes : List ℕ) : Type 0 where
  pub topology : is_topology t ≡ true
  pub room : fits_device (length bytes) t areas ≡ true
  pub area_fits : areas.length < 2 ^ 64
  pub network : start_of t images ≡ Some start
  pub format : IsFormatted t areas form start bytes
