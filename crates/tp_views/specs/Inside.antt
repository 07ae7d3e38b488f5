-- Whether processes of a device wait for other nodes.
use Rattle.std.specs.Prelude.{◌≡◌, ℕ, Bool, List, [], Ok}
use Rattle.tp_model.specs.Opening.{Opened, verdict}
use Rattle.tp_views.specs.Scene.{Seen, scene_of}
use Rattle.tp_views.specs.Waiting.{waits_inside}

abbrev pub scene_waits : Seen → Bool
scene_waits s = waits_inside s 0 s.nodes

-- a process of an opened device does
abbrev pub waits_within : Opened → Bool
waits_within o = scene_waits (scene_of o.head.topology.wires o.now [])

-- The device opens, and a process of it does, or none.
abbrev pub HasInside : List ℕ → Bool → Type 0
HasInside bytes inside = (opened : Opened) × (verdict bytes ≡ Ok opened) × (inside ≡ waits_within opened)
