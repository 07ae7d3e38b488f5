-- Which refusals a part of a command may answer. Each other one would be untrue of it.
use Rattle.std.specs.Prelude.{ℕ, List, [], ◌++◌, codes, decimal, Option, Some, None}
use Rattle.tp_area.specs.declared.fault.FormatFault.TheVariants.{AreaFull}
use Rattle.tp_views.specs.declared.refusal.MapFile.{MapFile}
use Rattle.tp_views.specs.declared.refusal.MapFile.TheVariants.{All, Named, Node}
use Rattle.tp_views.specs.declared.refusal.Refusal.{Refusal}
use Rattle.tp_views.specs.declared.refusal.Refusal.TheVariants.{BadMap, Busy, DeviceExists, DeviceFailed, Format, InUse, Memory, NoPlace, Opening, ReadFailed, Trial}

-- what is said of the file of a map that isn't read
abbrev pub file_text : MapFile → List ℕ
file_text Named = []
file_text (Node node) = codes " " ++ (decimal node ++ codes ".map")
file_text All = codes " all.map"

-- the name by which a refusal is told; `None` for one that another crate names
abbrev pub refusal_name : Refusal → Option (List ℕ)
refusal_name ReadFailed = Some (codes "ReadFailed")
refusal_name DeviceExists = Some (codes "DeviceExists")
refusal_name DeviceFailed = Some (codes "DeviceFailed")
refusal_name InUse = Some (codes "InUse")
refusal_name Memory = Some (codes "Memory")
refusal_name Busy = Some (codes "Busy")
refusal_name NoPlace = Some (codes "NoPlace")
refusal_name (BadMap file line) = Some (codes "BadMap" ++ (file_text file ++ (codes " " ++ decimal line)))
refusal_name other = None

-- why what was made isn't printed: the output fails, or memory ran out
abbrev pub IsPrintFault : Refusal → Type 0
IsPrintFault DeviceFailed = Unit {0}
IsPrintFault Memory = Unit {0}
IsPrintFault other = ⊥

-- why nothing is shown of a device: it doesn't open, was written meanwhile, or what was made isn't printed
abbrev pub IsViewFault : Refusal → Type 0
IsViewFault (Opening unopened) = Unit {0}
IsViewFault Busy = Unit {0}
IsViewFault DeviceFailed = Unit {0}
IsViewFault Memory = Unit {0}
IsViewFault other = ⊥

-- why nothing is traced: so it is, or the node's image isn't read
abbrev pub IsTraceFault : Refusal → Type 0
IsTraceFault (Trial fault) = Unit {0}
IsTraceFault refusal = IsViewFault refusal

-- why no device can be formatted with images: an area that is too small is no reason
abbrev pub IsFormatFault : Refusal → Type 0
IsFormatFault (Format AreaFull) = ⊥
IsFormatFault (Format fault) = Unit {0}
IsFormatFault other = ⊥

-- why no areas are told: no device can be formatted with the images, or what was made isn't printed
abbrev pub IsCheckFault : Refusal → Type 0
IsCheckFault (Format fault) = Unit {0}
IsCheckFault refusal = IsPrintFault refusal

-- why maps aren't read: one has a line that is none of a map, or memory ran out
abbrev pub IsMapsFault : Refusal → Type 0
IsMapsFault (BadMap file line) = Unit {0}
IsMapsFault Memory = Unit {0}
IsMapsFault other = ⊥
