-- What devices hold that no call tells.
use Rattle.std.specs.Prelude.{◌+◌, List, length, get_or}
use Rattle.tp_disk.specs.History.{Medium, all_zero}
use Rattle.tp_program.specs.Devices.{DeviceCall}

-- what the device holds that is opened after these calls: that of their number, or else nothing but bytes 00
abbrev pub medium_at : List Medium → (noted used : List DeviceCall) → Medium
medium_at media noted used = get_or media (length noted + length used) all_zero
