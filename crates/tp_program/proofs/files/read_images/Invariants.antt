use Rattle.std.proofs.Common.{◌≡◌, ◌++◌, length, take, map}
use Rattle.tp_program.specs.Uses.{images_read}
use Rattle.tp_program.proofs.files.read_images.Given as goal

-- The images of the nodes so far were read.
abbrev pub invariant-loop-name : goal.invariant-loop-name
invariant-loop-name g l = record {
  all : length l.images.items ≡ l.name-index;
  read : g.S.Devices.uses l.devices ≡ g.S.Devices.uses l.fn.devices ++ images_read l.folder (map (λ name. name.now) (take l.name-index l.names)) (map (λ image. image.items) l.images.items);
  uncalled : g.S.Devices.calls l.devices ≡ g.S.Devices.calls l.fn.devices;
  kept : g.S.Devices.held l.devices ≡ g.S.Devices.held l.fn.devices;
}
