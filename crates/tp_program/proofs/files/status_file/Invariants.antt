use Rattle.std.proofs.Common.{◌≡◌}
use Rattle.std.specs.Prelude.{IsSome}
use Rattle.tp_program.specs.Uses.{HaveLooked}
use Rattle.tp_program.proofs.files.status_file.Given as goal

-- Checks were told so far, and the last one saw `before`.
abbrev pub invariant-looks : goal.invariant-looks
invariant-looks g l = record {
  uncalled : g.S.Devices.calls l.devices ≡ g.S.Devices.calls l.fn.devices;
  some : IsSome l.before;
  looks : HaveLooked l.json l.device (g.S.Devices.uses l.fn.devices) (g.O.Write.contents l.fn.out) (g.S.Devices.uses l.devices) (g.O.Write.contents l.out) l.before;
}
