use Rattle.std.proofs.Common.{◌≡◌, ◌≤◌, ◌-◌, false, ◌++◌}
use Rattle.std.specs.Prelude.{replicate}
use Rattle.tp_program.specs.Devices.{Holds}
use Rattle.tp_program.specs.Uses.{AsksAgain}
use Rattle.tp_program.proofs.asking.wait_for.Given as goal

-- The device was asked for in vain so far, once each time, and the request made again.
abbrev pub invariant-loop-times : goal.invariant-loop-times
invariant-loop-times g l = record {
  few : l.times ≤ l.seconds;
  vain : g.S.Devices.calls l.devices ≡ g.S.Devices.calls l.fn.devices ++ replicate l.times (Holds l.device 1 false);
  again : AsksAgain l.device (g.S.Devices.uses l.fn.devices) (g.S.Devices.uses l.devices);
}

abbrev pub decreases-loop-times : goal.decreases-loop-times
decreases-loop-times g l = l.seconds - l.times
