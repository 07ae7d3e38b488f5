use Rattle.std.proofs.Common.{◌∙◌, ◌∷◌, ◌++◌, [], ℕ, List, inr, ap, rules}
use denote.Param.Send.{sendable}
use Rattle.tp_program.specs.Devices.{Opens}
use Rattle.tp_program.proofs.Used.{and_more}
use Rattle.tp_program.proofs.run_file.run_device.Goals as goal

pub run_on-disk-requires : goal.run_on-disk-requires
run_on-disk-requires g c κs within = (within.0, (within.1.0, (within.1.1.0, (within.1.1.1, (search (rules, sendable), (search (rules, sendable), (c.requires.1.1.1.1.1.1.1.1.1.1.0, g.met.S.Devices.may_step)))))))

pub returns-clause-ran : goal.returns-clause-ran
returns-clause-ran g c =
    let opens = λ (path : List ℕ). g.S.Devices.calls c.args.devices.now ++ Opens path (g.D.Disk.state c.in-Ok.disk) ∷ [] in
    inr (record {
      opened = g.D.Disk.state c.in-Ok.disk;
      closed = g.D.Disk.state c.run_on-disk.result.0;
      read = g.D.Disk.reads c.run_on-disk.result.0;
      calls = and_more _ _ _ _ _ (c.in-Ok.ensures.opened ∙ ap opens c.as_str-2.ensures.value) c.close.ensures.noted;
      between = record { ran = c.run_on-disk.ensures.ran; words = search rules; unopened = search rules };
    })
