use Rattle.std.proofs.Common.{None, inr, refl, rules}
use Rattle.tp_program.proofs.Used.{told_last}
use Rattle.tp_program.specs.Uses.HaveLooked.{None_yet, Then}
use Rattle.tp_program.proofs.files.status_file.Goals as goal

pub returns-in-Err-clause-used : goal.returns-in-Err-clause-used
returns-in-Err-clause-used g c = record {
  mid = g.S.Devices.uses c.args.devices.now;
  between = g.O.Write.contents c.args.out.now;
  before = None;
  looks = None_yet;
  ends = inr c.in-Err.ensures.refused;
}

pub looks-init : goal.looks-init
looks-init g c = record {
  uncalled = search rules;
  some = refl;
  looks = Then (g.S.Devices.uses c.args.devices.now) (g.S.Devices.uses c.look_file.new.devices) (g.O.Write.contents c.args.out.now) (g.O.Write.contents c.look_file.new.out)
      None c.in-Ok.seen None_yet c.in-Ok.ensures.told;
}

pub looks-preserved : goal.looks-preserved
looks-preserved g c = record {
  uncalled = search rules;
  some = refl;
  looks = Then (g.S.Devices.uses c.looks.devices) (g.S.Devices.uses c.look_file-in-looks.new.devices) (g.O.Write.contents c.looks.out) (g.O.Write.contents c.look_file-in-looks.new.out)
      c.looks.before c.in-Ok-look_file.seen c.looks.invariant.looks c.in-Ok-look_file.ensures.told;
}

pub returns-in_default-clause-used : goal.returns-in_default-clause-used
returns-in_default-clause-used g c = told_last _ _ _ _ _ _ _ c.looks.invariant.looks c.looks.invariant.some

pub returns-in-Err-look_file-clause-used : goal.returns-in-Err-look_file-clause-used
returns-in-Err-look_file-clause-used g c = record {
  mid = g.S.Devices.uses c.looks.devices;
  between = g.O.Write.contents c.looks.out;
  before = c.looks.before;
  looks = c.looks.invariant.looks;
  ends = inr c.in-Err-look_file.ensures.refused;
}

pub returns-clause-used : goal.returns-clause-used
returns-clause-used g c = told_last _ _ _ _ _ _ _ c.looks.invariant.looks c.looks.invariant.some
