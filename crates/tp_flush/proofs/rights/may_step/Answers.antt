use Rattle.tp_flush.specs.declared.rights.Secret.TheVariants.{Number}
use Rattle.tp_flush.specs.declared.rights.Stepper.TheVariants.{By}
use Rattle.tp_flush.proofs.rights.may_step.Goals as goal

pub returns : goal.returns
returns g c = c.requires (record { by = By (Number 0) })
