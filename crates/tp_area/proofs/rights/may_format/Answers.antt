use Rattle.tp_area.specs.declared.rights.Formatter.TheVariants.{By}
use Rattle.tp_area.specs.declared.rights.Secret.TheVariants.{Number}
use Rattle.tp_area.proofs.rights.may_format.Goals as goal

pub returns : goal.returns
returns g c = c.requires (record { by = By (Number 0) })
