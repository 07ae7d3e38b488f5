use Rattle.tp_area.specs.declared.rights.Copier.TheVariants.{By}
use Rattle.tp_area.specs.declared.rights.Secret.TheVariants.{Number}
use Rattle.tp_area.proofs.rights.may_copy.Goals as goal

pub returns : goal.returns
returns g c = c.requires (record { by = By (Number 0) })
