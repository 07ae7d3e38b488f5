use Rattle.tp_views.proofs.Fit.{fit_full, fit_done}
use Rattle.tp_views.proofs.checking.check_images.Goals as goal

pub returns-in-Err-AreaFull-clause-fit : goal.returns-in-Err-AreaFull-clause-fit
returns-in-Err-AreaFull-clause-fit c = fit_full _ _ _ c.in-Err-AreaFull.field-0-is c.in-Err-AreaFull.ensures.answer

pub returns-clause-fit : goal.returns-clause-fit
returns-clause-fit c = fit_done _ _ _ c.in-Ok.ensures.answer
