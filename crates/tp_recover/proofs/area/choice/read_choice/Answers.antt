use Rattle.std.proofs.Common.{◌∙◌, sym}
use Rattle.tp_recover.proofs.Areas.{chosen_area-read}
use Rattle.tp_recover.proofs.Leaving.{then_leaves}
use Rattle.tp_recover.proofs.area.choice.read_choice.Goals as goal

pub returns-in-Ok-clause-is : goal.returns-in-Ok-clause-is
returns-in-Ok-clause-is g c k =
    chosen_area-read c.args.areas c.area_start.result c.area_start-start.result _ _ c.in_ok-first.first c.in_ok-second.second c.requires.some
    c.area_start.ensures (c.in_ok-first.ensures.is (c.read_area_front-2.ensures.premise k)) c.in_ok-first.ensures.kept c.area_start-start.ensures (c.in_ok-second.ensures.is k)
    ∙ sym c.choose.ensures ∙ c.in-Ok.is

pub returns-in-Err-clause-is : goal.returns-in-Err-clause-is
returns-in-Err-clause-is g c k =
    chosen_area-read c.args.areas c.area_start.result c.area_start-start.result _ _ c.in_ok-first.first c.in_ok-second.second c.requires.some
    c.area_start.ensures (c.in_ok-first.ensures.is (c.read_area_front-2.ensures.premise k)) c.in_ok-first.ensures.kept c.area_start-start.ensures (c.in_ok-second.ensures.is k)
    ∙ sym c.choose.ensures ∙ c.in-Err.is

pub returns-in_err-second-clause-leaves : goal.returns-in_err-second-clause-leaves
returns-in_err-second-clause-leaves g c = then_leaves _ _ _ c.read_area_front.ensures.leaves c.read_area_front-2.ensures.leaves

pub returns-in-Ok-clause-leaves : goal.returns-in-Ok-clause-leaves
returns-in-Ok-clause-leaves g c = then_leaves _ _ _ c.read_area_front.ensures.leaves c.read_area_front-2.ensures.leaves

pub returns-in-Err-clause-leaves : goal.returns-in-Err-clause-leaves
returns-in-Err-clause-leaves g c = then_leaves _ _ _ c.read_area_front.ensures.leaves c.read_area_front-2.ensures.leaves
