use Rattle.std.proofs.Common.{◌∙◌, ap, refl, sym}
use Rattle.std.specs.Option.{option_map}
use Rattle.tp_views.specs.Maps.{row_seen}
use Rattle.tp_views.proofs.Mapped.{row_cut, row_none}
use Rattle.tp_views.proofs.maps.row_in.Goals as goal

pub returns-in_err-at : goal.returns-in_err-at
returns-in_err-at c =
    ap (option_map row_seen) c.from_residual.ensures ∙ row_none c.args.line.now c.if-line-ne32.false (sym c.place_of.ensures.value ∙ c.in_err-at.was)

pub returns : goal.returns
returns c = c.row_of.ensures ∙ row_cut c.args.line.now _ c.in_ok-at.at c.if-line-ne32.false refl (sym c.place_of.ensures.value ∙ c.in_ok-at.was)
