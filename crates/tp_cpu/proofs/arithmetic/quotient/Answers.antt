use Rattle.std.proofs.Common.{◌∙◌}
use Rattle.tp_cpu.proofs.Whole.{quotient_divides, quotient_kept}
use Rattle.tp_cpu.proofs.arithmetic.quotient.Goals as goal

pub nonzero_div-cast_signed : goal.nonzero_div-cast_signed
nonzero_div-cast_signed c = quotient_divides _ _ c.ranges.b.fits c.ranges.a.fits c.requires _ _ c.cast_signed.ensures c.cast_signed-2.ensures

pub returns : goal.returns
returns c =
    c.cast_unsigned.ensures
    ∙ quotient_kept _ _ c.ranges.b.fits c.ranges.a.fits c.requires _ _ c.cast_signed.ensures c.cast_signed-2.ensures
