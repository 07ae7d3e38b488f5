use Rattle.tp_cpu.proofs.Whole.{product_fits, product_kept}
use Rattle.tp_cpu.proofs.arithmetic.product.Goals as goal

pub overflow_mul-result : goal.overflow_mul-result
overflow_mul-result c = product_fits _ _ c.ranges.b.fits c.ranges.a.fits _ _ c.wide.ensures c.wide-2.ensures

pub returns : goal.returns
returns c = product_kept _ _ c.ranges.b.fits c.ranges.a.fits _ _ c.wide.ensures c.wide-2.ensures
