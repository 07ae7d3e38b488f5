use Rattle.std.proofs.Common.{length, ap, arith}
use Rattle.tp_mem.specs.Copies.{Paged}
use Rattle.tp_mem.proofs.Paged.{few_flags}
use Rattle.tp_mem.proofs.cow.CowMemory.part_touched.Goals as goal

pub is_touched-requires-clause-page : goal.is_touched-requires-clause-page
is_touched-requires-clause-page c =
    let v = c.self.inside in
    omega (arith, few_flags v.live v.shared.items v.copies.items v.pool v.is_frozen c.self.invariant, ap (λ (m : Paged). length m.shared) c.self.view_is)
