use Rattle.std.proofs.Common.{ap, None, false, replicate}
use Rattle.tp_mem.proofs.Paged.{paged, IsPaged-fresh, spare_in-fresh}
use Rattle.tp_mem.proofs.cow.CowMemory.of_bytes.Goals as goal

pub invariant_of-result : goal.invariant_of-result
invariant_of-result c =
    let shared = c.in_ok-shared.ensures.items_if_clones_equal (λ y same. same) in
    rw (shared, c.in_ok-copies.ensures, c.new-2.ensures) (IsPaged-fresh _ _ _ c.requires.whole c.requires.few)

pub returns : goal.returns
returns c =
    let shared = c.in_ok-shared.ensures.items_if_clones_equal (λ y same. same) in
    rw (shared, c.in_ok-copies.ensures, c.in_ok-pool.ensures, c.new-2.ensures) (ap (λ n. paged c.args.live.items None (replicate c.args.pages false) n) (spare_in-fresh c.args.pages c.args.spare))
