use Rattle.std.proofs.Common.{arith}
use Rattle.tp_mem.proofs.Lower.{get_or_read_under, nat_tests}
use Rattle.tp_mem.proofs.Pools.{held_same, counts_here, owners_here}
use Rattle.tp_mem.proofs.pool.FramePool.is_single.Goals as goal

pub index-requires : goal.index-requires
index-requires c =
    omega (arith, counts_here _ _ _ _ c.self.invariant _ c.self.view_is _ (held_same _ _ _ c.number.ensures c.requires.held), c.self.inside.owners.ok.0)

pub returns : goal.returns
returns c =
    let held = held_same _ _ _ c.number.ensures c.requires.held in
    let within = counts_here _ _ _ _ c.self.invariant _ c.self.view_is _ held in
    let read = get_or_read_under _ _ _ _ 0 c.index.ensures (omega (arith, within, c.self.inside.owners.ok.0)) c.self.inside.owners.ok.0 in
    let owners = owners_here _ _ _ _ c.self.invariant _ c.self.view_is _ held in
    rw (← c.number.ensures, owners, ← read) (grind (arith, nat_tests))
