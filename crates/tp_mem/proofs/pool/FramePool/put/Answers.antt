use Rattle.tp_mem.proofs.Pools.{single_held, held_here, region_here, written_view, IsPool-written}
use Rattle.tp_mem.proofs.pool.FramePool.put.Goals as goal

pub put-requires : goal.put-requires
put-requires c = region_here _ _ _ _ c.self.invariant _ c.self.view_is _ (single_held _ _ _ c.number.ensures c.requires.single).1

pub invariant_of-self : goal.invariant_of-self
invariant_of-self c =
    let held = (single_held _ _ _ c.number.ensures c.requires.single).1 in
    rw c.put.ensures (IsPool-written _ _ _ _ c.self.invariant _ _ (held_here _ _ _ _ c.self.invariant _ c.self.view_is _ held))

pub returns : goal.returns
returns c =
    let single = single_held _ _ _ c.number.ensures c.requires.single in
    rw (c.put.ensures, ← c.number.ensures) (written_view _ _ _ _ c.self.invariant _ c.self.view_is _ single.1 _ _ single.0)
