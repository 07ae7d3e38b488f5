use Rattle.tp_mem.proofs.Pools.{single_held, held_here, region_here, bytes_here, written_view, IsPool-written}
use Rattle.tp_mem.proofs.pool.FramePool.write.Goals as goal

pub put_byte-requires-clause-index : goal.put_byte-requires-clause-index
put_byte-requires-clause-index c = region_here _ _ _ _ c.self.invariant _ c.self.view_is _ (single_held _ _ _ c.number.ensures c.requires.single).1

pub invariant_of-self : goal.invariant_of-self
invariant_of-self c =
    let held = (single_held _ _ _ c.number.ensures c.requires.single).1 in
    rw c.put_byte.ensures (IsPool-written _ _ _ _ c.self.invariant _ _ (held_here _ _ _ _ c.self.invariant _ c.self.view_is _ held))

pub returns : goal.returns
returns c =
    let single = single_held _ _ _ c.number.ensures c.requires.single in
    rw (c.put_byte.ensures, ← c.number.ensures, bytes_here _ _ _ _ c.self.invariant _ c.self.view_is _ single.1)
    (written_view _ _ _ _ c.self.invariant _ c.self.view_is _ single.1 _ _ single.0)
