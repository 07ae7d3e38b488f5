use Rattle.std.proofs.Common.{arith}
use Rattle.tp_mem.proofs.Frames.{length-frames_of}
use Rattle.tp_mem.proofs.Pools.{first_is_free, taken_view, IsPool-taken}
use Rattle.tp_mem.proofs.pool.FramePool.take.Goals as goal

pub get-requires : goal.get-requires
get-requires c = omega (arith, (first_is_free _ _ _ _ c.self.invariant (omega arith)).0, c.self.invariant.matched)

pub index_mut-requires : goal.index_mut-requires
index_mut-requires c = omega (arith, (first_is_free _ _ _ _ c.self.invariant (omega arith)).0, c.self.inside.owners.ok.0)

pub invariant_of-self : goal.invariant_of-self
invariant_of-self c = rw (c.next-self-inside.ensures.value, c.get.ensures) (IsPool-taken _ _ _ _ c.self.invariant 1 (omega arith) (omega arith))

pub returns-clause-ok : goal.returns-clause-ok
returns-clause-ok c =
    let here = first_is_free _ _ _ _ c.self.invariant (omega arith) in
    rw (c.new.ensures, ← c.self.view_is) (
      omega (arith, here.0, length-frames_of _ _ c.self.invariant.matched),
      here.1,
      (_, c.next-self-inside.ensures.len, rw c.get.ensures (taken_view _ _ _ _ c.self.invariant 1)),
    )
