use Rattle.std.proofs.Common.{sym, ◌∙◌}
use Rattle.tp_mem.proofs.Pools.{held_same, region_here, bytes_here}
use Rattle.tp_mem.proofs.pool.FramePool.bytes.Goals as goal

pub get-requires : goal.get-requires
get-requires c = region_here _ _ _ _ c.self.invariant _ c.self.view_is _ (held_same _ _ _ c.number.ensures c.requires.held)

pub returns-clause-bytes : goal.returns-clause-bytes
returns-clause-bytes c =
    c.sized.ensures.same ∙ c.get.ensures ∙ rw (← c.number.ensures) (sym (bytes_here _ _ _ _ c.self.invariant _ c.self.view_is _ (held_same _ _ _ c.number.ensures c.requires.held)))
