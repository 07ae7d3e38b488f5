use Rattle.std.proofs.Common.{arith}
use Rattle.std.proofs.lemmas.List.{get_or_read_under}
use Rattle.tp_mem.proofs.Pools.{held_same, counts_here, owners_here, held_here, counted_view, IsPool-counted}
use Rattle.tp_mem.proofs.pool.FramePool.share.Goals as goal

pub index_mut-requires : goal.index_mut-requires
index_mut-requires c =
    omega (arith, counts_here _ _ _ _ c.self.invariant _ c.self.view_is _ (held_same _ _ _ c.number-index.ensures c.requires.held), c.self.inside.owners.ok.0)

pub overflow_add-index_mut : goal.overflow_add-index_mut
overflow_add-index_mut c =
    let held = held_same _ _ _ c.number-index.ensures c.requires.held in
    let within = counts_here _ _ _ _ c.self.invariant _ c.self.view_is _ held in
    let read = get_or_read_under _ _ _ _ 0 c.index_mut.ensures.value (omega (arith, within, c.self.inside.owners.ok.0)) c.self.inside.owners.ok.0 in
    let owners = owners_here _ _ _ _ c.self.invariant _ c.self.view_is _ held in
    let few = rw (← c.number-index.ensures) at c.requires.few in
    record { fits = omega (arith, few, owners, read) }

pub invariant_of-self : goal.invariant_of-self
invariant_of-self c =
    let held = held_same _ _ _ c.number-index.ensures c.requires.held in
    IsPool-counted _ _ _ _ c.self.invariant _ _ (held_here _ _ _ _ c.self.invariant _ c.self.view_is _ held) (omega arith)

pub returns-clause-owners : goal.returns-clause-owners
returns-clause-owners c =
    let held = held_same _ _ _ c.number-index.ensures c.requires.held in
    let within = counts_here _ _ _ _ c.self.invariant _ c.self.view_is _ held in
    let read = get_or_read_under _ _ _ _ 0 c.index_mut.ensures.value (omega (arith, within, c.self.inside.owners.ok.0)) c.self.inside.owners.ok.0 in
    let owners = owners_here _ _ _ _ c.self.invariant _ c.self.view_is _ held in
    rw (← c.number-index.ensures, owners, ← read) (counted_view _ _ _ _ c.self.invariant _ c.self.view_is _ held _)
