use Rattle.std.proofs.Common.{sym, ◌∙◌, arith}
use Rattle.std.proofs.lemmas.List.{get_or_read_under}
use Rattle.tp_mem.proofs.Pools.{held_same, counts_here, region_here, owners_here, held_here, counted_view, freed_view, IsPool-counted, IsPool-freed, free-small, written_count}
use Rattle.tp_mem.proofs.pool.FramePool.give_back.Goals as goal

pub index_mut-requires : goal.index_mut-requires
index_mut-requires c =
    omega (arith, counts_here _ _ _ _ c.self.invariant _ c.self.view_is _ (held_same _ _ _ c.number-number.ensures c.requires.held), c.self.inside.owners.ok.0)

pub overflow_sub-index_mut : goal.overflow_sub-index_mut
overflow_sub-index_mut c =
    let held = held_same _ _ _ c.number-number.ensures c.requires.held in
    let within = counts_here _ _ _ _ c.self.invariant _ c.self.view_is _ held in
    let read = get_or_read_under _ _ _ _ 0 c.index_mut.ensures.value (omega (arith, within, c.self.inside.owners.ok.0)) c.self.inside.owners.ok.0 in
    omega (arith, held_here _ _ _ _ c.self.invariant _ c.self.view_is _ held, read)

pub index-requires : goal.index-requires
index-requires c =
    omega (arith, counts_here _ _ _ _ c.self.invariant _ c.self.view_is _ (held_same _ _ _ c.number-number.ensures c.requires.held), c.self.inside.owners.ok.0)

pub put-requires : goal.put-requires
put-requires c = region_here _ _ _ _ c.self.invariant _ c.self.view_is _ (held_same _ _ _ c.number-number.ensures c.requires.held)

pub overflow_add-self : goal.overflow_add-self
overflow_add-self c = record { fits = free-small _ _ _ _ c.self.invariant }

pub invariant_of-self : goal.invariant_of-self
invariant_of-self c =
    let held = held_same _ _ _ c.number-number.ensures c.requires.held in
    let within = counts_here _ _ _ _ c.self.invariant _ c.self.view_is _ held in
    let none = sym (written_count _ _ _ _ within c.index.ensures) ∙ c.if-index-eq0.true in
    rw (none, c.put.ensures) (IsPool-freed _ _ _ _ c.self.invariant _ _ (held_here _ _ _ _ c.self.invariant _ c.self.view_is _ held) c.to.ensures.value)

pub invariant_of-self-else-index-eq0 : goal.invariant_of-self-else-index-eq0
invariant_of-self-else-index-eq0 c =
    let held = held_same _ _ _ c.number-number.ensures c.requires.held in
    let within = counts_here _ _ _ _ c.self.invariant _ c.self.view_is _ held in
    IsPool-counted _ _ _ _ c.self.invariant _ _ (held_here _ _ _ _ c.self.invariant _ c.self.view_is _ held) (omega (arith, written_count _ _ _ _ within c.index.ensures))

pub returns-then-index-eq0 : goal.returns-then-index-eq0
returns-then-index-eq0 c =
    let held = held_same _ _ _ c.number-number.ensures c.requires.held in
    let within = counts_here _ _ _ _ c.self.invariant _ c.self.view_is _ held in
    let none = sym (written_count _ _ _ _ within c.index.ensures) ∙ c.if-index-eq0.true in
    let read = get_or_read_under _ _ _ _ 0 c.index_mut.ensures.value (omega (arith, within, c.self.inside.owners.ok.0)) c.self.inside.owners.ok.0 in
    let owners = owners_here _ _ _ _ c.self.invariant _ c.self.view_is _ held in
    rw (← c.number-number.ensures, owners, ← read, none, c.put.ensures) (freed_view _ _ _ _ c.self.invariant _ c.self.view_is _ held _)

pub returns-else-index-eq0 : goal.returns-else-index-eq0
returns-else-index-eq0 c =
    let held = held_same _ _ _ c.number-number.ensures c.requires.held in
    let within = counts_here _ _ _ _ c.self.invariant _ c.self.view_is _ held in
    let read = get_or_read_under _ _ _ _ 0 c.index_mut.ensures.value (omega (arith, within, c.self.inside.owners.ok.0)) c.self.inside.owners.ok.0 in
    let owners = owners_here _ _ _ _ c.self.invariant _ c.self.view_is _ held in
    rw (← c.number-number.ensures, owners, ← read) (counted_view _ _ _ _ c.self.invariant _ c.self.view_is _ held _)
