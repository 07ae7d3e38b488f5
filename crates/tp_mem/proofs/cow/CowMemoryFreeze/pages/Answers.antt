use Rattle.std.proofs.Common.{◌≡◌, ◌*◌, ℕ, List, length, ap, subst, ◌∙◌, arith}
use Rattle.std.specs.Prelude.{IfSome}
use Rattle.tp_model.specs.declared.limits.TheConstants.{PAGE_BYTES}
use Rattle.tp_mem.specs.Copies.{Paged, frozen_of}
use Rattle.tp_mem.proofs.Copies.{length-shared_of}
use Rattle.tp_mem.proofs.Written.{length-frozen_of, IfSome-map}
use Rattle.tp_mem.proofs.cow.CowMemoryFreeze.pages.Goals as goal

pub returns-clause-value : goal.returns-clause-value
returns-clause-value c =
    let v = c.self.inside in let i = c.self.invariant in
    omega (arith, c.len.ensures, v.shared.ok.0, ap length i.flags, length-shared_of v.is_frozen v.copies.items, i.whole, ap (λ (m : Paged). length m.live) c.self.view_is)

pub returns-clause-bounded : goal.returns-clause-bounded
returns-clause-bounded c =
    let v = c.self.inside in let i = c.self.invariant in
    omega (arith, c.len.ensures, v.shared.ok.0, ap length i.flags, length-shared_of v.is_frozen v.copies.items, i.few)

pub returns-clause-frozen : goal.returns-clause-frozen
returns-clause-frozen c =
    let v = c.self.inside in let i = c.self.invariant in
    let pages : length v.copies.items ≡ c.len.result = omega (arith, c.len.ensures, v.shared.ok.0, ap length i.flags, length-shared_of v.is_frozen v.copies.items) in
    subst (λ (m : Paged). IfSome m.frozen (λ kept. length kept ≡ PAGE_BYTES * c.len.result)) c.self.view_is
    (IfSome-map {A = List ℕ} (frozen_of v.is_frozen v.live v.copies.items v.pool) (λ kept. length kept ≡ PAGE_BYTES * length v.copies.items) (λ kept. length kept ≡ PAGE_BYTES * c.len.result) (λ kept long. long ∙ ap (λ n. PAGE_BYTES * n) pages) (length-frozen_of v.live v.shared.items v.copies.items v.pool v.is_frozen i))
