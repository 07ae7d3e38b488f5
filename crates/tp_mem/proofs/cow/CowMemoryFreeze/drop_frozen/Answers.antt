use Rattle.std.proofs.Common.{◌≡◌, false, length, replicate, sym, ap, subst, ◌∙◌, arith}
use Rattle.tp_mem.specs.Copies.{IsPaged}
use Rattle.tp_mem.proofs.Copies.{shared_of-thawed, length-shared_of, AreCopies-none}
use Rattle.tp_mem.proofs.Written.{items_again}
use Rattle.tp_mem.proofs.cow.CowMemoryFreeze.drop_frozen.Goals as goal

pub invariant_of-self : goal.invariant_of-self
invariant_of-self c =
    let v = c.self.inside in let i = c.self.invariant in
    let long : length c.let_go.new.copies ≡ length v.copies.items = omega (arith, c.let_go.auto.copies, ap length c.deref_mut.ensures.value) in
    let pages : v.shared.len ≡ length v.copies.items = v.shared.ok.0 ∙ ap length i.flags ∙ length-shared_of v.is_frozen v.copies.items in
    subst (λ copies. IsPaged v.live c.fill.new.self.items copies c.let_go.new.pool false) (sym (items_again v.copies.items c.let_go.new.copies v.copies.len (long ∙ sym v.copies.ok.0)))
    (record {
      whole = omega (arith, i.whole, long);
      few = omega (arith, i.few, long);
      flags = c.fill.ensures.items (λ y same. same) ∙ ap (λ n. replicate n false) (pages ∙ sym long) ∙ sym (shared_of-thawed c.let_go.new.copies);
      own = AreCopies-none c.let_go.new.pool c.let_go.new.copies c.let_go.ensures.gone;
      thawed = λ thawed. c.let_go.ensures.gone;
    })
