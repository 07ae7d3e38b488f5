use Rattle.std.proofs.Common.{◌≡◌, ◌∷◌, [], ◌+◌, ◌-◌, ◌/◌, ◌<◌, ◌≤◌, ◌||◌, ℕ, List, length, get_or, not, false, ap, sym, ◌∙◌, arith}
use Rattle.tp_mem.proofs.Lower.{get_or_default, list_any, PAGE_BYTES, touches}
use Rattle.tp_mem.specs.Copies.{Paged}
use Rattle.tp_mem.proofs.Copies.{length-shared_of}
use Rattle.tp_mem.proofs.Paged.{with_shared}
use Rattle.tp_mem.proofs.Touches.{not_true, range_untouched, shared_from-untouched, zero_plus}
use Rattle.tp_mem.proofs.cow.CowMemory.is_own.Goals as goal

pub index-requires : goal.index-requires
index-requires c =
    let v = c.self.inside in let i = c.self.invariant in
    omega (arith, c.requires.there, ap (λ (m : Paged). length m.live) c.self.view_is, i.whole, v.shared.ok.0, ap length i.flags, length-shared_of v.is_frozen v.copies.items)

pub returns : goal.returns
returns c = λ is.
    let v = c.self.inside in let i = c.self.invariant in
    let ranges : List (ℕ × ℕ) = (c.args.at, c.args.count) ∷ (0, 0) ∷ [] in
    let within : c.args.at / PAGE_BYTES < length v.shared.items = omega (arith, c.requires.there, ap (λ (m : Paged). length m.live) c.self.view_is, i.whole, ap length i.flags, length-shared_of v.is_frozen v.copies.items) in
    let off : c.index.result.now ≡ false = not_true c.index.result.now (λ on. let no = sym is ∙ ap not on in absurd (cc)) in
    let here : get_or c.args.self.now.shared (c.args.at / PAGE_BYTES) false ≡ false =
    ap (λ (m : Paged). get_or m.shared (c.args.at / PAGE_BYTES) false) (sym c.self.view_is)
    ∙ get_or_default v.shared.items (c.args.at / PAGE_BYTES) false c.index.result.now within ∙ sym c.index.ensures ∙ off in
    with_shared c.args.self.now _ (shared_from-untouched 0 c.args.self.now.shared ranges (λ k shared.
    let none : (p : ℕ) → c.args.at / PAGE_BYTES ≤ p → p < (c.args.at + c.args.count + (PAGE_BYTES - 1)) / PAGE_BYTES → get_or c.args.self.now.shared p false ≡ false = λ p begins ends. let is : c.args.at / PAGE_BYTES ≡ p = omega (arith, begins, ends, c.requires.inside) in ap (λ q. get_or c.args.self.now.shared q false) (sym is) ∙ here in
    let first = range_untouched c.args.self.now.shared c.args.at c.args.count k none shared in
    ap (λ p. list_any (touches p) ranges) (zero_plus k) ∙ ap (λ b. b || list_any (touches k) ((0, 0) ∷ [])) first))
