use Rattle.std.proofs.Common.{◌≡◌, ◌∷◌, get_or, false, ap, ◌∙◌, arith}
use Rattle.tp_mem.proofs.Lower.{list_any, word_ranges, touches}
use Rattle.tp_mem.specs.Copies.{Paged}
use Rattle.tp_mem.proofs.Paged.{with_shared}
use Rattle.tp_mem.proofs.Touches.{shared_from-untouched, wanted_from-untouched, zero_plus}
use Rattle.tp_mem.proofs.cow.CowMemory.separate_frozen.Goals as goal

pub returns-then-not-shares-clause-ok : goal.returns-then-not-shares-clause-ok
returns-then-not-shares-clause-ok c =
    let ranges = c.args.first ∷ c.args.block ∷ word_ranges c.args.words.now in
    let none : c.shares.result ≡ false = grind arith in
    with_shared c.args.self.now _ (shared_from-untouched 0 c.args.self.now.shared ranges (λ i shared.
    let here = ap (λ pages. get_or pages i false) c.deref.ensures.value ∙ ap (λ (m : Paged). get_or m.shared i false) c.self.view_is ∙ shared in
    ap (λ p. list_any (touches p) ranges) (zero_plus i) ∙ c.shares.ensures none i here))

pub returns-then-not-shares-clause-fits : goal.returns-then-not-shares-clause-fits
returns-then-not-shares-clause-fits c =
    let ranges = c.args.first ∷ c.args.block ∷ word_ranges c.args.words.now in
    let not_shared : c.shares.result ≡ false = grind arith in
    let none = wanted_from-untouched 0 c.args.self.now.shared ranges (λ i shared.
    let here = ap (λ pages. get_or pages i false) c.deref.ensures.value ∙ ap (λ (m : Paged). get_or m.shared i false) c.self.view_is ∙ shared in
    ap (λ p. list_any (touches p) ranges) (zero_plus i) ∙ c.shares.ensures not_shared i here) in
    omega (arith, none)
