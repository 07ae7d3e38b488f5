use Rattle.std.proofs.Common.{◌≡◌, ◌/◌, ◌∷◌, ℕ, Bool, List, length, get_or, not, false, ap, sym, subst, ◌∙◌, arith}
use Rattle.tp_mem.proofs.Lower.{list_any, PAGE_BYTES, touches, word_offset, word_ranges}
use Rattle.tp_mem.specs.Copies.{Paged}
use Rattle.tp_mem.proofs.Copies.{length-shared_of}
use Rattle.tp_mem.proofs.Paged.{with_shared}
use Rattle.tp_mem.proofs.Touches.{shared_from-untouched, words_untouched, inside_at, two_untouched, four_untouched, zero_plus, not_true}
use Rattle.tp_mem.proofs.cow.CowMemory.are_own.Goals as goal

pub shares_two-requires-clause-one : goal.shares_two-requires-clause-one
shares_two-requires-clause-one c =
    let v = c.self.inside in let i = c.self.invariant in
    omega (arith, inside_at (length c.args.self.now.live) c.args.words.now 0 c.requires (omega (arith, c.in-len2.len_at_least)), ap (λ (m : Paged). length m.live) c.self.view_is, i.whole, ap length c.deref.ensures.value, ap length i.flags, length-shared_of v.is_frozen v.copies.items)

pub shares_two-requires-clause-two : goal.shares_two-requires-clause-two
shares_two-requires-clause-two c =
    let v = c.self.inside in let i = c.self.invariant in
    omega (arith, inside_at (length c.args.self.now.live) c.args.words.now 1 c.requires (omega (arith, c.in-len2.len_at_least)), ap (λ (m : Paged). length m.live) c.self.view_is, i.whole, ap length c.deref.ensures.value, ap length i.flags, length-shared_of v.is_frozen v.copies.items)

pub has_own_row-requires : goal.has_own_row-requires
has_own_row-requires c =
    let v = c.self.inside in let i = c.self.invariant in
    omega (arith, inside_at (length c.args.self.now.live) c.args.words.now 0 c.requires (omega (arith, c.in-len4.len_at_least)), ap (λ (m : Paged). length m.live) c.self.view_is, i.whole, ap length c.deref-in-len4.ensures.value, ap length i.flags, length-shared_of v.is_frozen v.copies.items)

pub returns-in-len2 : goal.returns-in-len2
returns-in-len2 c = λ is.
    let words : List (ℕ × ℕ) = c.args.words.now in
    let same = c.deref.ensures.value ∙ ap (λ (m : Paged). m.shared) c.self.view_is in
    let off : c.shares_two.result ≡ false = not_true c.shares_two.result (λ on. let no = sym is ∙ ap not on in absurd (cc)) in
    let none = subst (λ (pages : List Bool). list_any (λ (word : ℕ × ℕ). get_or pages (word_offset word.0 / PAGE_BYTES) false) words ≡ false) same
    (two_untouched c.deref.result.now words (omega (arith, c.in-len2.len_at_least, c.in-len2.len_below)) (sym c.shares_two.ensures ∙ off)) in
    with_shared c.args.self.now _ (shared_from-untouched 0 c.args.self.now.shared ((0, 0) ∷ (0, 0) ∷ word_ranges words) (λ k shared.
    ap (λ p. list_any (touches p) ((0, 0) ∷ (0, 0) ∷ word_ranges words)) (zero_plus k) ∙ words_untouched c.args.self.now.shared words k none shared))

pub returns-in-len4 : goal.returns-in-len4
returns-in-len4 c = λ is.
    let words : List (ℕ × ℕ) = c.args.words.now in
    let same = c.deref-in-len4.ensures.value ∙ ap (λ (m : Paged). m.shared) c.self.view_is in
    let none = subst (λ (pages : List Bool). list_any (λ (word : ℕ × ℕ). get_or pages (word_offset word.0 / PAGE_BYTES) false) words ≡ false) same
    (four_untouched c.deref-in-len4.result.now words (omega (arith, c.in-len4.len_at_least, c.in-len4.len_below)) (c.has_own_row.ensures is)) in
    with_shared c.args.self.now _ (shared_from-untouched 0 c.args.self.now.shared ((0, 0) ∷ (0, 0) ∷ word_ranges words) (λ k shared.
    ap (λ p. list_any (touches p) ((0, 0) ∷ (0, 0) ∷ word_ranges words)) (zero_plus k) ∙ words_untouched c.args.self.now.shared words k none shared))
