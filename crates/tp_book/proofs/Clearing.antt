-- Walks over lines, and over the tokens of one.
use Rattle.std.proofs.Common.{◌≡◌, ℕ, ◌+◌, ◌<◌, ◌≤◌, true, false, cond, List, [], ◌∷◌, length, drop, refl, sym, ap, ◌∙◌, arith, Some, slice_get, get_or}
use Rattle.std.specs.Prelude.{◌&&◌}
use Rattle.tp_book.proofs.Lower.{list_all, drop_more, get_or_from_slice_get, slice_get_within, Token, is_marker, on_line}
use Rattle.tp_book.specs.Clear.{is_clear}

-- what is at a place, and after it
pub drop_here : {A : Type 0} (xs : List A) (i : ℕ) (x : A) → slice_get xs i ≡ Some x → drop i xs ≡ x ∷ drop (i + 1) xs
drop_here xs i x at = drop_more xs i x (slice_get_within xs i x at) ∙ ap (λ y. y ∷ drop (i + 1) xs) (get_or_from_slice_get xs i x x at)

pub token_clear : (us : List Token) (i : ℕ) (t : Token) → slice_get us i ≡ Some t → is_clear us ≡ is_clear (drop i us) → is_clear us ≡ cond (is_marker t) (is_clear (drop (i + 1) us)) false
token_clear us i t at front = front ∙ ap is_clear (drop_here us i t at)

pub line_clear : (lines : List (List Token)) (line : ℕ) → list_all is_clear lines ≡ list_all is_clear (drop line lines) → line < length lines → list_all is_clear lines ≡ (is_clear (on_line lines line) && list_all is_clear (drop (line + 1) lines))
line_clear lines line front there = front ∙ ap (list_all is_clear) (drop_more lines line [] there)
