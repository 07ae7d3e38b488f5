-- The records of lines, one by one.
use Rattle.std.proofs.Common.{◌≡◌, ℕ, suc, ◌<◌, ◌+◌, List, [], ◌∷◌, true, length, drop, get_or, refl, ap, ◌∙◌, arith, Option, None, Bool, false}
use Rattle.std.specs.Prelude.{◌&&◌}
use Rattle.tp_tests_opening.proofs.Lower.{drop-cons, Token, WireEnd, is_line_of, on_line, are_lines, has_record}

next : (i : ℕ) → suc i ≡ i + 1
next i = omega arith

pub line_step : (wires : List (Option WireEnd)) (lines : List (List Token)) (i : ℕ) → i < length wires → i < length lines
    → (has_record (on_line lines i) && is_line_of (get_or wires i None) (on_line lines i)) ≡ true
    → (are_lines (drop i wires) (drop i lines) ≡ true → are_lines wires lines ≡ true)
    → are_lines (drop (i + 1) wires) (drop (i + 1) lines) ≡ true → are_lines wires lines ≡ true
line_step wires lines i there too is so_far rest =
    let w : drop i wires ≡ get_or wires i None ∷ drop (i + 1) wires = drop-cons wires i None there ∙ ap (λ n. get_or wires i None ∷ drop n wires) (next i) in
    let l : drop i lines ≡ on_line lines i ∷ drop (i + 1) lines = drop-cons lines i [] too ∙ ap (λ n. on_line lines i ∷ drop n lines) (next i) in
    so_far (ap (λ ws. are_lines ws (drop i lines)) w ∙ ap (are_lines (get_or wires i None ∷ drop (i + 1) wires)) l ∙ both (has_record (on_line lines i)) (is_line_of (get_or wires i None) (on_line lines i)) (are_lines (drop (i + 1) wires) (drop (i + 1) lines)) is rest)
  where
    both : (a b c : Bool) → (a && b) ≡ true → c ≡ true → (a && (b && c)) ≡ true
    both true true true first then = refl
    both true true false first then = then
    both true false c first then = first
    both false b c first then = first
