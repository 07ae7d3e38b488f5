-- Lines that are copied one after another.
use Rattle.std.proofs.Common.{◌≡◌, ℕ, ◌+◌, ◌<◌, ◌∷◌, ◌++◌, List, [], length, set, take, sym, ap, ◌∙◌, arith, Some, slice_get}
use Rattle.tp_replay.proofs.Lower.{take_more, set-set, set-get_or, get_or_from_slice_get, slice_get_within, Token, on_line, on_set_same, same_lines}
use Rattle.tp_replay.specs.Copies.{Copies}

-- if all are copied, they are the lines
pub all_copied : (from was now : List (List Token)) → length was ≡ length from → Copies 0 (length from) from was now → now ≡ from
all_copied from was now long C =
    same_lines now from (C.count ∙ long) (λ line below. C.within line (omega arith) (let many = C.count in omega (arith, below, many, long)))

-- a token more of one line
pub line_more : (lines : List (List Token)) (line at : ℕ) (ts : List Token) (token : Token) → line < length lines → slice_get ts at ≡ Some token
    → set (set lines line (take at ts)) line (on_line (set lines line (take at ts)) line ++ token ∷ []) ≡ set lines line (take (at + 1) ts)
line_more lines line at ts token there is =
    set-set lines line (take at ts) (on_line (set lines line (take at ts)) line ++ token ∷ [])
    ∙ ap (λ us. set lines line (us ++ token ∷ [])) (on_set_same lines line (take at ts) there)
    ∙ ap (λ t. set lines line (take at ts ++ t ∷ [])) (sym (get_or_from_slice_get ts at token token is))
    ∙ ap (set lines line) (sym (take_more ts at token (slice_get_within ts at token is)))
