-- What an entry changes of the snapshot that runs.
use Rattle.std.proofs.Common.{◌≡◌, ℕ, ◌+◌, ◌<◌, Bool, List, ◌∷◌, length, drop, get_or, ap, subst, sym, ◌∙◌, add-one, drop-cons}
use Rattle.tp_book.proofs.Lower.{Token, sent, collected}
use Rattle.tp_book.specs.Room.{HasRoom}
use Rattle.tp_book.proofs.Sending.{Next}

-- Tokens from a place on have room and lead to the final lines: so does the token there, and what is left after it.
pub next_collected : (on : ℕ → Bool) (lines final : List (List Token)) (tokens : List (ℕ × Token)) (i : ℕ) (d : ℕ × Token) → i < length tokens
    → HasRoom on lines (drop i tokens) → sent on lines (drop i tokens) ≡ final → Next on lines final (get_or tokens i d) (drop (i + 1) tokens)
unfolding sent
next_collected on lines final tokens i d h room leads =
    let is = drop-cons tokens i d h ∙ ap (λ n. get_or tokens i d ∷ drop n tokens) (sym (add-one i)) in
    let now = subst (HasRoom on lines) is room in
    record { here = (now.0, tt); behind = now.1; leads = ap (sent on lines) (sym is) ∙ leads }
