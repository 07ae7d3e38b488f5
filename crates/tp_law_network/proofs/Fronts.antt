-- The tokens that an entry takes, shared out among the pieces that send them.
use Rattle.std.proofs.Common.{◌≡◌, ℕ, ◌<◌, ◌≤◌, Bool, true, false, cond, inl, inr, List, [], ◌∷◌, ◌++◌, length, refl, sym, ap, subst, ◌∙◌, Some}
use Rattle.std.specs.Prelude.{◌==◌}
use Rattle.tp_law_network.proofs.Lower.{cases_lt, cases_Bool, true≢false, append_cancel_left, Token, on_line, for_line, taken, sent}
use Rattle.tp_law_network.proofs.Lines.{for_line-other, on_taken, taken_from, on_sent, on_sent_past}
use Rattle.tp_law_network.specs.Piece.{Piece, from_piece, sends}

-- of the tokens on a line that the piece sends, it has all
pub for_line-kept : (has : Piece) (N l : ℕ) (ms : List (ℕ × Token)) → sends has N l ≡ true → for_line l (from_piece has N ms) ≡ for_line l ms
unfolding from_piece
for_line-kept has N l [] h = refl
for_line-kept has N l (m ∷ ms) h = elim (cases_Bool (sends has N m.0)) [
  | inl y ↦ rw y (ap (λ ts. cond (m.0 == l) (m.1 ∷ ts) ts) (for_line-kept has N l ms h))
  | inr n ↦ rw n (for_line-kept has N l ms h ∙ sym (for_line-other m.0 l m.1 ms (λ same. true≢false (sym h ∙ ap (sends has N) (sym same) ∙ n))))
]

-- and of those on any other line, none
pub for_line-left : (has : Piece) (N l : ℕ) (ms : List (ℕ × Token)) → sends has N l ≡ false → for_line l (from_piece has N ms) ≡ []
unfolding from_piece
for_line-left has N l [] h = refl
for_line-left has N l (m ∷ ms) h = elim (cases_Bool (sends has N m.0)) [
  | inl y ↦ rw y (for_line-other m.0 l m.1 (from_piece has N ms) (λ same. true≢false (sym y ∙ ap (sends has N) same ∙ h)) ∙ for_line-left has N l ms h)
  | inr n ↦ rw n (for_line-left has N l ms h)
]

-- both lists of lines are equal at the lines that the piece sends
abbrev pub SameSent : Piece → ℕ → List (List Token) → List (List Token) → Type 0
SameSent has N ks ls = (l : ℕ) → sends has N l ≡ true → on_line ks l ≡ on_line ls l

-- Of tokens that can be taken from a whole network's lines, a piece can take its own, and then has on its lines what the whole has.
pub taken_in : (has : Piece) (N : ℕ) (ks ls : List (List Token)) (ms : List (ℕ × Token)) (out : List (List Token)) → SameSent has N ks ls → taken ls ms ≡ Some out
    → (left : List (List Token)) × (taken ks (from_piece has N ms) ≡ Some left) × SameSent has N left out
taken_in has N ks ls ms out same e =
    let T = taken_from ks (from_piece has N ms) front in (
      T.0,
      T.1,
      λ l h. append_cancel_left (for_line l ms) (on_line T.0 l) (on_line out l)
          (ap (λ ts. ts ++ on_line T.0 l) (sym (for_line-kept has N l ms h)) ∙ sym (on_taken ks (from_piece has N ms) T.0 T.1 l) ∙ same l h ∙ on_taken ls ms out e l),
    )
  where
    front : (l : ℕ) → (rest : List Token) × (on_line ks l ≡ for_line l (from_piece has N ms) ++ rest)
    front l = elim (cases_Bool (sends has N l)) [
      | inl y ↦ (on_line out l, same l y ∙ on_taken ls ms out e l ∙ ap (λ ts. ts ++ on_line out l) (sym (for_line-kept has N l ms y)))
      | inr n ↦ (on_line ks l, ap (λ ts. ts ++ on_line ks l) (sym (for_line-left has N l ms n)))
    ]

-- what a piece can take is at the front of its lines
pub front_in : (has : Piece) (N : ℕ) (ks ls : List (List Token)) (ms : List (ℕ × Token)) (left : List (List Token)) → SameSent has N ks ls → taken ks (from_piece has N ms) ≡ Some left
    → (l : ℕ) → sends has N l ≡ true → (rest : List Token) × (on_line ls l ≡ for_line l ms ++ rest)
front_in has N ks ls ms left same e l h =
    (on_line left l, sym (same l h) ∙ on_taken ks (from_piece has N ms) left e l ∙ ap (λ ts. ts ++ on_line left l) (for_line-kept has N l ms h))

-- lines that are equal are equal once tokens were sent
pub sent_alike : (on : ℕ → Bool) (ks ls : List (List Token)) (ms : List (ℕ × Token)) (l : ℕ) → length ks ≡ length ls → on_line ks l ≡ on_line ls l → on_line (sent on ks ms) l ≡ on_line (sent on ls ms) l
sent_alike on ks ls ms l count same = elim (cases_lt l (length ks)) [
  | inl h ↦ on_sent on ks ms l (λ _. h) ∙ ap (λ ts. ts ++ cond (on l) (for_line l ms) []) same ∙ sym (on_sent on ls ms l (λ _. subst (λ n. l < n) count h))
  | inr h ↦ on_sent_past on ks ms l h ∙ sym (on_sent_past on ls ms l (subst (λ n. n ≤ l) count h))
]
