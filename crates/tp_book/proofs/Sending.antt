-- Room for what is sent.
use Rattle.std.proofs.Common.{◌≡◌, ℕ, zero, suc, ◌+◌, ◌<◌, ◌≤◌, Bool, true, false, cond, List, [], ◌∷◌, ◌++◌, length, set, drop, get_or, refl, sym, ap, subst, ◌∙◌, arith, add-one, drop-cons, Option, Some, None, ◌*◌, map, length-append}
use Rattle.std.specs.Prelude.{is_some, option_to_list}
use Rattle.tp_book.proofs.Lower.{AllByRecursion, Token, WireEnd, is_wired, on_line, pushed, sent, for_line, length_pushed, sent_behind, on_pushed, for_line-here, on_link}
use Rattle.tp_book.specs.Room.{HasRoom, from_line}
use Rattle.tp_book.specs.Sends.{on_lines, sends_on}

-- There is room for what is sent, if no line is too long in the end.
pub room_before : (on : ℕ → Bool) (lines : List (List Token)) (ms : List (ℕ × Token)) → ((l : ℕ) → on l ≡ true → l < length lines)
    → ((l : ℕ) → length (on_line (sent on lines ms) l) ≤ 3) → HasRoom on lines ms
unfolding sent
room_before on lines [] there small = tt
room_before on lines (m ∷ ms) there small = (
  (λ y.
      let grown = sent_behind on (pushed on lines m.0 m.1) ms m.0 in
      let first : on_line (pushed on lines m.0 m.1) m.0 ≡ on_line lines m.0 ++ m.1 ∷ [] = on_pushed_here on lines m.0 m.1 y (there m.0 y) in
      let long = ap length (grown.1 ∙ ap (λ ts. ts ++ grown.0) first) in
      omega (arith, long, small m.0, length-append (on_line lines m.0 ++ m.1 ∷ []) grown.0, length-append (on_line lines m.0) (m.1 ∷ []))),
  room_before on (pushed on lines m.0 m.1) ms (λ l y. subst (λ n. l < n) (sym (length_pushed on lines m.0 m.1)) (there l y)) small,
)
  where
    on_pushed_here : (on : ℕ → Bool) (lines : List (List Token)) (k : ℕ) (t : Token) → on k ≡ true → k < length lines → on_line (pushed on lines k t) k ≡ on_line lines k ++ t ∷ []
    on_pushed_here on lines k t y h = on_pushed on lines k t k (λ _. h) ∙ ap (λ b. on_line lines k ++ cond b (for_line k ((k, t) ∷ [])) []) y ∙ ap (λ ts. on_line lines k ++ ts) (for_line-here k t [])

-- ## Wires

pub wired_some : (end : Option WireEnd) → is_wired end ≡ is_some end
wired_some None = refl
wired_some (Some end) = refl

pub pushed_open : (on : ℕ → Bool) (lines : List (List Token)) (line : ℕ) (t : Token) → on line ≡ true → pushed on lines line t ≡ set lines line (on_line lines line ++ t ∷ [])
unfolding pushed
pushed_open on lines line t y = rw y

pub pushed_shut : (on : ℕ → Bool) (lines : List (List Token)) (line : ℕ) (t : Token) → on line ≡ false → pushed on lines line t ≡ lines
unfolding pushed
pushed_shut on lines line t n = rw n

-- ## One after the other

-- what is left from a place on
pub rest_from : (first : ℕ) (tokens : List (ℕ × Token)) (i : ℕ) (d : ℕ × Token) → i < length tokens
    → from_line first (drop i tokens) ≡ (first + (get_or tokens i d).0, (get_or tokens i d).1) ∷ from_line first (drop (i + 1) tokens)
rest_from first tokens i d h = ap (from_line first) (drop-cons tokens i d h ∙ ap (λ n. get_or tokens i d ∷ drop n tokens) (sym (add-one i)))

-- What is left from a place on has room and leads to the final lines: so does the token there, and what is left after it.
pub record Next (on : ℕ → Bool) (lines final : List (List Token)) (m : ℕ × Token) (rest : List (ℕ × Token)) : Type 0 where
  pub here : HasRoom on lines (m ∷ [])
  pub behind : HasRoom on (pushed on lines m.0 m.1) rest
  pub leads : sent on (pushed on lines m.0 m.1) rest ≡ final

pub next_sent : (on : ℕ → Bool) (lines final : List (List Token)) (first : ℕ) (tokens : List (ℕ × Token)) (i : ℕ) (d : ℕ × Token) → i < length tokens
    → HasRoom on lines (from_line first (drop i tokens)) → sent on lines (from_line first (drop i tokens)) ≡ final
    → Next on lines final (first + (get_or tokens i d).0, (get_or tokens i d).1) (from_line first (drop (i + 1) tokens))
unfolding sent
next_sent on lines final first tokens i d h room leads =
    let now = subst (HasRoom on lines) (rest_from first tokens i d h) room in
    let then = ap (sent on lines) (sym (rest_from first tokens i d h)) ∙ leads in
    record { here = (now.0, tt); behind = now.1; leads = then }

-- ## What goes out on a line

-- of a port, and of a node's link
pub sends_on-tokens : (line : ℕ) (token : Option Token) → sends_on line token ≡ map (λ t. (line, t)) (option_to_list token)
sends_on-tokens line None = refl
sends_on-tokens line (Some token) = refl

pub answer_on : (node link : ℕ) (answer : Option Token) → sends_on (4 * node + link) answer ≡ on_lines node (on_link link answer)
answer_on node link None = refl
answer_on node link (Some token) = refl

pub known_at : {A : Type 0} (P : A → Type 0) (xs : List A) (i : ℕ) (d : A) → i < length xs → AllByRecursion P xs → P (get_or xs i d)
known_at P [] i d there all = absurd (omega arith)
known_at P (x ∷ xs) zero d there all = all.0
known_at P (x ∷ xs) (suc i) d there all = known_at P xs i d (omega arith) all.1

-- the lines of a node's links are there
pub all_known : (first n : ℕ) (ms : List (ℕ × Token)) → first + 4 ≤ n → AllByRecursion (λ m. m.0 < 4) ms → AllByRecursion (λ m. first + m.0 < n) ms
all_known first n [] fits all = tt
all_known first n (m ∷ ms) fits all = (omega (arith, all.0), all_known first n ms fits all.1)
