-- A part's lines, once tokens were taken off or sent.
use Rattle.std.proofs.Common.{◌≡◌, ℕ, ◌+◌, ◌<◌, ◌≤◌, Bool, true, false, cond, inl, inr, List, [], ◌∷◌, ◌++◌, length, set, take, drop, get_or, refl, sym, ap, subst, ◌∙◌, arith, Some, None, length-append}
use Rattle.std.specs.Prelude.{MatchBool}
use Rattle.tp_replay.proofs.Lower.{cases_eq, cases_lt, get_or_past, set_past, take_more, take-append-drop, drop_more, map_push, map-append, Token, on_line, is_first, taken, pushed, sent, cons_taken, on_set_same, on_set_other, for_line-here, on_sent_open, sent_behind, sent-append, from_line}
use Rattle.tp_replay.specs.Lanes.{AreShort, Overfills}

-- ## What is taken

pub taken-none : (lines : List (List Token)) (line : ℕ) (token : Token) → is_first (on_line lines line) token ≡ false → taken lines ((line, token) ∷ []) ≡ None
unfolding taken
taken-none lines line token h = rw h

pub taken-past : (lines : List (List Token)) (line : ℕ) (token : Token) → length lines ≤ line → taken lines ((line, token) ∷ []) ≡ None
taken-past lines line token past = taken-none lines line token (ap (λ ts. is_first ts token) (get_or_past lines line [] past))

pub taken-front : (lines : List (List Token)) (line : ℕ) (token : Token) → is_first (on_line lines line) token ≡ true
    → taken lines ((line, token) ∷ []) ≡ Some (set lines line (drop 1 (on_line lines line)))
unfolding taken
taken-front lines line token front = cons_taken lines (line, token) [] front

-- ## Short lines

pub short_set : (lines : List (List Token)) (k : ℕ) (ts : List Token) → AreShort lines → length ts ≤ 2 → AreShort (set lines k ts)
short_set lines k ts short few l = elim (cases_eq l k) [
  | inl same ↦ elim (cases_lt k (length lines)) [
    | inl below ↦ rw same (subst (λ us. length us ≤ 2) (sym (on_set_same lines k ts below)) few)
    | inr past ↦ subst (λ ls. length (on_line ls l) ≤ 2) (sym (set_past lines k ts past)) (short l)
  ]
  | inr other ↦ subst (λ us. length us ≤ 2) (sym (on_set_other lines k l ts other)) (short l)
]

pub short_without : (lines : List (List Token)) (k : ℕ) → AreShort lines → AreShort (set lines k (drop 1 (on_line lines k)))
short_without lines k short = short_set lines k (drop 1 (on_line lines k)) short (fewer (on_line lines k) (short k))
  where
    fewer : (ts : List Token) → length ts ≤ 2 → length (drop 1 ts) ≤ 2
    fewer [] h = h
    fewer (t ∷ ts) h = omega (arith, h)

pub short_with : (lines : List (List Token)) (k : ℕ) (t : Token) → AreShort lines → length (on_line lines k) < 2 → AreShort (set lines k (on_line lines k ++ t ∷ []))
short_with lines k t short room = short_set lines k (on_line lines k ++ t ∷ []) short (omega (arith, room, length-append (on_line lines k) (t ∷ [])))

-- ## What is sent

pub pushed-past : (on : ℕ → Bool) (lines : List (List Token)) (line : ℕ) (t : Token) → length lines ≤ line → pushed on lines line t ≡ lines
unfolding pushed
pushed-past on lines line t past = go (on line)
  where
    go : (b : Bool) → cond b (set lines line (on_line lines line ++ t ∷ [])) lines ≡ lines
    go true = set_past lines line (on_line lines line ++ t ∷ []) past
    go false = refl

-- a third token on one line
pub overfilled : (on : ℕ → Bool) (lines : List (List Token)) (line : ℕ) (t : Token) → on line ≡ true → line < length lines → AreShort lines → 2 ≤ length (on_line lines line)
    → Overfills on lines ((line, t) ∷ [])
overfilled on lines line t wired there short full =
    let is : on_line (sent on lines ((line, t) ∷ [])) line ≡ on_line lines line ++ t ∷ [] =
    on_sent_open on lines ((line, t) ∷ []) line wired there ∙ ap (λ ts. on_line lines line ++ ts) (for_line-here line t []) in
    let long = ap length is ∙ length-append (on_line lines line) (t ∷ []) in
    record { line = line; short = short line; long = omega (arith, long, full) }

-- a line that is overfull on the way is overfull in the end
pub overfilled_among : (on : ℕ → Bool) (lines : List (List Token)) (before : List (ℕ × Token)) (m : ℕ × Token) (after ms : List (ℕ × Token)) → ms ≡ before ++ m ∷ after
    → Overfills on (sent on lines before) (m ∷ []) → Overfills on lines ms
unfolding sent
overfilled_among on lines before m after ms are O =
    let first = sent_behind on lines before O.line in
    let rest = sent_behind on (pushed on (sent on lines before) m.0 m.1) after O.line in
    let grown = ap length first.1 ∙ length-append (on_line lines O.line) first.0 in
    let all : sent on lines ms ≡ sent on (pushed on (sent on lines before) m.0 m.1) after = ap (sent on lines) are ∙ sent-append on lines before (m ∷ after) in
    let last = ap (λ ls. length (on_line ls O.line)) all ∙ ap length rest.1 ∙ length-append (on_line (pushed on (sent on lines before) m.0 m.1) O.line) rest.0 in
    record { line = O.line; short = omega (arith, O.short, grown); long = omega (arith, O.long, last) }

-- a line is overfull in the end, if it is once the first of two lists is sent, or both are
pub overfilled_first : (on : ℕ → Bool) (lines : List (List Token)) (xs ys : List (ℕ × Token)) → Overfills on lines xs → Overfills on lines (xs ++ ys)
overfilled_first on lines xs ys O =
    let rest = sent_behind on (sent on lines xs) ys O.line in
    let last = ap (λ ls. length (on_line ls O.line)) (sent-append on lines xs ys) ∙ ap length rest.1 ∙ length-append (on_line (sent on lines xs) O.line) rest.0 in
    record { line = O.line; short = O.short; long = omega (arith, O.long, last) }

pub sent_both : (on : ℕ → Bool) (lines now : List (List Token)) (xs ys : List (ℕ × Token)) (could : Bool) → MatchBool could (now ≡ sent on (sent on lines xs) ys) (Overfills on (sent on lines xs) ys)
    → MatchBool could (now ≡ sent on lines (xs ++ ys)) (Overfills on lines (xs ++ ys))
sent_both on lines now xs ys true h = h ∙ sym (sent-append on lines xs ys)
sent_both on lines now xs ys false O =
    let first = sent_behind on lines xs O.line in
    let grown = ap length first.1 ∙ length-append (on_line lines O.line) first.0 in
    record { line = O.line; short = omega (arith, O.short, grown); long = subst (λ ls. 2 < length (on_line ls O.line)) (sym (sent-append on lines xs ys)) O.long }

-- ## One token after the other

pub sent_more : (on : ℕ → Bool) (lines : List (List Token)) (first : ℕ) (tokens : List (ℕ × Token)) (i : ℕ) (d : ℕ × Token) → i < length tokens
    → pushed on (sent on lines (from_line first (take i tokens))) (first + (get_or tokens i d).0) (get_or tokens i d).1 ≡ sent on lines (from_line first (take (i + 1) tokens))
unfolding sent
sent_more on lines first tokens i d below =
    sym (ap (λ ms. sent on lines (from_line first ms)) (take_more tokens i d below)
    ∙ ap (sent on lines) (map_push (λ m. (first + m.0, m.1)) (take i tokens) (get_or tokens i d))
    ∙ sent-append on lines (from_line first (take i tokens)) ((first + (get_or tokens i d).0, (get_or tokens i d).1) ∷ []))

pub split_at : (first : ℕ) (tokens : List (ℕ × Token)) (i : ℕ) (d : ℕ × Token) → i < length tokens
    → from_line first tokens ≡ from_line first (take i tokens) ++ (first + (get_or tokens i d).0, (get_or tokens i d).1) ∷ from_line first (drop (i + 1) tokens)
split_at first tokens i d below =
    ap (from_line first) (sym (take-append-drop i tokens) ∙ ap (λ ms. take i tokens ++ ms) (drop_more tokens i d below))
    ∙ map-append (λ m. (first + m.0, m.1)) (take i tokens) (get_or tokens i d ∷ drop (i + 1) tokens)
