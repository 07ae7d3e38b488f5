-- What is on each line after tokens were taken and sent.
use Rattle.std.proofs.Common.{◌≡◌, ◌≢◌, ℕ, ◌<◌, ◌≤◌, Bool, true, false, cond, ◌⊎◌, inl, inr, List, [], ◌∷◌, ◌++◌, length, set, drop, refl, sym, ap, subst, ◌∙◌, Some, None, append_assoc, append-nil, length-set, get_or-set_same, get_or-set_other, eqb-true, eq-eqb, ne_eqb}
use Rattle.std.specs.Prelude.{◌==◌}
use Rattle.tp_law_network.proofs.Lower.{AllByRecursion, cases_lt, cases_eq, cases_Bool, true≢false, false≢true, get_or_past, ext_get_or, append_cancel_left, Token, Data, Ack, Marker, on_line, same_token, is_first, taken, pushed, sent, for_line, without}

-- ## Tokens

-- tokens that pass for equal are equal
pub same_token_is : (t u : Token) → same_token t u ≡ true → t ≡ u
same_token_is (Data a) (Data b) e = ap Data (eqb-true a b e)
same_token_is Ack Ack e = refl
same_token_is Marker Marker e = refl
same_token_is (Data a) Ack e = cc
same_token_is (Data a) Marker e = cc
same_token_is Ack (Data b) e = cc
same_token_is Ack Marker e = cc
same_token_is Marker (Data b) e = cc
same_token_is Marker Ack e = cc

pub same_token-self : (t : Token) → same_token t t ≡ true
same_token-self (Data a) = eq-eqb a a refl
same_token-self Ack = refl
same_token-self Marker = refl

-- what is at the front, and the rest
pub first_is : (ts : List Token) (t : Token) → is_first ts t ≡ true → ts ≡ t ∷ drop 1 ts
first_is [] t e = cc
first_is (u ∷ us) t e = ap (λ v. v ∷ us) (same_token_is u t e)

pub is_first-cons : (ts : List Token) (t : Token) (rest : List Token) → ts ≡ t ∷ rest → is_first ts t ≡ true
is_first-cons ts t rest e = ap (λ us. is_first us t) e ∙ same_token-self t

-- ## Lines

-- a line with a token is one of the lines
pub line_there : (lines : List (List Token)) (l : ℕ) (t : Token) → is_first (on_line lines l) t ≡ true → l < length lines
line_there lines l t e = elim (cases_lt l (length lines)) [
  | inl h ↦ h
  | inr h ↦ absurd (false≢true (sym (ap (λ ts. is_first ts t) (get_or_past lines l [] h)) ∙ e))
]

-- lists of lines are equal if each line has equal tokens
pub same_lines : (ks ls : List (List Token)) → length ks ≡ length ls → ((l : ℕ) → l < length ks → on_line ks l ≡ on_line ls l) → ks ≡ ls
same_lines ks ls = ext_get_or [] ks ls

-- one line is changed
pub on_set_same : (lines : List (List Token)) (l : ℕ) (ts : List Token) → l < length lines → on_line (set lines l ts) l ≡ ts
on_set_same lines l ts h = get_or-set_same lines l ts [] h

pub on_set_other : (lines : List (List Token)) (k l : ℕ) (ts : List Token) → l ≢ k → on_line (set lines k ts) l ≡ on_line lines l
on_set_other lines k l ts h = get_or-set_other lines k l ts [] h

-- ## The tokens of one line

pub for_line-here : (l : ℕ) (t : Token) (ms : List (ℕ × Token)) → for_line l ((l, t) ∷ ms) ≡ t ∷ for_line l ms
for_line-here l t ms = rw (eq-eqb l l refl)

pub for_line-other : (k l : ℕ) (t : Token) (ms : List (ℕ × Token)) → k ≢ l → for_line l ((k, t) ∷ ms) ≡ for_line l ms
for_line-other k l t ms h = rw (ne_eqb k l h)

pub for_line-append : (l : ℕ) (ms ns : List (ℕ × Token)) → for_line l (ms ++ ns) ≡ for_line l ms ++ for_line l ns
for_line-append l [] ns = refl
for_line-append l (m ∷ ms) ns = elim (cases_Bool (m.0 == l)) [
  | inl y ↦ rw (y, for_line-append l ms ns)
  | inr n ↦ rw (n, for_line-append l ms ns)
]

-- none of them is on a line of another owner
pub for_line-elsewhere : (of : ℕ → ℕ) (p l : ℕ) (ms : List (ℕ × Token)) → AllByRecursion (λ m. of m.0 ≡ p) ms → of l ≢ p → for_line l ms ≡ []
for_line-elsewhere of p l [] all h = refl
for_line-elsewhere of p l (m ∷ ms) all h =
    rw (ne_eqb m.0 l (λ e. h (sym (ap of e) ∙ all.0))) (for_line-elsewhere of p l ms all.1 h)

-- ## What is taken

-- the first of them is at the front, and the others can be taken after it
pub taken_cons : (lines : List (List Token)) (m : ℕ × Token) (ms : List (ℕ × Token)) (out : List (List Token)) → taken lines (m ∷ ms) ≡ Some out
    → (is_first (on_line lines m.0) m.1 ≡ true) × (taken (set lines m.0 (drop 1 (on_line lines m.0))) ms ≡ Some out)
unfolding taken
taken_cons lines m ms out e = go (is_first (on_line lines m.0) m.1) refl e
  where
    go : (b : Bool) → is_first (on_line lines m.0) m.1 ≡ b → cond b (taken (set lines m.0 (drop 1 (on_line lines m.0))) ms) None ≡ Some out
        → (is_first (on_line lines m.0) m.1 ≡ true) × (taken (set lines m.0 (drop 1 (on_line lines m.0))) ms ≡ Some out)
    go true b e = (b, e)
    go false b e = cc

pub cons_taken : (lines : List (List Token)) (m : ℕ × Token) (ms : List (ℕ × Token)) → is_first (on_line lines m.0) m.1 ≡ true
    → taken lines (m ∷ ms) ≡ taken (set lines m.0 (drop 1 (on_line lines m.0))) ms
unfolding taken
cons_taken lines m ms e = rw e

-- what can be taken is what is taken off
pub without_taken : (lines : List (List Token)) (ms : List (ℕ × Token)) (out : List (List Token)) → taken lines ms ≡ Some out → without lines ms ≡ out
unfolding taken without
without_taken lines [] out e = cc
without_taken lines (m ∷ ms) out e = without_taken _ ms out (taken_cons lines m ms out e).1

-- a line, before the token at the front of one of them is taken
pub on_rest_same : (lines : List (List Token)) (k : ℕ) (t : Token) → is_first (on_line lines k) t ≡ true
    → on_line lines k ≡ t ∷ on_line (set lines k (drop 1 (on_line lines k))) k
on_rest_same lines k t e = first_is (on_line lines k) t e ∙ ap (λ ts. t ∷ ts) (sym (on_set_same lines k (drop 1 (on_line lines k)) (line_there lines k t e)))

-- A line was what was taken from it, and then what is left.
pub on_taken : (lines : List (List Token)) (ms : List (ℕ × Token)) (out : List (List Token)) → taken lines ms ≡ Some out
    → (l : ℕ) → on_line lines l ≡ for_line l ms ++ on_line out l
unfolding taken
on_taken lines [] out e l = let same : lines ≡ out = cc in ap (λ ls. on_line ls l) same
on_taken lines (m ∷ ms) out e l = elim (cases_eq m.0 l) [
  | inl same ↦ subst (λ k. on_line lines k ≡ for_line k (m ∷ ms) ++ on_line out k) same (on_rest_same lines m.0 m.1 (taken_cons lines m ms out e).0 ∙ ap (λ ts. m.1 ∷ ts) (on_taken (set lines m.0 (drop 1 (on_line lines m.0))) ms out (taken_cons lines m ms out e).1 m.0) ∙ ap (λ ts. ts ++ on_line out m.0) (sym (for_line-here m.0 m.1 ms)))
  | inr other ↦ sym (on_set_other lines m.0 l (drop 1 (on_line lines m.0)) (λ h. other (sym h))) ∙ on_taken (set lines m.0 (drop 1 (on_line lines m.0))) ms out (taken_cons lines m ms out e).1 l
      ∙ ap (λ ts. ts ++ on_line out l) (sym (for_line-other m.0 l m.1 ms other))
]

-- they can be taken if each line has its own at the front
pub taken_from : (lines : List (List Token)) (ms : List (ℕ × Token)) → ((l : ℕ) → (rest : List Token) × (on_line lines l ≡ for_line l ms ++ rest))
    → (out : List (List Token)) × (taken lines ms ≡ Some out)
unfolding taken
taken_from lines [] h = (lines, refl)
taken_from lines (m ∷ ms) h =
    let front = is_first-cons (on_line lines m.0) m.1 (for_line m.0 ms ++ (h m.0).0) ((h m.0).1 ∙ ap (λ ts. ts ++ (h m.0).0) (for_line-here m.0 m.1 ms)) in
    let rest = taken_from (set lines m.0 (drop 1 (on_line lines m.0))) ms (behind front) in
    (rest.0, cons_taken lines m ms front ∙ rest.1)
  where
    behind : is_first (on_line lines m.0) m.1 ≡ true → (l : ℕ) → (rest : List Token) × (on_line (set lines m.0 (drop 1 (on_line lines m.0))) l ≡ for_line l ms ++ rest)
    behind front l = elim (cases_eq m.0 l) [
      | inl same ↦ (
        (h m.0).0,
        subst (λ k. on_line (set lines m.0 (drop 1 (on_line lines m.0))) k ≡ for_line k ms ++ (h m.0).0) same
            (on_set_same lines m.0 (drop 1 (on_line lines m.0)) (line_there lines m.0 m.1 front) ∙ ap (drop 1) ((h m.0).1 ∙ ap (λ ts. ts ++ (h m.0).0) (for_line-here m.0 m.1 ms))),
      )
      | inr other ↦ ((h l).0, on_set_other lines m.0 l (drop 1 (on_line lines m.0)) (λ e. other (sym e)) ∙ (h l).1 ∙ ap (λ ts. ts ++ (h l).0) (for_line-other m.0 l m.1 ms other))
    ]

pub length_taken : (lines : List (List Token)) (ms : List (ℕ × Token)) (out : List (List Token)) → taken lines ms ≡ Some out → length out ≡ length lines
unfolding taken
length_taken lines [] out e = let same : lines ≡ out = cc in ap length (sym same)
length_taken lines (m ∷ ms) out e =
    length_taken (set lines m.0 (drop 1 (on_line lines m.0))) ms out (taken_cons lines m ms out e).1 ∙ length-set lines m.0 (drop 1 (on_line lines m.0))

-- ## What is sent

pub length_pushed : (on : ℕ → Bool) (lines : List (List Token)) (k : ℕ) (t : Token) → length (pushed on lines k t) ≡ length lines
unfolding pushed
length_pushed on lines k t = elim (cases_Bool (on k)) [
  | inl y ↦ rw y (length-set lines k (on_line lines k ++ t ∷ []))
  | inr n ↦ rw n
]

pub length_sent : (on : ℕ → Bool) (lines : List (List Token)) (ms : List (ℕ × Token)) → length (sent on lines ms) ≡ length lines
unfolding sent
length_sent on lines [] = refl
length_sent on lines (m ∷ ms) = length_sent on (pushed on lines m.0 m.1) ms ∙ length_pushed on lines m.0 m.1

pub on_pushed_other : (on : ℕ → Bool) (lines : List (List Token)) (k : ℕ) (t : Token) (l : ℕ) → k ≢ l → on_line (pushed on lines k t) l ≡ on_line lines l
unfolding pushed
on_pushed_other on lines k t l other = elim (cases_Bool (on k)) [
  | inl y ↦ rw y (on_set_other lines k l (on_line lines k ++ t ∷ []) (λ e. other (sym e)))
  | inr n ↦ rw n
]

pub on_pushed : (on : ℕ → Bool) (lines : List (List Token)) (k : ℕ) (t : Token) (l : ℕ) → (on l ≡ true → l < length lines)
    → on_line (pushed on lines k t) l ≡ on_line lines l ++ cond (on l) (for_line l ((k, t) ∷ [])) []
unfolding pushed
on_pushed on lines k t l there = elim (cases_eq k l) [
  | inl same ↦ elim (cases_Bool (on l)) [
    | inl y ↦ rw (same, y, eq-eqb l l refl) (on_set_same lines l (on_line lines l ++ t ∷ []) (there y))
    | inr n ↦ rw (same, n) (sym (append-nil (on_line lines l)))
  ]
  | inr other ↦ rw (ne_eqb k l other) (on_pushed_other on lines k t l other ∙ sym (append-nil (on_line lines l)) ∙ ap (λ ts. on_line lines l ++ ts) (nothing (on l)))
]
  where
    nothing : (b : Bool) → ◌≡◌ {A = List Token} [] (cond b [] [])
    nothing true = refl
    nothing false = refl

-- A line is what it was, and then what was sent on it, if it is open.
pub on_sent : (on : ℕ → Bool) (lines : List (List Token)) (ms : List (ℕ × Token)) (l : ℕ) → (on l ≡ true → l < length lines)
    → on_line (sent on lines ms) l ≡ on_line lines l ++ cond (on l) (for_line l ms) []
unfolding sent
on_sent on lines [] l there = elim (cases_Bool (on l)) [
  | inl y ↦ rw y (sym (append-nil (on_line lines l)))
  | inr n ↦ rw n (sym (append-nil (on_line lines l)))
]
on_sent on lines (m ∷ ms) l there =
    on_sent on (pushed on lines m.0 m.1) ms l (λ y. subst (λ n. l < n) (sym (length_pushed on lines m.0 m.1)) (there y))
    ∙ ap (λ ts. ts ++ cond (on l) (for_line l ms) []) (on_pushed on lines m.0 m.1 l there)
    ∙ append_assoc (on_line lines l) (cond (on l) (for_line l (m ∷ [])) []) (cond (on l) (for_line l ms) [])
    ∙ ap (λ ts. on_line lines l ++ ts) (both (on l))
  where
    both : (b : Bool) → cond b (for_line l (m ∷ [])) [] ++ cond b (for_line l ms) [] ≡ cond b (for_line l (m ∷ ms)) []
    both true = sym (for_line-append l (m ∷ []) ms)
    both false = refl

pub on_sent_open : (on : ℕ → Bool) (lines : List (List Token)) (ms : List (ℕ × Token)) (l : ℕ) → on l ≡ true → l < length lines
    → on_line (sent on lines ms) l ≡ on_line lines l ++ for_line l ms
on_sent_open on lines ms l y h = on_sent on lines ms l (λ _. h) ∙ ap (λ b. on_line lines l ++ cond b (for_line l ms) []) y

pub on_sent_shut : (on : ℕ → Bool) (lines : List (List Token)) (ms : List (ℕ × Token)) (l : ℕ) → on l ≡ false → on_line (sent on lines ms) l ≡ on_line lines l
on_sent_shut on lines ms l n =
    on_sent on lines ms l (λ y. absurd (true≢false (sym y ∙ n))) ∙ ap (λ b. on_line lines l ++ cond b (for_line l ms) []) n ∙ append-nil (on_line lines l)

pub on_sent_past : (on : ℕ → Bool) (lines : List (List Token)) (ms : List (ℕ × Token)) (l : ℕ) → length lines ≤ l → on_line (sent on lines ms) l ≡ []
on_sent_past on lines ms l h = get_or_past (sent on lines ms) l [] (subst (λ n. n ≤ l) (sym (length_sent on lines ms)) h)

-- a line on which nothing was sent is as it was
pub on_sent_none : (on : ℕ → Bool) (lines : List (List Token)) (ms : List (ℕ × Token)) (l : ℕ) → for_line l ms ≡ [] → on_line (sent on lines ms) l ≡ on_line lines l
on_sent_none on lines ms l none = elim (cases_lt l (length lines)) [
  | inl h ↦ on_sent on lines ms l (λ _. h) ∙ ap (λ ts. on_line lines l ++ cond (on l) ts []) none ∙ nothing (on l)
  | inr h ↦ on_sent_past on lines ms l h ∙ sym (get_or_past lines l [] h)
]
  where
    nothing : (b : Bool) → on_line lines l ++ cond b [] [] ≡ on_line lines l
    nothing true = append-nil (on_line lines l)
    nothing false = append-nil (on_line lines l)

-- sending adds at the back of each line
pub sent_behind : (on : ℕ → Bool) (lines : List (List Token)) (ms : List (ℕ × Token)) (l : ℕ) → (more : List Token) × (on_line (sent on lines ms) l ≡ on_line lines l ++ more)
sent_behind on lines ms l = elim (cases_lt l (length lines)) [
  | inl h ↦ (cond (on l) (for_line l ms) [], on_sent on lines ms l (λ _. h))
  | inr h ↦ ([], on_sent_past on lines ms l h ∙ ap (λ ts. ts ++ []) (sym (get_or_past lines l [] h)))
]

pub sent-append : (on : ℕ → Bool) (lines : List (List Token)) (ms ns : List (ℕ × Token)) → sent on lines (ms ++ ns) ≡ sent on (sent on lines ms) ns
unfolding sent
sent-append on lines [] ns = refl
sent-append on lines (m ∷ ms) ns = sent-append on (pushed on lines m.0 m.1) ms ns

-- ## Takes and sends in another order

-- What could be taken can still be taken after others were sent, and leaves the same lines.
pub taken-sent : (on : ℕ → Bool) (lines : List (List Token)) (ms ns : List (ℕ × Token)) (out : List (List Token)) → taken lines ms ≡ Some out
    → taken (sent on lines ns) ms ≡ Some (sent on out ns)
taken-sent on lines ms ns out e =
    let T = taken_from (sent on lines ns) ms front in
    T.1 ∙ ap Some (same_lines T.0 (sent on out ns) (long T.0 T.1) (λ l h. append_cancel_left (for_line l ms) (on_line T.0 l) (on_line (sent on out ns) l) (alike T.0 T.1 l (subst (λ n. l < n) (longer T.0 T.1) h))))
  where
    front : (l : ℕ) → (rest : List Token) × (on_line (sent on lines ns) l ≡ for_line l ms ++ rest)
    front l =
        let B = sent_behind on lines ns l in
        (on_line out l ++ B.0, B.1 ∙ ap (λ ts. ts ++ B.0) (on_taken lines ms out e l) ∙ append_assoc (for_line l ms) (on_line out l) B.0)

    longer : (left : List (List Token)) → taken (sent on lines ns) ms ≡ Some left → length left ≡ length lines
    longer left t = length_taken (sent on lines ns) ms left t ∙ length_sent on lines ns

    long : (left : List (List Token)) → taken (sent on lines ns) ms ≡ Some left → length left ≡ length (sent on out ns)
    long left t = longer left t ∙ sym (length_sent on out ns ∙ length_taken lines ms out e)

    alike : (left : List (List Token)) → taken (sent on lines ns) ms ≡ Some left → (l : ℕ) → l < length lines → for_line l ms ++ on_line left l ≡ for_line l ms ++ on_line (sent on out ns) l
    alike left t l h =
        sym (on_taken (sent on lines ns) ms left t l)
        ∙ on_sent on lines ns l (λ _. h)
        ∙ ap (λ ts. ts ++ cond (on l) (for_line l ns) []) (on_taken lines ms out e l)
        ∙ append_assoc (for_line l ms) (on_line out l) (cond (on l) (for_line l ns) [])
        ∙ ap (λ ts. for_line l ms ++ ts) (sym (on_sent on out ns l (λ _. subst (λ n. l < n) (sym (length_taken lines ms out e)) h)))

-- of one line, at most one of two owners has any
one_of_two : (of : ℕ → ℕ) (p q l : ℕ) (ms ns : List (ℕ × Token)) → p ≢ q → AllByRecursion (λ m. of m.0 ≡ p) ms → AllByRecursion (λ m. of m.0 ≡ q) ns
    → (for_line l ms ≡ []) ⊎ (for_line l ns ≡ [])
one_of_two of p q l ms ns apart a b = elim (cases_eq (of l) p) [
  | inl e ↦ inr (for_line-elsewhere of q l ns b (λ f. apart (sym e ∙ f)))
  | inr n ↦ inl (for_line-elsewhere of p l ms a n)
]

-- what two owners send goes to different lines, and may be sent in either order
pub sent-swap : (on : ℕ → Bool) (of : ℕ → ℕ) (p q : ℕ) (lines : List (List Token)) (ms ns : List (ℕ × Token)) → p ≢ q
    → AllByRecursion (λ m. of m.0 ≡ p) ms → AllByRecursion (λ m. of m.0 ≡ q) ns
    → sent on (sent on lines ms) ns ≡ sent on (sent on lines ns) ms
sent-swap on of p q lines ms ns apart a b = same_lines (sent on (sent on lines ms) ns) (sent on (sent on lines ns) ms) (long ms ns ∙ sym (long ns ms)) (λ l h. alike l (subst (λ n. l < n) (long ms ns) h))
  where
    long : (xs ys : List (ℕ × Token)) → length (sent on (sent on lines xs) ys) ≡ length lines
    long xs ys = length_sent on (sent on lines xs) ys ∙ length_sent on lines xs

    -- each line of either, if nothing of xs is on it
    apart_from : (xs ys : List (ℕ × Token)) (l : ℕ) → for_line l xs ≡ [] → on_line (sent on (sent on lines xs) ys) l ≡ on_line (sent on (sent on lines ys) xs) l
    apart_from xs ys l none = elim (cases_lt l (length lines)) [
      | inl h ↦ on_sent on (sent on lines xs) ys l (λ _. subst (λ n. l < n) (sym (length_sent on lines xs)) h)
          ∙ ap (λ ts. ts ++ cond (on l) (for_line l ys) []) (on_sent_none on lines xs l none)
          ∙ sym (on_sent on lines ys l (λ _. h))
          ∙ sym (on_sent_none on (sent on lines ys) xs l none)
      | inr h ↦ get_or_past (sent on (sent on lines xs) ys) l [] (subst (λ n. n ≤ l) (sym (long xs ys)) h) ∙ sym (get_or_past (sent on (sent on lines ys) xs) l [] (subst (λ n. n ≤ l) (sym (long ys xs)) h))
    ]

    alike : (l : ℕ) → l < length lines → on_line (sent on (sent on lines ms) ns) l ≡ on_line (sent on (sent on lines ns) ms) l
    alike l h = elim (one_of_two of p q l ms ns apart a b) [
      | inl e ↦ apart_from ms ns l e
      | inr e ↦ sym (apart_from ns ms l e)
    ]

-- two owners that can both take may take in either order, and leave the same lines
pub taken_both : (of : ℕ → ℕ) (p q : ℕ) (lines : List (List Token)) (ms ns : List (ℕ × Token)) (first other : List (List Token)) → p ≢ q
    → AllByRecursion (λ m. of m.0 ≡ p) ms → AllByRecursion (λ m. of m.0 ≡ q) ns
    → taken lines ms ≡ Some first → taken lines ns ≡ Some other
    → (both : List (List Token)) × (taken first ns ≡ Some both) × (taken other ms ≡ Some both)
taken_both of p q lines ms ns first other apart a b e f =
    let F = taken_from first ns (behind ms ns first other e f (λ l. one_of_two of p q l ms ns apart a b)) in
    let G = taken_from other ms (behind ns ms other first f e (λ l. one_of_two of q p l ns ms (λ x. apart (sym x)) b a)) in
    (F.0, F.1, G.1 ∙ ap Some (same F.0 G.0 F.1 G.1))
  where
    -- what the second takes is still at the front
    behind : (xs ys : List (ℕ × Token)) (left right : List (List Token)) → taken lines xs ≡ Some left → taken lines ys ≡ Some right
        → ((l : ℕ) → (for_line l xs ≡ []) ⊎ (for_line l ys ≡ [])) → (l : ℕ) → (rest : List Token) × (on_line left l ≡ for_line l ys ++ rest)
    behind xs ys left right x y one l = elim (one l) [
      | inl none ↦ (on_line right l, ap (λ ts. ts ++ on_line left l) (sym none) ∙ sym (on_taken lines xs left x l) ∙ on_taken lines ys right y l)
      | inr none ↦ (on_line left l, ap (λ ts. ts ++ on_line left l) (sym none))
    ]

    swapped : (us vs : List Token) → (us ≡ []) ⊎ (vs ≡ []) → us ++ vs ≡ vs ++ us
    swapped us vs one = elim one [
      | inl e ↦ rw e (sym (append-nil vs))
      | inr e ↦ rw e (append-nil us)
    ]

    whole : (xs ys : List (ℕ × Token)) (left last : List (List Token)) → taken lines xs ≡ Some left → taken left ys ≡ Some last
        → (l : ℕ) → on_line lines l ≡ (for_line l xs ++ for_line l ys) ++ on_line last l
    whole xs ys left last x y l = on_taken lines xs left x l ∙ ap (λ ts. for_line l xs ++ ts) (on_taken left ys last y l) ∙ sym (append_assoc (for_line l xs) (for_line l ys) (on_line last l))

    same : (left right : List (List Token)) → taken first ns ≡ Some left → taken other ms ≡ Some right → right ≡ left
    same left right x y = same_lines right left
        ((length_taken other ms right y ∙ length_taken lines ns other f) ∙ sym (length_taken first ns left x ∙ length_taken lines ms first e))
        (λ l h. append_cancel_left (for_line l ns ++ for_line l ms) (on_line right l) (on_line left l)
        (sym (whole ns ms other right f y l) ∙ whole ms ns first left e x l ∙ ap (λ ts. ts ++ on_line left l) (swapped (for_line l ms) (for_line l ns) (one_of_two of p q l ms ns apart a b))))
