-- What a node receives: links in order, taken off the fronts of their lines, up to each line's first Marker.
use Rattle.std.proofs.Common.{◌≡◌, ℕ, ◌+◌, ◌*◌, ◌<◌, ◌≤◌, true, List, [], ◌∷◌, ◌++◌, length, map, drop, set, get_or, refl, sym, ap, subst, ◌∙◌, arith, add-one, drop-cons, Option, Some, None, IsSome, slice_get, length-append}
use Rattle.std.specs.Prelude.{is_some}
use Rattle.tp_book.proofs.Lower.{AllByRecursion, true≢false, length-map, map-append, drop_all, Token, Data, Ack, Marker, Received, Nothing, JustData, JustAck, DataThenAck, AckThenData, WireEnd, before, on_line, taken, acks, datas, by_line, by_link, incoming, received, line_there, taken_cons}
use Rattle.tp_book.specs.FirstTwo.{by_two}

-- ## The tokens of all links

pub links_from : (links : List Received) (k : ℕ) → k < length links → by_link k (drop k links) ≡ map (λ t. (k, t)) (received (get_or links k Nothing)) ++ by_link (k + 1) (drop (k + 1) links)
links_from links k below = ap (by_link k) (drop-cons links k Nothing below ∙ ap (λ n. get_or links k Nothing ∷ drop n links) (sym (add-one k)))

-- on one link at most two
received_length : (one : Received) → length (received one) ≤ 2
received_length Nothing = omega arith
received_length (JustData byte) = omega arith
received_length JustAck = omega arith
received_length (DataThenAck byte) = omega arith
received_length (AckThenData byte) = omega arith

pub received_few : (tokens : List (ℕ × Token)) (k : ℕ) (one : Received) (now : List (ℕ × Token)) → now ≡ tokens ++ map (λ t. (k, t)) (received one) → length tokens ≤ 2 * k → length now ≤ 2 * (k + 1)
received_few tokens k one now is few =
    omega (arith, few, received_length one, ap length is, length-append tokens (map (λ t. (k, t)) (received one)), length-map {B = ℕ × Token} (received one) (λ t. (k, t)))

-- by the lines that come in there
pub lines_from : (wires : List (Option WireEnd)) (N i : ℕ) (links : List Received) (k : ℕ) → k < length links
    → by_line wires N i (by_link k (drop k links)) ≡ by_line wires N i (map (λ t. (k, t)) (received (get_or links k Nothing))) ++ by_line wires N i (by_link (k + 1) (drop (k + 1) links))
lines_from wires N i links k below =
    ap (by_line wires N i) (links_from links k below)
    ∙ map-append (λ m. (incoming wires N i m.0, m.1)) (map (λ t. (k, t)) (received (get_or links k Nothing))) (by_link (k + 1) (drop (k + 1) links))

pub taken_few : (wires : List (Option WireEnd)) (N i : ℕ) (tokens : List (ℕ × Token)) (k : ℕ) (one : Received) (now : List (ℕ × Token)) → now ≡ tokens ++ by_line wires N i (map (λ t. (k, t)) (received one))
    → length tokens ≤ 2 * k → length now ≤ 2 * (k + 1)
taken_few wires N i tokens k one now is few =
    let mine = map {B = ℕ × Token} (λ t. (k, t)) (received one) in
    let same : length (by_line wires N i mine) ≡ length (received one) = length-map mine (λ m. (incoming wires N i m.0, m.1)) ∙ length-map {B = ℕ × Token} (received one) (λ t. (k, t)) in
    omega (arith, few, received_length one, ap length is, length-append tokens (by_line wires N i mine), same)

-- what is true of all elements is true of those at the front, and of those after them
all_front : {A : Type 0} (P : A → Type 0) (xs ys : List A) → AllByRecursion P (xs ++ ys) → AllByRecursion P xs
all_front P [] ys all = tt
all_front P (x ∷ xs) ys all = (all.0, all_front P xs ys all.1)

all_behind : {A : Type 0} (P : A → Type 0) (xs ys : List A) → AllByRecursion P (xs ++ ys) → AllByRecursion P ys
all_behind P [] ys all = all
all_behind P (x ∷ xs) ys all = all_behind P xs ys all.1

-- if all tokens are on lines with low numbers, so are those of the link whose turn it is
pub low_on : (wires : List (Option WireEnd)) (N i most : ℕ) (links : List Received) (k : ℕ) (tokens : List (ℕ × Token)) → k < length links
    → tokens ++ by_line wires N i (by_link k (drop k links)) ≡ by_line wires N i (by_link 0 links) → AllByRecursion (λ m. m.0 < most) (by_line wires N i (by_link 0 links))
    → AllByRecursion (λ m. m.0 < most) (by_line wires N i (map (λ t. (k, t)) (received (get_or links k Nothing))))
low_on wires N i most links k tokens below is low =
    let left = all_behind (λ m. m.0 < most) tokens (by_line wires N i (by_link k (drop k links))) (subst (AllByRecursion (λ m. m.0 < most)) (sym is) low) in
    all_front (λ m. m.0 < most) (by_line wires N i (map (λ t. (k, t)) (received (get_or links k Nothing)))) (by_line wires N i (by_link (k + 1) (drop (k + 1) links)))
    (subst (AllByRecursion (λ m. m.0 < most)) (lines_from wires N i links k below) left)

-- ## Taken off

there_is : {A : Type 0} (o : Option A) → is_some o ≡ true → (x : A) × (o ≡ Some x)
there_is None is = absurd (true≢false (sym is))
there_is (Some x) is = (x, refl)

-- a line without its front
abbrev pub without_front : List (List Token) → ℕ → List (List Token)
without_front lines line = set lines line (drop 1 (on_line lines line))

-- The tokens from a place on: the one there is at the front of its line, and the others can be taken after it.
pub record NextOff (lines : List (List Token)) (m : ℕ × Token) (ms rest : List (ℕ × Token)) : Type 0 where
  pub there : m.0 < length lines
  pub some : IsSome (taken (without_front lines m.0) rest)
  pub is : taken lines ms ≡ taken (without_front lines m.0) rest

pub next_off : (lines : List (List Token)) (tokens : List (ℕ × Token)) (k : ℕ) (d : ℕ × Token) → k < length tokens → IsSome (taken lines (drop k tokens))
    → NextOff lines (get_or tokens k d) (drop k tokens) (drop (k + 1) tokens)
next_off lines tokens k d below some =
    let m = get_or tokens k d in
    let rest = drop (k + 1) tokens in
    let from : drop k tokens ≡ m ∷ rest = drop-cons tokens k d below ∙ ap (λ j. m ∷ drop j tokens) (sym (add-one k)) in
    let all = there_is (taken lines (drop k tokens)) some in
    let T = taken_cons lines m rest all.0 (ap (taken lines) (sym from) ∙ all.1) in
    record { there = line_there lines m.0 m.1 T.0; some = ap is_some T.1; is = all.1 ∙ sym T.1 }

pub off_done : (lines : List (List Token)) (tokens : List (ℕ × Token)) (k : ℕ) → length tokens ≤ k → taken lines (drop k tokens) ≡ Some lines
unfolding taken
off_done lines tokens k past = ap (taken lines) (drop_all k tokens past)

-- ## Before the first Marker

none_before : (ts : List Token) → datas ts ≡ 0 → acks ts ≡ 0 → before ts ≡ []
none_before [] d a = refl
none_before (Data b ∷ ts) d a = absurd (omega (arith, d))
none_before (Ack ∷ ts) d a = absurd (omega (arith, a))
none_before (Marker ∷ ts) d a = refl

pub by_two-before : (ts : List Token) → datas ts ≤ 1 → acks ts ≤ 1 → received (by_two (slice_get ts 0) (slice_get ts 1)) ≡ before ts
by_two-before [] d a = refl
by_two-before (Data b ∷ []) d a = refl
by_two-before (Data b ∷ Data c ∷ ts) d a = absurd (omega (arith, d))
by_two-before (Data b ∷ Ack ∷ ts) d a = ap (λ us. Data b ∷ Ack ∷ us) (sym (none_before ts (omega (arith, d)) (omega (arith, a))))
by_two-before (Data b ∷ Marker ∷ ts) d a = refl
by_two-before (Ack ∷ []) d a = refl
by_two-before (Ack ∷ Data b ∷ ts) d a = ap (λ us. Ack ∷ Data b ∷ us) (sym (none_before ts (omega (arith, d)) (omega (arith, a))))
by_two-before (Ack ∷ Ack ∷ ts) d a = absurd (omega (arith, a))
by_two-before (Ack ∷ Marker ∷ ts) d a = refl
by_two-before (Marker ∷ ts) d a = refl
