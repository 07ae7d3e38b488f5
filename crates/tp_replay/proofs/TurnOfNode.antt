-- What a node does in a turn: it takes tokens one after the other, and then makes steps.
use Rattle.std.proofs.Common.{◌≡◌, ℕ, ◌+◌, ◌<◌, ◌≤◌, List, [], ◌∷◌, ◌++◌, length, map, take, drop, get_or, refl, sym, ap, subst, ◌∙◌, arith, Option, Some, None, slice_get, append-nil}
use Rattle.tp_replay.proofs.Lower.{append_assoc, take_more, drop_more, take-append-drop, Token, NodeState, ◌>>=◌, steps, took_all, turned, t414, took, on_link, bind_some}

-- a node with what it sent
abbrev After : Type 0
After = NodeState × List (ℕ × Token)

-- what is sent after other tokens
abbrev behind : List (ℕ × Token) → After → Option After
behind sent rest = Some (rest.0, sent ++ rest.1)

-- ## Tokens

-- some tokens, and then others
pub took_both : (xs ys : List (ℕ × Token)) (n : NodeState) (mid : After) → took_all t414 xs n ≡ Some mid
    → took_all t414 (xs ++ ys) n ≡ (took_all t414 ys mid.0 >>= λ rest. Some (rest.0, mid.1 ++ rest.1))
unfolding took_all
took_both [] ys n mid e =
    let is : ◌≡◌ {A = After} (n, []) mid = cc in
    subst (λ (m : After). took_all t414 ys n ≡ (took_all t414 ys m.0 >>= λ rest. Some (rest.0, m.1 ++ rest.1))) is (go (took_all t414 ys n))
  where
    go : (o : Option After) → o ≡ (o >>= behind [])
    go None = refl
    go (Some r) = refl
took_both (x ∷ xs) ys n mid e =
    let F = bind_some (took n x.0 x.1) _ mid e in
    let R = bind_some (took_all t414 xs F.0.0) _ mid F.2 in
    let is : ◌≡◌ {A = After} (R.0.0, F.0.1 ++ R.0.1) mid = cc in
    ap (λ o. o >>= λ first. took_all t414 (xs ++ ys) first.0 >>= behind first.1) F.1
    ∙ ap (λ (o : Option After). o >>= behind F.0.1) (took_both xs ys F.0.0 R.0 R.1)
    ∙ go F.0.1 R.0.1 (took_all t414 ys R.0.0)
    ∙ ap (λ (m : After). took_all t414 ys m.0 >>= λ rest. Some (rest.0, m.1 ++ rest.1)) is
  where
    go : (us vs : List (ℕ × Token)) (o : Option After) → ((o >>= behind vs) >>= behind us) ≡ (o >>= behind (us ++ vs))
    go us vs None = refl
    go us vs (Some r) = ap (λ ms. Some (r.0, ms)) (sym (append_assoc us vs r.1))

-- one token
took_single : (m : ℕ × Token) (n : NodeState) (after : After) → took n m.0 m.1 ≡ Some after → took_all t414 (m ∷ []) n ≡ Some after
unfolding took_all
took_single m n after e = ap (λ o. o >>= λ first. Some (first.0, first.1 ++ [])) e ∙ ap (λ ms. Some (after.0, ms)) (append-nil after.1)

-- the next token, which the node can take
pub took_next : (tokens : List (ℕ × Token)) (i : ℕ) (d : ℕ × Token) → i < length tokens → (n mid after : NodeState) (before out sent : List (ℕ × Token)) → took_all t414 (take i tokens) n ≡ Some (mid, before)
    → took mid (get_or tokens i d).0 (get_or tokens i d).1 ≡ Some (after, out) → sent ≡ before ++ out → took_all t414 (take (i + 1) tokens) n ≡ Some (after, sent)
took_next tokens i d below n mid after before out sent so_far one are =
    let it = get_or tokens i d in
    ap (λ ms. took_all t414 ms n) (take_more tokens i d below) ∙ took_both (take i tokens) (it ∷ []) n (mid, before) so_far
    ∙ ap (λ o. o >>= λ rest. Some (rest.0, before ++ rest.1)) (took_single it mid (after, out) one) ∙ ap (λ ms. Some (after, ms)) (sym are)

-- and which it can't
pub took_stops : (tokens : List (ℕ × Token)) (i : ℕ) (d : ℕ × Token) → i < length tokens → (n mid : NodeState) (before : List (ℕ × Token)) → took_all t414 (take i tokens) n ≡ Some (mid, before)
    → took mid (get_or tokens i d).0 (get_or tokens i d).1 ≡ None → took_all t414 tokens n ≡ None
unfolding took_all
took_stops tokens i d below n mid before so_far none =
    let it = get_or tokens i d in
    let rest = drop (i + 1) tokens in
    ap (λ ms. took_all t414 ms n) (sym (take-append-drop i tokens) ∙ ap (λ ms. take i tokens ++ ms) (drop_more tokens i d below)) ∙ took_both (take i tokens) (it ∷ rest) n (mid, before) so_far
    ∙ ap (λ (o : Option After). (o >>= λ first. took_all t414 rest first.0 >>= behind first.1) >>= behind before) none

-- ## Steps after them

pub turned_all : (tokens : List (ℕ × Token)) (count : ℕ) (n mid after : NodeState) (xs ys : List (ℕ × Token)) → took_all t414 tokens n ≡ Some (mid, xs) → steps t414 count mid ≡ Some (after, ys)
    → turned t414 tokens count n ≡ Some (after, xs ++ ys)
unfolding turned
turned_all tokens count n mid after xs ys took_them made =
    ap (λ o. o >>= λ first. steps t414 count first.0 >>= λ rest. Some (rest.0, first.1 ++ rest.1)) took_them ∙ ap (λ o. o >>= λ rest. Some (rest.0, xs ++ rest.1)) made

pub turned_none : (tokens : List (ℕ × Token)) (count : ℕ) (n : NodeState) → took_all t414 tokens n ≡ None → turned t414 tokens count n ≡ None
unfolding turned
turned_none tokens count n none = ap (λ o. o >>= λ first. steps t414 count first.0 >>= λ rest. Some (rest.0, first.1 ++ rest.1)) none

pub turned_short : (tokens : List (ℕ × Token)) (count : ℕ) (n mid : NodeState) (xs : List (ℕ × Token)) → took_all t414 tokens n ≡ Some (mid, xs) → steps t414 count mid ≡ None → turned t414 tokens count n ≡ None
unfolding turned
turned_short tokens count n mid xs took_them none =
    ap (λ o. o >>= λ first. steps t414 count first.0 >>= λ rest. Some (rest.0, first.1 ++ rest.1)) took_them ∙ ap (λ o. o >>= λ rest. Some (rest.0, xs ++ rest.1)) none

-- a node answers a token by one at most
pub at_most_one : (link : ℕ) (answer : Option Token) → length (on_link link answer) ≤ 1
at_most_one link None = omega arith
at_most_one link (Some token) = omega arith
