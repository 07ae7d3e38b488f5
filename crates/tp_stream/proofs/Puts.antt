-- What steps put of outputs, under the book's lock.
use Rattle.std.proofs.Common.{◌≡◌, ℕ, zero, suc, ◌+◌, ◌-◌, ◌≤◌, ◌<◌, inl, inr, true, List, [], ◌∷◌, ◌++◌, length, take, drop, set, get_or, refl, sym, ap, subst, ◌∙◌, arith, append-nil, length-append}
use Rattle.tp_stream.proofs.Lower.{drop-drop, take_all, NodeState, t414, Network, Port, plain_network, after, World, BookValue, next_in_book, world_of, port_in, shown_from, shown_of, IsAheadOf, HasPut, WasPutSafely, OutputValue, none_put, Ending}
use Rattle.tp_stream.specs.Put.{EachWith, EndsPut, HasHaltedAs, LeadsToBytes, are_put, port_or_fresh}
use Rattle.tp_stream.specs.Steps.{AreLeft, Extends, IsPartConfirmed, PutsLeft, PutsShown, PortsStand}

-- ## Bytes of one output

nothing_put : (old new : OutputValue) → new.port ≡ old.port → new.next ≡ old.next → HasPut old.next [] old.held new.held → Extends [] old new
nothing_put old new port next put = record { port = port; next = next ∙ (let none : old.next ≡ old.next + 0 = omega arith in none); put = put }

pub still_extends : (o : OutputValue) → Extends [] o o
still_extends o = nothing_put o o refl refl (none_put o.next [] o.held refl)

-- one that was done
pub puts_grew : (b : BookValue) (mark : ℕ) (old new : OutputValue) → (port_in b old.port).out_base ≤ old.next → WasPutSafely (shown_from b old.port mark old.next) old new → PutsShown b mark old new
puts_grew b mark old new low G = inr (low, record { port = G.port; next = G.next; put = G.put })

-- ## What confirms leave

left_still : (p : Port) → IsPartConfirmed p p
left_still p = record { base = omega arith; outputs = let none : p.out_base - p.out_base ≡ 0 = omega arith in ap (λ n. drop n p.outputs) (sym none) }

left_on : (p q r : Port) → IsPartConfirmed p q → IsPartConfirmed q r → IsPartConfirmed p r
left_on p q r one other =
    let low = one.base in
    let up = other.base in
    let all : q.out_base - p.out_base + (r.out_base - q.out_base) ≡ r.out_base - p.out_base = omega (arith, low, up) in
    record {
      base = omega (arith, low, up);
      outputs =
          other.outputs ∙ ap (drop (r.out_base - q.out_base)) one.outputs
          ∙ drop-drop (r.out_base - q.out_base) (q.out_base - p.out_base) p.outputs ∙ ap (λ n. drop n p.outputs) all;
    }

pub all_left : (b : BookValue) → AreLeft b b
all_left b p = left_still (port_in b p)

pub left_then : (b c d : BookValue) → AreLeft b c → AreLeft c d → AreLeft b d
left_then b c d one other p = left_on (port_in b p) (port_in c p) (port_in d p) (one p) (other p)

-- ## Where entries lead

nothing_in : {A : Type 0} (xs : List A) → length xs ≡ 0 → xs ≡ []
nothing_in [] e = refl
nothing_in (x ∷ xs) e = absurd (omega (arith, e))

-- if a mark is above all entries of a book, the journal that the flusher knows has all of them
pub all_in_journal : (start : Network NodeState) (w : World NodeState) (b : BookValue) → (A : IsAheadOf start w b) → next_in_book b ≤ w.mark → (A.more ≡ []) × (length w.journal ≡ next_in_book b)
all_in_journal start w b A stored =
    let many = A.many in
    let long = length-append w.journal A.more in
    let marked = A.marked in
    (nothing_in A.more (omega (arith, many, long, marked, stored)), omega (arith, many, long, marked, stored))

-- the first entries lead to the book
pub book_stands : (start : Network NodeState) (w : World NodeState) (b : BookValue) → IsAheadOf start w b → next_in_book b ≤ w.mark → PortsStand start w b
book_stands start w b A stored =
    let all = all_in_journal start w b A stored in
    let many = all.1 in
    let marked = A.marked in
    let whole : take (next_in_book b) w.journal ≡ w.journal = take_all (next_in_book b) w.journal (omega (arith, many)) in
    let front : take (next_in_book b) w.journal ≡ w.journal ++ A.more = whole ∙ sym (append-nil w.journal) ∙ ap (λ es. w.journal ++ es) (sym all.0) in
    record {
      number = next_in_book b;
      few = stored;
      all = omega (arith, many, marked);
      state = plain_network (world_of b).live;
      leads = ap (after t414 start) front ∙ A.leads;
      left = λ p. left_still (port_in b p);
    }

-- they still do once some outputs were confirmed
pub stands_left : (start : Network NodeState) (w : World NodeState) (b c : BookValue) → PortsStand start w b → AreLeft b c → PortsStand start w c
stands_left start w b c S left = record {
  number = S.number;
  few = S.few;
  all = S.all;
  state = S.state;
  leads = S.leads;
  left = λ p. left_on (port_or_fresh S.state p) (port_in b p) (port_in c p) (S.left p) (left p);
}

-- all of them do, to its ports as a stream ends
pub ends_put : (start : Network NodeState) (w : World NodeState) (b : BookValue) → IsAheadOf start w b → next_in_book b ≤ w.mark → (why : Ending) (outputs : List OutputValue)
    → are_put why (port_in b) outputs ≡ true → HasHaltedAs why (plain_network (world_of b).live) → EndsPut start w.journal why outputs
ends_put start w b A stored why outputs put halted =
    let all = all_in_journal start w b A stored in
    let whole : w.journal ≡ w.journal ++ A.more = sym (append-nil w.journal) ∙ ap (λ es. w.journal ++ es) (sym all.0) in
    record { state = plain_network (world_of b).live; leads = ap (after t414 start) whole ∙ A.leads; each = put; halted = halted }

-- the first ones of a list are as many as they are
front_of : (n : ℕ) (xs : List ℕ) → take n xs ≡ take (length (take n xs)) xs
front_of zero xs = refl
front_of (suc n) [] = refl
front_of (suc n) (x ∷ xs) = ap (λ l. x ∷ l) (front_of n xs)

front_behind : (k n : ℕ) (xs : List ℕ) → drop k (take n xs) ≡ take (length (drop k (take n xs))) (drop k xs)
front_behind zero n xs = front_of n xs
front_behind (suc k) zero xs = refl
front_behind (suc k) (suc n) [] = refl
front_behind (suc k) (suc n) (x ∷ xs) = front_behind k n xs

-- what a mark shows of what is left of a port is the first of what that had
shown_is : (p q : Port) (n from : ℕ) → IsPartConfirmed p q → q.out_base ≤ from
    → drop (from - q.out_base) (take n q.outputs) ≡ take (length (drop (from - q.out_base) (take n q.outputs))) (drop (from - p.out_base) p.outputs)
shown_is p q n from left up =
    let low = left.base in
    let all : q.out_base - p.out_base + (from - q.out_base) ≡ from - p.out_base = omega (arith, low, up) in
    let behind : drop (from - q.out_base) q.outputs ≡ drop (from - p.out_base) p.outputs =
    ap (drop (from - q.out_base)) left.outputs ∙ drop-drop (from - q.out_base) (q.out_base - p.out_base) p.outputs ∙ ap (λ m. drop m p.outputs) all in
    front_behind (from - q.out_base) n q.outputs ∙ ap (take (length (drop (from - q.out_base) (take n q.outputs)))) behind

pub shows_left : (start : Network NodeState) (w : World NodeState) (b c : BookValue) (mark port from : ℕ) → (S : PortsStand start w b) → AreLeft b c → (port_in c port).out_base ≤ from
    → LeadsToBytes start w.journal S.number port from (shown_from c port mark from)
shows_left start w b c mark port from S left up =
    let L : IsPartConfirmed (port_or_fresh S.state port) (port_in c port) = left_on (port_or_fresh S.state port) (port_in b port) (port_in c port) (S.left port) (left port) in
    record {
      state = S.state;
      leads = S.leads;
      unconfirmed = let low = L.base in omega (arith, low, up);
      are = shown_is (port_or_fresh S.state port) (port_in c port) (shown_of c port mark) from L up;
    }

-- exactly those below the mark do
pub shown_at : (start : Network NodeState) (w : World NodeState) (b : BookValue) (port from : ℕ) → PortsStand start w b → (port_in b port).out_base ≤ from
    → LeadsToBytes start w.journal w.mark port from (shown_from b port w.mark from)
shown_at start w b port from S up =
    let few = S.few in
    let all = S.all in
    let number : S.number ≡ w.mark = omega (arith, few, all) in
    subst (λ n. LeadsToBytes start w.journal n port from (shown_from b port w.mark from)) number (shows_left start w b b w.mark port from S (all_left b) up)

-- ## Outputs one after the other

pub each_same : (R : OutputValue → OutputValue → Type 0) → ((x : OutputValue) → R x x) → (xs : List OutputValue) → EachWith R xs xs
each_same R same [] = tt
each_same R same (x ∷ xs) = (same x, each_same R same xs)

pub each_like : (R S : OutputValue → OutputValue → Type 0) → ((x y : OutputValue) → R x y → S x y) → (xs ys : List OutputValue) → EachWith R xs ys → EachWith S xs ys
each_like R S like [] [] e = tt
each_like R S like [] (y ∷ ys) e = e
each_like R S like (x ∷ xs) [] e = e
each_like R S like (x ∷ xs) (y ∷ ys) e = (like x y e.0, each_like R S like xs ys e.1)

pub each_then : (R S T : OutputValue → OutputValue → Type 0) → ((x y z : OutputValue) → R x y → S y z → T x z) → (xs ys zs : List OutputValue) → EachWith R xs ys → EachWith S ys zs → EachWith T xs zs
each_then R S T both [] [] [] e f = tt
each_then R S T both [] [] (z ∷ zs) e f = f
each_then R S T both [] (y ∷ ys) zs e f = absurd e
each_then R S T both (x ∷ xs) [] zs e f = absurd e
each_then R S T both (x ∷ xs) (y ∷ ys) [] e f = f
each_then R S T both (x ∷ xs) (y ∷ ys) (z ∷ zs) e f = (both x y z e.0 f.0, each_then R S T both xs ys zs e.1 f.1)

-- the first `n` do, and the others are as they were
abbrev pub EachTo : (OutputValue → OutputValue → Type 0) → ℕ → List OutputValue → List OutputValue → Type 0
EachTo R zero xs ys = ys ≡ xs
EachTo R (suc n) [] [] = Unit {0}
EachTo R (suc n) [] (y ∷ ys) = ⊥
EachTo R (suc n) (x ∷ xs) [] = ⊥
EachTo R (suc n) (x ∷ xs) (y ∷ ys) = R x y × EachTo R n xs ys

more : (R : OutputValue → OutputValue → Type 0) (i : ℕ) (xs ys : List OutputValue) (d y : OutputValue) → i < length ys → EachTo R i xs ys → R (get_or ys i d) y → EachTo R (suc i) xs (set ys i y)
more R zero xs [] d y there e r = absurd (omega (arith, there))
more R zero xs (z ∷ zs) d y there e r = subst (λ l. EachTo R (suc zero) l (y ∷ zs)) e (r, refl)
more R (suc i) [] [] d y there e r = absurd (omega (arith, there))
more R (suc i) [] (z ∷ zs) d y there e r = absurd e
more R (suc i) (x ∷ xs) [] d y there e r = absurd e
more R (suc i) (x ∷ xs) (z ∷ zs) d y there e r = (e.0, more R i xs zs d y (omega (arith, there)) e.1 r)

pub each_more : (R : OutputValue → OutputValue → Type 0) (i : ℕ) (xs ys : List OutputValue) (d y : OutputValue) → i < length ys → EachTo R i xs ys → R (get_or ys i d) y → EachTo R (i + 1) xs (set ys i y)
each_more R i xs ys d y there e r = let one : suc i ≡ i + 1 = omega arith in subst (λ n. EachTo R n xs (set ys i y)) one (more R i xs ys d y there e r)

pub each_any : (R : OutputValue → OutputValue → Type 0) → ((x : OutputValue) → R x x) → (n : ℕ) (xs ys : List OutputValue) → EachTo R n xs ys → EachWith R xs ys
each_any R same zero xs ys e = subst (EachWith R xs) (sym e) (each_same R same xs)
each_any R same (suc n) [] [] e = tt
each_any R same (suc n) [] (y ∷ ys) e = e
each_any R same (suc n) (x ∷ xs) [] e = e
each_any R same (suc n) (x ∷ xs) (y ∷ ys) e = (e.0, each_any R same n xs ys e.1)

pub each_all : (R : OutputValue → OutputValue → Type 0) (n : ℕ) (xs ys : List OutputValue) → length xs ≤ n → EachTo R n xs ys → EachWith R xs ys
each_all R zero [] ys all e = subst (EachWith R []) (sym e) tt
each_all R zero (x ∷ xs) ys all e = absurd (omega (arith, all))
each_all R (suc n) [] [] all e = tt
each_all R (suc n) [] (y ∷ ys) all e = e
each_all R (suc n) (x ∷ xs) [] all e = e
each_all R (suc n) (x ∷ xs) (y ∷ ys) all e = (e.0, each_all R n xs ys (omega (arith, all)) e.1)

-- what is left of a book, put under one of its later states
pub puts_left : (b c : BookValue) (mark : ℕ) (x y : OutputValue) → AreLeft b c → PutsShown c mark x y → PutsLeft b mark x y
puts_left b c mark x y left puts = record { now = c; left = left; puts = puts }

pub left_nothing : (b : BookValue) (mark : ℕ) (x : OutputValue) → PutsLeft b mark x x
left_nothing b mark x = record { now = b; left = all_left b; puts = inl (still_extends x) }
