-- An entry is possible in the network exactly if its process can do it by itself and its tokens are those that come next.
use Rattle.std.proofs.Common.{◌≡◌, ◌≢◌, ◌⊎◌, inl, inr, ℕ, ◌+◌, ◌<◌, ◌≤◌, true, cond, List, [], ◌∷◌, ◌++◌, length, refl, sym, ap, subst, ◌∙◌, arith, eq-eqb, Option, Some, None}
use Rattle.tp_law_network.proofs.Lower.{cases_eq, cases_lt, append_cancel_left, option_map, Token, Entry, Take, ◌>>=◌, Machine, Network, Own, OfNode, OfHost, own, put, has_wire, on_line, for_line, sent, process, takes, does, next, HasFourLinks, after, owner}
use Rattle.tp_law_network.proofs.Partial.{bind_some}
use Rattle.tp_law_network.proofs.Lines.{on_taken, taken_from}
use Rattle.tp_law_network.proofs.Local.{Step, SameShape, step_of, next_from, process_same, takes_same, own-host, own_host, own_node, own-node}
use Rattle.tp_law_network.proofs.Reorder.{after_last, after_shape}
use Rattle.tp_law_network.specs.Reach.{after_by, reach}
use Rattle.tp_law_network.specs.ByItself.{AloneState, doing_all, doing}
use Rattle.tp_law_network.specs.Arrivals.{arrivals, came, named}
use Rattle.tp_law_network.specs.Becomes.{BecomesByItself}
use Rattle.tp_law_network.specs.CanFollow.{CanFollow, StopsAtFault}
use Rattle.tp_law_network.proofs.Reach.{is_there, reach-goes, reach-stops, after-same, after_by-goes}
use Rattle.tp_law_network.proofs.ByItself.{GoesOn, arriving, doing-own, goes_on, node_there, owner_there}

-- a network has its own shape
same_shape : {Node : Type 0} (s : Network Node) → SameShape s s
same_shape s = record { wires = refl; nodes = refl; ports = refl; lines = refl }

-- a process that is there after entries was there before
own_still : {Node : Type 0} (s t : Network Node) → SameShape s t → (p : ℕ) (y : Own Node) → own t p ≡ Some y → (x : Own Node) × (own s p ≡ Some x)
own_still {Node} s t shape p y h = elim (cases_eq p (length s.nodes)) [
  | inl same ↦ (OfHost s.ports, ap (own s) same ∙ own-host s)
  | inr apart ↦ node y h apart
]
  where
    node : (y : Own Node) → own t p ≡ Some y → p ≢ length s.nodes → (x : Own Node) × (own s p ≡ Some x)
    node (OfNode n) h apart =
        let there = (own_node t p n h).0 in
        let N = node_there s.nodes p (subst (λ n. p < n) shape.nodes there) in
        (OfNode N.0, own-node s p apart ∙ ap (option_map OfNode) N.1)
    node (OfHost ports) h apart = absurd (apart ((own_host t p ports h).0 ∙ shape.nodes))

doing_all-append : {Node : Type 0} (M : Machine Node) (s : Network Node) (p : ℕ) (a : AloneState Node) (xs ys : List Entry) → doing_all M s p a (xs ++ ys) ≡ (doing_all M s p a xs >>= λ b. doing_all M s p b ys)
unfolding doing_all
doing_all-append M s p a [] ys = refl
doing_all-append {Node} M s p a (x ∷ xs) ys = go (doing M s p a x) (λ b. doing_all-append M s p b xs ys)
  where
    go : (first : Option (AloneState Node)) → ((b : AloneState Node) → doing_all M s p b (xs ++ ys) ≡ (doing_all M s p b xs >>= λ c. doing_all M s p c ys))
        → (first >>= λ b. doing_all M s p b (xs ++ ys)) ≡ ((first >>= λ b. doing_all M s p b xs) >>= λ c. doing_all M s p c ys)
    go None h = refl
    go (Some b) h = h b

doing_all-one : {Node : Type 0} (M : Machine Node) (s : Network Node) (p : ℕ) (a : AloneState Node) (e : Entry) (b : AloneState Node) → doing_all M s p a (e ∷ []) ≡ Some b → doing M s p a e ≡ Some b
unfolding doing_all
doing_all-one {Node} M s p a e b h = go (doing M s p a e) h
  where
    go : (o : Option (AloneState Node)) → (o >>= λ c. Some c) ≡ Some b → o ≡ Some b
    go None h = h
    go (Some c) h = h

-- a process of a network: each up to the host's
process_there : {Node : Type 0} (s : Network Node) (process : ℕ) → process ≤ length s.nodes → (x : Own Node) × (own s process ≡ Some x)
process_there s process there = elim (cases_eq process (length s.nodes)) [
  | inl same ↦ (OfHost s.ports, ap (own s) same ∙ own-host s)
  | inr apart ↦ (let N = node_there s.nodes process (omega (arith, there, apart)) in (OfNode N.0, own-node s process apart ∙ ap (option_map OfNode) N.1))
]

module _ {Node : Type 0} (M : Machine Node) (four : HasFourLinks M) (s : Network Node) (there : (l : ℕ) → has_wire s.wires l ≡ true → l < length s.lines) (t : Network Node) (xs : List Entry) (leads : after M s xs ≡ Some t) where
  -- a process by itself, over the entries
  follows : (p : ℕ) (x : Own Node) → own s p ≡ Some x → GoesOn M s p (x, []) s t xs
  follows p x h = goes_on M four s there p (x, []) s t (same_shape s) h xs leads

  -- what has come on a line is what was taken there, and what is there
  came_there : (l : ℕ) → came M s l xs ≡ Some (named s l xs ++ on_line t.lines l)
  came_there l =
      let x = owner_there s l in
      let G = follows (owner (length s.nodes) l) x.0 x.1 in
      ap (λ o. (o >>= λ y. doing_all M s (owner (length s.nodes) l) (y, []) xs) >>= λ a. Some (arrivals s l a)) x.1
      ∙ ap (λ o. o >>= λ a. Some (arrivals s l a)) G.leads
      ∙ ap (λ ms. Some (on_line s.lines l ++ arriving (has_wire s.wires l) l ms)) G.sent
      ∙ ap Some (G.lines l refl)

  shape : SameShape s t
  shape = after_shape M four s t xs leads

  -- a process that is there becomes by itself what it is in the network
  pub becomes_by_itself : (process : ℕ) → process ≤ length s.nodes → BecomesByItself M s process xs t
  becomes_by_itself process there =
      let x = process_there s process there in
      let G = follows process x.0 x.1 in
      record {
        last = G.to;
        leads = ap (λ o. o >>= λ y. doing_all M s process (y, []) xs) x.1 ∙ G.leads;
        stands = G.stands;
        lines = λ l of. ap (λ ms. on_line s.lines l ++ arriving (has_wire s.wires l) l ms) G.sent ∙ G.lines l of;
      }

  -- ## A possible entry can follow

  module _ (e : Entry) (u : Network Node) (h : next M t e ≡ Some u) where
    S : Step M t e u
    S = step_of M t e u h

    whose : process t.wires (length t.nodes) e ≡ process s.wires (length s.nodes) e
    whose = process_same s t shape.wires shape.nodes e

    pub follows_possible : CanFollow M s xs e
    follows_possible =
        let x = own_still s t shape (process s.wires (length s.nodes) e) S.was (ap (own t) (sym whose) ∙ S.own_was) in
        let G = goes_on M four s there (process s.wires (length s.nodes) e) (x.0, []) s u (same_shape s) x.1 (xs ++ e ∷ []) (after_last M s t xs e leads ∙ h) in
        record {
          last = G.to;
          does = ap (λ o. o >>= λ y. doing_all M s (process s.wires (length s.nodes) e) (y, []) (xs ++ e ∷ [])) x.1 ∙ G.leads;
          next = λ l. (on_line S.out l, came_there l ∙ ap (λ ts. Some (named s l xs ++ ts)) (on_taken t.lines (takes t.wires (length t.nodes) e) S.out S.takes_out l ∙ ap (λ ms. for_line l ms ++ on_line S.out l) (takes_same s t shape.wires shape.nodes e)));
        }

  -- ## An entry that can follow is possible

  module _ (e : Entry) (F : CanFollow M s xs e) where
    whose_following : process t.wires (length t.nodes) e ≡ process s.wires (length s.nodes) e
    whose_following = process_same s t shape.wires shape.nodes e

    its : (x : Own Node) × (own s (process s.wires (length s.nodes) e) ≡ Some x) × (doing_all M s (process s.wires (length s.nodes) e) (x, []) (xs ++ e ∷ []) ≡ Some F.last)
    its = bind_some (own s (process s.wires (length s.nodes) e)) (λ x. doing_all M s (process s.wires (length s.nodes) e) (x, []) (xs ++ e ∷ [])) F.last F.does

    goes : GoesOn M s (process s.wires (length s.nodes) e) (its.0, []) s t xs
    goes = follows (process s.wires (length s.nodes) e) its.0 its.1

    doing_it : doing M s (process s.wires (length s.nodes) e) goes.to e ≡ Some F.last
    doing_it = doing_all-one M s (process s.wires (length s.nodes) e) goes.to e F.last (sym (doing_all-append M s (process s.wires (length s.nodes) e) (its.0, []) xs (e ∷ []) ∙ ap (λ o. o >>= λ b. doing_all M s (process s.wires (length s.nodes) e) b (e ∷ [])) goes.leads) ∙ its.2)

    change : (c : Own Node × List (ℕ × Token)) × (does M s.wires (length s.nodes) e goes.to.0 ≡ Some c) × (Some (c.0, goes.to.1 ++ c.1) ≡ Some F.last)
    change = bind_some (does M s.wires (length s.nodes) e goes.to.0) (λ c. Some (c.0, goes.to.1 ++ c.1)) F.last (sym (doing-own M s (process s.wires (length s.nodes) e) goes.to e refl) ∙ doing_it)

    front : (l : ℕ) → (rest : List Token) × (on_line t.lines l ≡ for_line l (takes t.wires (length t.nodes) e) ++ rest)
    front l =
        let N = F.next l in
        let both : Some (named s l xs ++ on_line t.lines l) ≡ Some (named s l xs ++ (for_line l (takes s.wires (length s.nodes) e) ++ N.0)) = sym (came_there l) ∙ N.1 in
        let same : named s l xs ++ on_line t.lines l ≡ named s l xs ++ (for_line l (takes s.wires (length s.nodes) e) ++ N.0) = cc in
        (N.0, append_cancel_left (named s l xs) (on_line t.lines l) (for_line l (takes s.wires (length s.nodes) e) ++ N.0) same ∙ ap (λ ms. for_line l ms ++ N.0) (sym (takes_same s t shape.wires shape.nodes e)))

    pub possible_of : (u : Network Node) × (next M t e ≡ Some u)
    possible_of =
        let T = taken_from t.lines (takes t.wires (length t.nodes) e) front in
        let made = put (record t { lines = sent (has_wire t.wires) T.0 change.0.1 }) (process t.wires (length t.nodes) e) change.0.0 in (
          made,
          next_from M t e made (record {
            out = T.0;
            takes_out = T.1;
            was = goes.to.0;
            own_was = ap (own t) whose_following ∙ goes.stands;
            now = change.0.0;
            sends = change.0.1;
            change = ap (λ wires. does M wires (length t.nodes) e goes.to.0) shape.wires ∙ ap (λ N. does M s.wires N e goes.to.0) shape.nodes ∙ change.1;
            makes = refl;
          }),
        )

-- ## Where entries stop

-- a front of a list is gone through, or the list stops within it
front_or_stop : {S : Type 0} (step : S → Entry → Option S) (s : S) (xs zs : List Entry)
    → ((t : S) × (after_by step s xs ≡ Some t) × (reach step s (xs ++ zs) ≡ length xs + reach step t zs)) ⊎ (reach step s (xs ++ zs) < length xs)
unfolding after_by
front_or_stop step s [] zs = inl (s, refl, omega arith)
front_or_stop step s (x ∷ xs) zs = elim (is_there (step s x)) [
  | inl y ↦ (let is = reach-goes step s y.0 x (xs ++ zs) y.1 in elim (front_or_stop step y.0 xs zs) [
    | inl f ↦ (let more = f.2 in inl (f.0, after_by-goes step s y.0 x xs y.1 ∙ f.1, omega (arith, is, more)))
    | inr less ↦ inr (omega (arith, is, less))
  ])
  | inr n ↦ (let is = reach-stops step s x (xs ++ zs) n in inr (omega (arith, is)))
]

-- The entries before the place where they stop can each follow those before them, and the one there can't.
pub stops_at_fault : {Node : Type 0} (M : Machine Node) → HasFourLinks M → (s : Network Node) → ((l : ℕ) → has_wire s.wires l ≡ true → l < length s.lines) → (es : List Entry) → StopsAtFault M s es (reach (next M) s es)
stops_at_fault {Node} M four s there es = record { before = before; at = at }
  where
    before : (xs ys : List Entry) (e : Entry) → es ≡ xs ++ e ∷ ys → length xs < reach (next M) s es → CanFollow M s xs e
    before xs ys e is h = elim (front_or_stop (next M) s xs (e ∷ ys)) [
      | inl f ↦ elim (is_there (next M f.0 e)) [
        | inl y ↦ follows_possible M four s there f.0 xs (after-same M s xs ∙ f.1) e y.0 y.1
        | inr n ↦ (let stop = reach-stops (next M) f.0 e ys n in let whole = f.2 in let same = ap (reach (next M) s) is in absurd (omega (arith, h, stop, whole, same)))
      ]
      | inr less ↦ (let same = ap (reach (next M) s) is in absurd (omega (arith, h, less, same)))
    ]

    at : (xs ys : List Entry) (e : Entry) → es ≡ xs ++ e ∷ ys → length xs ≡ reach (next M) s es → CanFollow M s xs e → ⊥
    at xs ys e is h F = elim (front_or_stop (next M) s xs (e ∷ ys)) [
      | inl f ↦ (let P = possible_of M four s there f.0 xs (after-same M s xs ∙ f.1) e F in
          let on = reach-goes (next M) f.0 P.0 e ys P.1 in let whole = f.2 in let same = ap (reach (next M) s) is in omega (arith, h, on, whole, same))
      | inr less ↦ (let same = ap (reach (next M) s) is in omega (arith, h, less, same))
    ]

-- A Take of a token that isn't the next one on its line stops them, or something before it does.
pub other_token_stops : {Node : Type 0} (M : Machine Node) → HasFourLinks M → (s : Network Node) → ((l : ℕ) → has_wire s.wires l ≡ true → l < length s.lines) → (xs ys : List Entry) (line : ℕ) (token : Token)
    → ((rest : List Token) → came M s line xs ≡ Some (named s line xs ++ token ∷ rest) → ⊥) → reach (next M) s (xs ++ Take line token ∷ ys) ≤ length xs
unfolding takes
other_token_stops M four s there xs ys line token other = elim (cases_lt (length xs) (reach (next M) s (xs ++ Take line token ∷ ys))) [
  | inl past ↦ (let F = (stops_at_fault M four s there (xs ++ Take line token ∷ ys)).before xs ys (Take line token) refl past in
      let N = F.next line in
      absurd (other N.0 (N.1 ∙ ap (λ b. Some (named s line xs ++ (cond b (token ∷ []) [] ++ N.0))) (eq-eqb line line refl))))
  | inr not ↦ not
]
