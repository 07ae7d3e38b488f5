-- Entries in order, and reorderings of them.
use Rattle.std.proofs.Common.{◌≡◌, ◌≢◌, List, [], ◌∷◌, ◌++◌, length, refl, sym, ap, subst, ◌∙◌, Option, Some, None, append_assoc}
use Rattle.tp_law_network.proofs.Lower.{AllByRecursion, fun_ext, Entry, ◌>>=◌, Machine, Network, process, next, HasFourLinks, after, AreIndependent, Reorder, same, swap}
use Rattle.tp_law_network.proofs.Partial.{bind_some}
use Rattle.tp_law_network.proofs.Local.{SameShape, next_shape, process_kept}
use Rattle.tp_law_network.proofs.Swap.{diamond, swaps_agree}

-- ## One list after another

pub after-append : {Node : Type 0} (M : Machine Node) (s : Network Node) (xs ys : List Entry) → after M s (xs ++ ys) ≡ (after M s xs >>= λ t. after M t ys)
unfolding after
after-append M s [] ys = refl
after-append {Node} M s (x ∷ xs) ys = go (next M s x) (λ t. after-append M t xs ys)
  where
    go : (first : Option (Network Node)) → ((t : Network Node) → after M t (xs ++ ys) ≡ (after M t xs >>= λ u. after M u ys))
        → (first >>= λ t. after M t (xs ++ ys)) ≡ ((first >>= λ t. after M t xs) >>= λ u. after M u ys)
    go None h = refl
    go (Some t) h = h t

-- after a list whose network is known
pub after_front : {Node : Type 0} (M : Machine Node) (s t : Network Node) (xs ys : List Entry) → after M s xs ≡ Some t → after M s (xs ++ ys) ≡ after M t ys
after_front M s t xs ys h = after-append M s xs ys ∙ ap (λ u. u >>= λ v. after M v ys) h

pub after_one : {Node : Type 0} (M : Machine Node) (s : Network Node) (e : Entry) → after M s (e ∷ []) ≡ next M s e
unfolding after
after_one {Node} M s e = go (next M s e)
  where
    go : (t : Option (Network Node)) → (t >>= λ u. Some u) ≡ t
    go None = refl
    go (Some u) = refl

pub after_last : {Node : Type 0} (M : Machine Node) (s t : Network Node) (xs : List Entry) (e : Entry) → after M s xs ≡ Some t → after M s (xs ++ e ∷ []) ≡ next M t e
after_last M s t xs e h = after_front M s t xs (e ∷ []) h ∙ after_one M t e

pub after_first : {Node : Type 0} (M : Machine Node) (s t : Network Node) (e : Entry) (es : List Entry) → next M s e ≡ Some t → after M s (e ∷ es) ≡ after M t es
unfolding after
after_first M s t e es h = rw h

-- a front of a possible list is possible, and leads to where the rest goes on
pub front_possible : {Node : Type 0} (M : Machine Node) (s t : Network Node) (xs ys : List Entry) → after M s (xs ++ ys) ≡ Some t
    → (u : Network Node) × (after M s xs ≡ Some u) × (after M u ys ≡ Some t)
front_possible M s t xs ys h = bind_some (after M s xs) (λ u. after M u ys) t (sym (after-append M s xs ys) ∙ h)

-- the first entry of a possible list is possible
pub first_possible : {Node : Type 0} (M : Machine Node) (s t : Network Node) (e : Entry) (es : List Entry) → after M s (e ∷ es) ≡ Some t
    → (u : Network Node) × (next M s e ≡ Some u) × (after M u es ≡ Some t)
unfolding after
first_possible M s t e es h = bind_some (next M s e) (λ u. after M u es) t h

-- the same entries after lists that lead to one network
pub same_behind : {Node : Type 0} (M : Machine Node) (s t : Network Node) (xs ys zs : List Entry) → after M s xs ≡ after M t ys → after M s (xs ++ zs) ≡ after M t (ys ++ zs)
same_behind M s t xs ys zs h = after-append M s xs zs ∙ ap (λ u. u >>= λ v. after M v zs) h ∙ sym (after-append M t ys zs)

-- entries keep the network's shape
pub after_shape : {Node : Type 0} (M : Machine Node) → HasFourLinks M → (s t : Network Node) (es : List Entry) → after M s es ≡ Some t → SameShape s t
unfolding after
after_shape M four s t [] h = let is : s ≡ t = cc in record { wires = ap (λ u. u.wires) (sym is); nodes = ap (λ u. length u.nodes) (sym is); ports = ap (λ u. length u.ports) (sym is); lines = ap (λ u. length u.lines) (sym is) }
after_shape M four s t (e ∷ es) h =
    let F = first_possible M s t e es h in
    let one = next_shape M four s e F.0 F.1 in
    let more = after_shape M four F.0 t es F.2 in
    record { wires = more.wires ∙ one.wires; nodes = more.nodes ∙ one.nodes; ports = more.ports ∙ one.ports; lines = more.lines ∙ one.lines }

-- each entry is of the same process at the later network
pub process_next : {Node : Type 0} (M : Machine Node) → HasFourLinks M → (s : Network Node) (e : Entry) (t : Network Node) → next M s e ≡ Some t → process t.wires (length t.nodes) ≡ process s.wires (length s.nodes)
process_next M four s e t h = fun_ext (process_kept s t (next_shape M four s e t h))

-- ## Reorderings

module _ {Node : Type 0} (M : Machine Node) where
  pub reorder_trans : (s : Network Node) (xs ys zs : List Entry) → Reorder M s xs ys → Reorder M s ys zs → Reorder M s xs zs
  reorder_trans s xs ys zs (same es) r = r
  reorder_trans s xs ys zs (swap front e f back es at h i rest) r = swap front e f back zs at h i (reorder_trans s (front ++ f ∷ e ∷ back) es zs rest r)

  -- after a front whose network is known
  pub reorder_front : (s t : Network Node) (front xs ys : List Entry) → after M s front ≡ Some t → Reorder M t xs ys → Reorder M s (front ++ xs) (front ++ ys)
  reorder_front s t front xs ys h (same es) = same (front ++ es)
  reorder_front s t front xs ys h (swap before e f back es at g i rest) =
      subst (λ zs. Reorder M s zs (front ++ es)) (append_assoc front before (e ∷ f ∷ back))
      (swap (front ++ before) e f back (front ++ es) at (after_front M s t front before h ∙ g) i
      (subst (λ zs. Reorder M s zs (front ++ es)) (sym (append_assoc front before (f ∷ e ∷ back))) (reorder_front s t front (before ++ f ∷ e ∷ back) es h rest)))

  -- before a back
  pub reorder_back : (s : Network Node) (xs ys back : List Entry) → Reorder M s xs ys → Reorder M s (xs ++ back) (ys ++ back)
  reorder_back s xs ys back (same es) = same (es ++ back)
  reorder_back s xs ys back (swap front e f between es at h i rest) =
      subst (λ zs. Reorder M s zs (es ++ back)) (sym (append_assoc front (e ∷ f ∷ between) back))
      (swap front e f (between ++ back) (es ++ back) at h i
      (subst (λ zs. Reorder M s zs (es ++ back)) (append_assoc front (f ∷ e ∷ between) back) (reorder_back s (front ++ f ∷ e ∷ between) es back rest)))

  -- two independent neighbours at the front
  pub reorder_two : (s : Network Node) (e f : Entry) (back : List Entry) → AreIndependent M s e f → Reorder M s (e ∷ f ∷ back) (f ∷ e ∷ back)
  unfolding after
  reorder_two s e f back i = swap [] e f back (f ∷ e ∷ back) s refl i (same (f ∷ e ∷ back))

  module _ (four : HasFourLinks M) where
    -- Both orders lead to one network.
    pub reorder_end : (s : Network Node) (xs ys : List Entry) → Reorder M s xs ys → after M s xs ≡ after M s ys
    reorder_end s xs ys (same es) = refl
    reorder_end s xs ys (swap front e f back es at h i rest) =
        after_front M s at front (e ∷ f ∷ back) h
        ∙ after_first M at i.between e (f ∷ back) i.e_first
        ∙ after_first M i.between i.last f back i.f_then
        ∙ sym (after_first M i.other i.last e back (swaps_agree M four at e f i).1)
        ∙ sym (after_first M at i.other f (e ∷ back) (swaps_agree M four at e f i).0)
        ∙ sym (after_front M s at front (f ∷ e ∷ back) h)
        ∙ reorder_end s (front ++ f ∷ e ∷ back) es rest

    -- An entry that is possible before a list of entries of other processes may go before it.
    pub move_left : (s t u : Network Node) (es : List Entry) (e : Entry) → after M s es ≡ Some u → next M s e ≡ Some t
        → AllByRecursion (λ f. process s.wires (length s.nodes) f ≢ process s.wires (length s.nodes) e) es → Reorder M s (es ++ e ∷ []) (e ∷ es)
    move_left s t u [] e h g apart = same (e ∷ [])
    move_left s t u (f ∷ es) e h g apart =
        let F = first_possible M s u f es h in
        let D = diamond M four s f e F.0 t F.1 g apart.0 in
        reorder_trans s (f ∷ es ++ e ∷ []) (f ∷ e ∷ es) (e ∷ f ∷ es)
        (reorder_front s F.0 (f ∷ []) (es ++ e ∷ []) (e ∷ es) (after_one M s f ∙ F.1)
        (move_left F.0 D.0 u es e F.2 D.1 (subst (λ of. AllByRecursion (λ x. of x ≢ of e) es) (sym (process_next M four s f F.0 F.1)) apart.1)))
        (reorder_two s f e es (record { between = F.0; e_first = F.1; last = D.0; f_then = D.1; apart = apart.0; other = t; f_already = g }))
