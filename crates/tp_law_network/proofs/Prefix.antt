-- How what the device holds, and what a copy for it holds, relate to the journal.
use Rattle.std.proofs.Common.{◌≡◌, ℕ, ◌+◌, ◌-◌, ◌≤◌, List, [], ◌∷◌, ◌++◌, length, take, drop, get_or, sym, ap, subst, ◌∙◌, arith, append_assoc, append-nil, length-append, Option, Some}
use Rattle.tp_law_network.proofs.Lower.{drop-append_seam, take_at, Entry, Machine, Network, process, after, Cut, pre, post, made, Snapshot, Held, next_number, with_more, ArePossible, HasOrder}
use Rattle.tp_law_network.proofs.Choice.{length-pre-post}
use Rattle.tp_law_network.proofs.Reorder.{after_front, front_possible, same_behind}
use Rattle.tp_law_network.proofs.Stays.{HasCounts}
use Rattle.tp_law_network.proofs.Orders.{order_behind}

-- What is held leads where the first entries of the journal lead, as many as its number says, and they are no fewer
-- than `least`.
pub record Stands {Node : Type 0} (M : Machine Node) (start : Network Node) (journal : List Entry) (least : ℕ) (h : Held Node) : Type 0 where
  pub first : List Entry
  pub rest : List Entry
  pub parts : journal ≡ first ++ rest
  pub count : length first ≡ next_number h
  pub exact : after M h.network h.entries ≡ after M start first
  pub order : HasOrder M start first h.network h.entries h.base
  pub no_less : least ≤ length first

pub stands_taken : {Node : Type 0} (M : Machine Node) (start : Network Node) (journal : List Entry) (least : ℕ) (h : Held Node) → (S : Stands M start journal least h) → take (next_number h) journal ≡ S.first
stands_taken M start journal least h S = ap (λ es. take (next_number h) es) S.parts ∙ take_at S.first S.rest (next_number h) S.count

-- How the book's entries relate to the journal. Up to where the tail of the kept cut reached they are others, which lead to the same
-- network. From there on they are equal: those on the device, those copied, and the rest.
pub record Kept {Node : Type 0} (M : Machine Node) (start kept : Network Node) (entries : List Entry) (base : ℕ) (journal : List Entry) (stored : ℕ) (backlog : List Entry) : Type 0 where
  pub front : List Entry
  pub tail : List Entry
  pub durable : List Entry
  pub rest : List Entry
  pub own : entries ≡ tail ++ (durable ++ (backlog ++ rest))
  pub all : journal ≡ front ++ (durable ++ (backlog ++ rest))
  pub count : length front ≡ base + length tail
  pub exact : after M kept tail ≡ after M start front
  pub order : HasOrder M start front kept tail base
  pub reach : stored ≡ length front + length durable

-- what the device then holds
abbrev pub held_of : {Node : Type 0} → Network Node → List Entry → List Entry → ℕ → Held Node
held_of kept tail durable base = record { network = kept; entries = tail ++ durable; base = base }

-- a cut by a list of counts
abbrev pub in_counts : List ℕ → Cut
in_counts counts p = get_or counts p 0

-- A cut and its tail were copied, when the book's entries were `before` and the journal `first`. Each process had all
-- its counted entries by then, so all since are outside the cut.
pub record Copied {Node : Type 0} (M : Machine Node) (start kept : Network Node) (entries : List Entry) (base : ℕ) (journal : List Entry) (stored : ℕ) (snapshot : Option Snapshot) (copy : Held Node) (upto : ℕ) : Type 0 where
  pub counts : List ℕ
  pub whole : HasCounts snapshot counts
  pub before : List Entry
  pub first : List Entry
  pub since : List Entry
  pub own : entries ≡ before ++ since
  pub all : journal ≡ first ++ since
  pub number : length first ≡ upto
  pub count : length first ≡ base + length before
  pub there : (p : ℕ) → in_counts counts p ≤ made (process kept.wires (length kept.nodes)) p before
  pub network : after M kept (pre (process kept.wires (length kept.nodes)) (in_counts counts) before) ≡ Some copy.network
  pub tail : copy.entries ≡ post (process kept.wires (length kept.nodes)) (in_counts counts) before
  pub size : copy.base ≡ base + length (pre (process kept.wires (length kept.nodes)) (in_counts counts) before)
  pub same : after M kept (pre (process kept.wires (length kept.nodes)) (in_counts counts) before ++ post (process kept.wires (length kept.nodes)) (in_counts counts) before) ≡ after M start first
  pub order : HasOrder M start first copy.network copy.entries copy.base
  pub no_less : stored ≤ length first

module _ {Node : Type 0} (M : Machine Node) (start kept : Network Node) (entries : List Entry) (base : ℕ) (journal : List Entry) (stored : ℕ) where
  -- ## The kept entries

  pub kept_stands : (backlog : List Entry) → (K : Kept M start kept entries base journal stored backlog) → Stands M start journal stored (held_of kept K.tail K.durable base)
  kept_stands backlog K = record {
    first = K.front ++ K.durable;
    rest = backlog ++ K.rest;
    parts = K.all ∙ sym (append_assoc K.front K.durable (backlog ++ K.rest));
    count = let c = K.count in omega (arith, length-append K.front K.durable, length-append K.tail K.durable);
    exact = same_behind M kept start K.tail K.front K.durable K.exact;
    order = order_behind M start K.front K.tail kept base K.durable K.order;
    no_less = let r = K.reach in omega (arith, length-append K.front K.durable);
  }

  -- a list of four parts, as three
  parts_with_group : (xs ys es more rest backlog : List Entry) → backlog ≡ es ++ more → xs ++ (ys ++ (backlog ++ rest)) ≡ ((xs ++ ys) ++ es) ++ (more ++ rest)
  parts_with_group xs ys es more rest backlog is =
      ap (λ b. xs ++ (ys ++ (b ++ rest))) is
      ∙ ap (λ b. xs ++ (ys ++ b)) (append_assoc es more rest)
      ∙ sym (append_assoc xs ys (es ++ (more ++ rest)))
      ∙ sym (append_assoc (xs ++ ys) es (more ++ rest))

  -- ## A group of the backlog

  module _ (backlog es more : List Entry) (begins : backlog ≡ es ++ more) (K : Kept M start kept entries base journal stored backlog) where
    -- with the group the device holds more of the journal
    pub group_stands : Stands M start journal stored (with_more (held_of kept K.tail K.durable base) es)
    group_stands = record {
      first = (K.front ++ K.durable) ++ es;
      rest = more ++ K.rest;
      parts = K.all ∙ parts_with_group K.front K.durable es more K.rest backlog begins;
      count = let c = K.count in omega (arith, length-append (K.front ++ K.durable) es, length-append K.front K.durable, length-append (K.tail ++ K.durable) es, length-append K.tail K.durable);
      exact = same_behind M kept start (K.tail ++ K.durable) (K.front ++ K.durable) es (same_behind M kept start K.tail K.front K.durable K.exact);
      order = order_behind M start (K.front ++ K.durable) (K.tail ++ K.durable) kept base es (order_behind M start K.front K.tail kept base K.durable K.order);
      no_less = let r = K.reach in omega (arith, length-append (K.front ++ K.durable) es, length-append K.front K.durable);
    }

    -- the group is possible after what is held, since it is a front of the book's entries
    pub group_possible : (last : Network Node) → after M kept entries ≡ Some last → ArePossible M (held_of kept K.tail K.durable base) es
    group_possible last now =
        let F = front_possible M kept last ((K.tail ++ K.durable) ++ es) (more ++ K.rest)
        (ap (after M kept) (sym (K.own ∙ parts_with_group K.tail K.durable es more K.rest backlog begins)) ∙ now) in
        record { last = F.0; is = F.1 }

    -- once its gate is synced, the group is kept
    group_moved : (P : Held Node → Type 0) → P (with_more (held_of kept K.tail K.durable base) es)
        → (L : Kept M start kept entries base journal (stored + length es) more) × P (held_of kept L.tail L.durable base)
    group_moved P p = (
      record {
        front = K.front;
        tail = K.tail;
        durable = K.durable ++ es;
        rest = K.rest;
        own = K.own ∙ parts_with_group K.tail K.durable es more K.rest backlog begins ∙ regroup K.tail;
        all = K.all ∙ parts_with_group K.front K.durable es more K.rest backlog begins ∙ regroup K.front;
        count = K.count;
        exact = K.exact;
        order = K.order;
        reach = let r = K.reach in omega (arith, length-append K.durable es);
      },
      subst P (ap (λ xs. record { network = kept; entries = xs; base = base }) (append_assoc K.tail K.durable es)) p,
    )
      where
        regroup : (xs : List Entry) → ((xs ++ K.durable) ++ es) ++ (more ++ K.rest) ≡ xs ++ ((K.durable ++ es) ++ (more ++ K.rest))
        regroup xs = ap (λ ys. ys ++ (more ++ K.rest)) (append_assoc xs K.durable es) ∙ append_assoc xs (K.durable ++ es) (more ++ K.rest)

    pub group_kept : (P : Held Node → Type 0) → P (with_more (held_of kept K.tail K.durable base) es)
        → (L : Kept M start kept entries base journal (stored + length es) (drop (length es) backlog)) × P (held_of kept L.tail L.durable base)
    group_kept P p =
        subst (λ left. (L : Kept M start kept entries base journal (stored + length es) left) × P (held_of kept L.tail L.durable base))
        (sym (ap (drop (length es)) begins ∙ drop-append_seam es more)) (group_moved P p)

  -- ## The book grows, and is copied

  pub kept_grows : (backlog : List Entry) (e : Entry) (P : Held Node → Type 0) → (K : Kept M start kept entries base journal stored backlog) → P (held_of kept K.tail K.durable base)
      → (L : Kept M start kept (entries ++ e ∷ []) base (journal ++ e ∷ []) stored backlog) × P (held_of kept L.tail L.durable base)
  kept_grows backlog e P K p = (
    record {
      front = K.front;
      tail = K.tail;
      durable = K.durable;
      rest = K.rest ++ e ∷ [];
      own = ap (λ es. es ++ e ∷ []) K.own ∙ regroup K.tail;
      all = ap (λ es. es ++ e ∷ []) K.all ∙ regroup K.front;
      count = K.count;
      exact = K.exact;
      order = K.order;
      reach = K.reach;
    },
    p,
  )
    where
      regroup : (xs : List Entry) → (xs ++ (K.durable ++ (backlog ++ K.rest))) ++ e ∷ [] ≡ xs ++ (K.durable ++ (backlog ++ (K.rest ++ e ∷ [])))
      regroup xs =
          append_assoc xs (K.durable ++ (backlog ++ K.rest)) (e ∷ [])
          ∙ ap (λ ys. xs ++ ys) (append_assoc K.durable (backlog ++ K.rest) (e ∷ []))
          ∙ ap (λ ys. xs ++ (K.durable ++ ys)) (append_assoc backlog K.rest (e ∷ []))

  -- the backlog is copied again: all entries after those on the device
  pub copy_kept : (backlog : List Entry) (P : Held Node → Type 0) → (K : Kept M start kept entries base journal stored backlog) → P (held_of kept K.tail K.durable base)
      → (L : Kept M start kept entries base journal stored (drop (stored - base) entries)) × P (held_of kept L.tail L.durable base)
  copy_kept backlog P K p =
      subst (λ left. (L : Kept M start kept entries base journal stored left) × P (held_of kept L.tail L.durable base)) (sym behind) (
        record {
          front = K.front;
          tail = K.tail;
          durable = K.durable;
          rest = [];
          own = K.own ∙ ap (λ ys. K.tail ++ (K.durable ++ ys)) (sym (append-nil (backlog ++ K.rest)));
          all = K.all ∙ ap (λ ys. K.front ++ (K.durable ++ ys)) (sym (append-nil (backlog ++ K.rest)));
          count = K.count;
          exact = K.exact;
          order = K.order;
          reach = K.reach;
        },
        p,
      )
    where
      behind : drop (stored - base) entries ≡ backlog ++ K.rest
      behind =
          ap (drop (stored - base)) (K.own ∙ sym (append_assoc K.tail K.durable (backlog ++ K.rest)))
          ∙ ap (λ n. drop n ((K.tail ++ K.durable) ++ (backlog ++ K.rest))) (let c = K.count in let r = K.reach in omega (arith, length-append K.tail K.durable))
          ∙ drop-append_seam (K.tail ++ K.durable) (backlog ++ K.rest)

  -- the copy is given up
  pub forget_kept : (backlog : List Entry) (P : Held Node → Type 0) → (K : Kept M start kept entries base journal stored backlog) → P (held_of kept K.tail K.durable base)
      → (L : Kept M start kept entries base journal stored []) × P (held_of kept L.tail L.durable base)
  forget_kept backlog P K p = (
    record { front = K.front; tail = K.tail; durable = K.durable; rest = backlog ++ K.rest; own = K.own; all = K.all; count = K.count; exact = K.exact; order = K.order; reach = K.reach },
    p,
  )

  -- ## A copied cut with its tail

  module _ (snapshot : Option Snapshot) (copy : Held Node) (upto : ℕ) (C : Copied M start kept entries base journal stored snapshot copy upto) where
    -- it leads where the journal led when it was copied
    pub copied_exact : after M copy.network copy.entries ≡ after M start C.first
    copied_exact =
        ap (after M copy.network) C.tail
        ∙ sym (after_front M kept copy.network (pre (process kept.wires (length kept.nodes)) (in_counts C.counts) C.before) (post (process kept.wires (length kept.nodes)) (in_counts C.counts) C.before) C.network)
        ∙ C.same

    pub copied_count : length C.first ≡ next_number copy
    copied_count =
        let c = C.count in
        let s = C.size in
        omega (arith, ap length C.tail, length-pre-post (process kept.wires (length kept.nodes)) (in_counts C.counts) C.before)

    pub copied_stands : Stands M start journal stored copy
    copied_stands = record { first = C.first; rest = C.since; parts = C.all; count = copied_count; exact = copied_exact; order = C.order; no_less = C.no_less }

    pub copied_grows : (e : Entry) → Copied M start kept (entries ++ e ∷ []) base (journal ++ e ∷ []) stored snapshot copy upto
    copied_grows e = record {
      counts = C.counts;
      whole = C.whole;
      before = C.before;
      first = C.first;
      since = C.since ++ e ∷ [];
      own = ap (λ es. es ++ e ∷ []) C.own ∙ append_assoc C.before C.since (e ∷ []);
      all = ap (λ es. es ++ e ∷ []) C.all ∙ append_assoc C.first C.since (e ∷ []);
      number = C.number;
      count = C.count;
      there = C.there;
      network = C.network;
      tail = C.tail;
      size = C.size;
      same = C.same;
      order = C.order;
      no_less = C.no_less;
    }

    -- the copy stays while the snapshot's counts stay
    pub copied_stays : (later : Option Snapshot) → HasCounts later C.counts → Copied M start kept entries base journal stored later copy upto
    copied_stays later whole = record {
      counts = C.counts;
      whole = whole;
      before = C.before;
      first = C.first;
      since = C.since;
      own = C.own;
      all = C.all;
      number = C.number;
      count = C.count;
      there = C.there;
      network = C.network;
      tail = C.tail;
      size = C.size;
      same = C.same;
      order = C.order;
      no_less = C.no_less;
    }
