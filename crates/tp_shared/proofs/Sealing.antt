-- Seals beside a book that grew, and its roll.
use Rattle.std.proofs.Common.{◌≡◌, ℕ, zero, suc, ◌+◌, ◌<◌, Bool, true, false, inl, inr, List, [], ◌∷◌, ◌++◌, length, set, drop, get_or, refl, sym, ap, subst, ◌∙◌, arith, Option, Some, None, slice_get, length-append, ◌≤◌}
use Rattle.std.specs.Prelude.{◌-◌, IsSome, is_some, Result, Ok, Err, is_ok, MatchResult}
use Rattle.tp_shared.proofs.Lower.{AllByRecursion, enumerate_from, cases_eq, append-nil, drop_at, slice_get_within, cons≢nil, slice_get-set_same, slice_get-set_other, Sound, item_of, Entry, Turns, Received, NodeState, t414, Begin, happens, IsNodeOfBytes, NodeContents, has_recorded_in, Refusal, BookValue, agreed, next_in_book, world_of, FitsRoom, one_act, Opened, IsNodeOf, entries_among, IsOpenedIn, sent_in, turn_received, opened_behind}
use Rattle.tp_shared.specs.Agreement.{Agreement, answered_with, at_rest, takes_opened}
use Rattle.tp_shared.specs.BookActs.{Grown, NodeActed, HostActed}
use Rattle.tp_shared.specs.Gains.{HoldNoted}
use Rattle.tp_shared.specs.Seals.{Stage, IsSealOf, Sealed, IsTied, KeyShows, ShowsOpen}
use Rattle.tp_shared.specs.declared.nodes.place.Place.{Place}
use Rattle.tp_shared.specs.declared.nodes.seal.NodeSeal.{NodeSeal}
use Rattle.tp_shared.proofs.Waiting.{agreed_many, others_wait, waits_on}

-- ## Seals

pub get_within : {A : Type 0} (xs : List A) (i : ℕ) → i < length xs → (x : A) × (slice_get xs i ≡ Some x)
get_within [] i h = absurd (omega (arith, h))
get_within (x ∷ xs) zero h = (x, refl)
get_within (x ∷ xs) (suc i) h = get_within xs i (omega (arith, h))

-- a node that shows what its seal shows is the book's node
pub node_of_seal : (name : ℕ) (a : Agreement) (flag : Bool) (seal_name : ℕ) (b : BookValue) (i : ℕ) (n : NodeContents) → IsSealOf name a flag seal_name b i → a.node ≡ n.live → a.frozen ≡ n.frozen → IsNodeOfBytes n.live → IsNodeOf b i n
node_of_seal name a flag seal_name b i n S node frozen image = record {
  there = S.node ∙ ap Some node;
  image = image;
  recorded = λ some. S.recorded (subst IsSome (sym frozen) some);
  kept = λ here there h t. S.kept here there (frozen ∙ h) t;
}

-- what is in a list
pub get_found : {A : Type 0} (xs : List A) (i : ℕ) (x d : A) → slice_get xs i ≡ Some x → get_or xs i d ≡ x
get_found [] i x d e = cc
get_found (y ∷ ys) zero x d e = cc
get_found (y ∷ ys) (suc i) x d e = get_found ys i x d e

-- the seal of a node that no turn is open for
pub rest_seal : (name : ℕ) (s : NodeSeal) (b : BookValue) (i : ℕ) (n : NodeContents) → IsNodeOf b i n → slice_get b.runs i ≡ Some false → s.seal.name ≡ name → s.seal.value.state ≡ at_rest n → s.frozen ≡ is_some n.frozen
    → IsSealOf name s.seal.value.state s.frozen s.seal.name b i
rest_seal name s b i n N free named shows flag =
    subst (λ a. IsSealOf name a s.frozen s.seal.name b i) (sym shows)
    (record {
      named = named;
      node = N.there;
      recorded = N.recorded;
      kept = N.kept;
      reserved = free;
      received = λ takes given. cc;
      flag = flag;
    })

-- the seal of a node whose turn's opening was answered
pub answered_seal : (name : ℕ) (s : NodeSeal) (b : BookValue) (i : ℕ) (n : NodeContents) (answer : Result Opened Refusal) → IsOpenedIn answer b i n → ((takes : List Received) → takes_opened answer ≡ Some takes → b.form ≡ Turns)
    → slice_get b.runs i ≡ Some (is_ok answer) → s.seal.name ≡ name → s.seal.value.state ≡ answered_with b i n answer → s.frozen ≡ is_some n.frozen → IsSealOf name s.seal.value.state s.frozen s.seal.name b i
answered_seal name s b i n (Ok opened) O form runs named shows flag =
    let B = opened_behind b i opened n O in
    subst (λ a. IsSealOf name a s.frozen s.seal.name b i) (sym shows)
    (record {
      named = named;
      node = B.is.there ∙ ap Some (sym (get_found (agreed b.state) i B.before.live n.live B.is.there));
      recorded = λ some. B.is.recorded (subst IsSome B.kept some);
      kept = λ here there h t. B.is.kept here there (sym B.kept ∙ h) t;
      reserved = runs;
      received = λ takes given. record { form = form takes given; fronts = B.received takes given };
      flag = flag;
    })
answered_seal name s b i n (Err e) O form runs named shows flag =
    rest_seal name s b i n O runs named (shows ∙ ap (λ x. record { node = x; frozen = n.frozen; reserved = false; takes = None }) (get_found (agreed b.state) i n.live n.live O.there)) flag

-- what its place's key shows
pub answered_shows : (place : Place) (b : BookValue) (i : ℕ) (answer : Result Opened Refusal) → place.key.value.state ≡ answered_with b i place.node answer → IsOpenedIn answer b i place.node
    → MatchResult answer (λ opened. ShowsOpen place (turn_received opened) (sent_in opened)) (λ e. KeyShows place)
answered_shows place b i (Ok opened) shown O =
    let B = opened_behind b i opened place.node O in
    record {
      before = B.before.live;
      shown = shown ∙ ap (λ x. record { node = x; frozen = place.node.frozen; reserved = true; takes = turn_received opened }) (get_found (agreed b.state) i B.before.live place.node.live B.is.there);
      was = B.is.image;
      took = B.took;
      image = B.image;
    }
answered_shows place b i (Err e) shown O = record {
  shown = shown ∙ ap (λ x. record { node = x; frozen = place.node.frozen; reserved = false; takes = None }) (get_found (agreed b.state) i place.node.live place.node.live O.there);
  image = O.image;
}

some_same : (x y : NodeSeal) → Some x ≡ Some y → x ≡ y
some_same x y e = cc

module _ (Are : List Entry → Type 0) (names : ℕ → ℕ) (seals : List NodeSeal) (b new : BookValue) (i : ℕ) (a : Agreement) (S : Sealed names seals b) (A : NodeActed Are i a b new) (below : i < length seals) where
  -- whether a turn of the node that was acted on is reserved
  pub reserved_after : slice_get new.runs i ≡ Some a.reserved
  reserved_after =
      let old = get_within seals i below in
      let was = S i old.0 old.1 in
      ap (λ rs. slice_get rs i) A.runs ∙ slice_get-set_same b.runs i a.reserved old.0.seal.value.state.reserved was.reserved

  -- the seal of the node that was acted on shows what it is then, and the others what they showed
  pub sealed_after : (s : NodeSeal) → IsSealOf (names i) s.seal.value.state s.frozen s.seal.name new i → Sealed names (set seals i s) new
  sealed_after s here j t e = elim (cases_eq j i) [
    | inl same ↦
        let old = get_within seals i below in
        let is : s ≡ t = some_same s t (sym (slice_get-set_same seals i s old.0 old.1) ∙ ap (slice_get (set seals i s)) (sym same) ∙ e) in
        subst (λ k. IsSealOf (names k) t.seal.value.state t.frozen t.seal.name new k) (sym same)
        (subst (λ (x : NodeSeal). IsSealOf (names i) x.seal.value.state x.frozen x.seal.name new i) is here)
    | inr other ↦
        let was = S j t (sym (slice_get-set_other seals i j s other) ∙ e) in
        record {
          named = was.named;
          node = ap (λ ns. slice_get ns j) A.nodes ∙ slice_get-set_other (agreed b.state) i j a.node other ∙ was.node;
          recorded = λ some. A.recorded j other ∙ was.recorded some;
          kept = λ here there h t. was.kept here there h (sym (A.frozen j other) ∙ t);
          reserved = ap (λ rs. slice_get rs j) A.runs ∙ slice_get-set_other b.runs i j a.reserved other ∙ was.reserved;
          received = λ takes given. others_wait b new j i t.seal.value.state.node takes A.grown.acts A.grown.did was.node (λ same. other (sym same)) A.own A.grown.form (was.received takes given);
          flag = was.flag;
        }
  ]

-- no node has changed
pub sealed_still : (Are : List Entry → Type 0) (names : ℕ → ℕ) (seals : List NodeSeal) (b new : BookValue) → Sealed names seals b → HostActed Are b new → Sealed names seals new
sealed_still Are names seals b new S H i s e =
    let was = S i s e in
    let below = slice_get_within (agreed b.state) i s.seal.value.state.node was.node in
    let many = agreed_many b.state i s.seal.value.state.node was.node in
    record {
      named = was.named;
      node = ap (λ ns. slice_get ns i) H.nodes ∙ was.node;
      recorded = λ some. H.recorded i ∙ was.recorded some;
      kept = λ here there h t. was.kept here there h (ap (λ xs. get_or xs i None) (sym H.frozen) ∙ t);
      reserved = ap (λ rs. slice_get rs i) H.runs ∙ was.reserved;
      received = λ takes given.
          others_wait b new i (length b.state.start.nodes) s.seal.value.state.node takes H.grown.acts H.grown.did was.node (λ same. omega (arith, same, below, many)) H.own H.grown.form (was.received takes given);
      flag = was.flag;
    }

none_frozen : (given : Option NodeState) → (IsSome given → false ≡ true) → given ≡ None
none_frozen None h = refl
none_frozen (Some x) h = let bad : false ≡ true = h refl in cc

-- if no snapshot runs, no node is frozen; this stays true of whatever the book then has frozen
pub sealed_begun : (names : ℕ → ℕ) (seals : List NodeSeal) (b new : BookValue) → Sealed names seals b → b.state.snapshot ≡ None → agreed new.state ≡ agreed b.state → new.runs ≡ b.runs → new.form ≡ b.form
    → happens t414 (world_of b) Begin ≡ Some (world_of new) → Sealed names seals new
sealed_begun names seals b new S idle nodes runs form act i s e =
    let was = S i s e in
    let none = none_frozen s.seal.value.state.frozen (λ some. ap (λ given. has_recorded_in given i) (sym idle) ∙ was.recorded some) in
    record {
      named = was.named;
      node = ap (λ ns. slice_get ns i) nodes ∙ was.node;
      recorded = λ some. let bad : false ≡ true = subst IsSome none some in cc;
      kept = λ here there h t. let bad = sym none ∙ h in cc;
      reserved = ap (λ rs. slice_get rs i) runs ∙ was.reserved;
      received = λ takes given.
          let W = was.received takes given in
          waits_on b new i takes (Begin ∷ []) (one_act (world_of b) (world_of new) Begin act) (tt, tt) (form ∙ W.form) W;
      flag = was.flag;
    }

-- ## The journal

module _ (Are : List Entry → Type 0) (b new : BookValue) (G : Grown Are b new) (before : ℕ) (many : before ≡ length b.state.entries) where
  pub entries_new : drop before new.state.entries ≡ entries_among G.acts
  entries_new = ap (drop before) G.entries_are ∙ drop_at b.state.entries (entries_among G.acts) before (sym many)

  -- the entries are those after all that were there
  pub all_after : (all now : List Entry) → now ≡ all ++ drop before new.state.entries → now ≡ all ++ entries_among G.acts
  all_after all now is = is ∙ ap (λ es. all ++ es) entries_new

  pub tied_after : (first : ℕ) (all now : List Entry) → IsTied first all b → now ≡ all ++ drop before new.state.entries → IsTied first now new
  tied_after first all now T is =
      let are : now ≡ all ++ entries_among G.acts = is ∙ ap (λ es. all ++ es) entries_new in
      record {
        are = are ∙ ap (λ es. es ++ entries_among G.acts) T.are ∙ sym G.history;
        next = let n = T.next in let l = ap length are ∙ length-append all (entries_among G.acts) in let m = ap length G.entries_are ∙ length-append b.state.entries (entries_among G.acts) in let base = G.base in omega (arith, n, l, m, base);
      }

-- ## Room

-- as many entries as there were at the opening were made before it
pub floor_after : (Are : List Entry → Type 0) (b new : BookValue) → Grown Are b new → (first : ℕ) → b.floor ≤ first - b.base → new.floor ≤ first - new.base
floor_after Are b new G first low = let floor = G.floor in let base = G.base in omega (arith, floor, base, low)

-- fewer entries fit too, and with more of them before the opening
pub fits_fewer : (room : Option ℕ) (floor higher entries fewer : ℕ) → FitsRoom room floor entries → floor ≤ higher → fewer ≤ entries → FitsRoom room higher fewer
fits_fewer None floor higher entries fewer fits low few = tt
fits_fewer (Some most) floor higher entries fewer fits low few = λ above. let all = fits (omega (arith, above, low, few)) in omega (arith, all, few)

-- ## Nothing is journalled

-- the store breaks
pub sealed_broken : (names : ℕ → ℕ) (seals : List NodeSeal) (b : BookValue) → Sealed names seals b → Sealed names seals (record b { broken = true })
sealed_broken names seals b S i s e =
    let was = S i s e in
    record {
      named = was.named;
      node = was.node;
      recorded = was.recorded;
      kept = was.kept;
      reserved = was.reserved;
      received = λ takes given. let W = was.received takes given in record { form = W.form; fronts = W.fronts };
      flag = was.flag;
    }

pub tied_still : (b new : BookValue) (first : ℕ) (all : List Entry) → Grown (λ entries. entries ≡ []) b new → IsTied first all b → IsTied first all new
tied_still b new first all G T = record {
  are = T.are ∙ sym (append-nil b.history) ∙ ap (λ es. b.history ++ es) (sym G.are) ∙ sym G.history;
  next = let n = T.next in let l = ap length (G.entries_are ∙ ap (λ es. b.state.entries ++ es) G.are ∙ append-nil b.state.entries) in let base = G.base in omega (arith, n, l, base);
}

-- ## Slips

below_of : {V : Type 0} (first : ℕ) (vs : List V) (n : ℕ) (v : V) → item_of first vs n ≡ v ∷ [] → n < first + length vs
below_of zero [] n v e = absurd (cons≢nil (sym e))
below_of zero (x ∷ vs) zero v e = omega arith
below_of zero (x ∷ vs) (suc n) v e = let r = below_of zero vs n v e in omega (arith, r)
below_of (suc first) vs zero v e = absurd (cons≢nil (sym e))
below_of (suc first) vs (suc n) v e = let r = below_of first vs n v e in omega (arith, r)

-- what is sound is below the next number
all_below : {V : Type 0} (first : ℕ) (vs : List V) (xs : List (ℕ × V)) → Sound (item_of first vs) xs → AllByRecursion (λ x. x.0 < first + length vs) xs
all_below first vs [] s = tt
all_below first vs (x ∷ xs) s = (below_of first vs x.0 x.1 s.0, all_below first vs xs s.2)

pub noted_by : (Are : List Entry → Type 0) (b new : BookValue) (old_stage new_stage : Stage) (first roll_first before : ℕ) (seat_old seat_new : List (ℕ × Entry)) → (G : Grown Are b new) → before ≡ length b.state.entries
    → roll_first ≡ first
    → new_stage.all ≡ old_stage.all ++ drop before new.state.entries
    → seat_new ≡ seat_old ++ enumerate_from (roll_first + length old_stage.all) (drop before new.state.entries)
    → Sound (item_of roll_first old_stage.all) seat_old
    → HoldNoted Are first old_stage new_stage seat_old seat_new
noted_by Are b new old_stage new_stage first roll_first before seat_old seat_new G many f is seat sound = record {
  entries = entries_among G.acts;
  are = G.are;
  journal = is ∙ ap (λ es. old_stage.all ++ es) (entries_new Are b new G before many);
  seat = seat ∙ ap (λ n. seat_old ++ enumerate_from (n + length old_stage.all) (drop before new.state.entries)) f
      ∙ ap (λ es. seat_old ++ enumerate_from (first + length old_stage.all) es) (entries_new Are b new G before many);
  below = subst (λ n. AllByRecursion (λ x. x.0 < n + length old_stage.all) seat_old) f (all_below roll_first old_stage.all seat_old sound);
}
