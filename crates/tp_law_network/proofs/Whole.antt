-- What a whole cut is, and when there is one.
use Rattle.std.proofs.Common.{◌≡◌, ℕ, zero, suc, ◌<◌, Bool, true, false, cond, not, inl, inr, List, [], ◌∷◌, ◌++◌, length, map, get_or, refl, sym, ap, subst, ◌∙◌, arith, Option, Some, None, slice_get, append-nil, eq-eqb, ne_eqb}
use Rattle.std.specs.Prelude.{nat_lt, ◌||◌, is_some}
use Rattle.tp_law_network.proofs.Lower.{option_map, cases_eq, cases_Bool, and_parts, and_from, false≢true, ext_get_or, length-map, Token, Machine, OfNode, OfHost, own, has_wire, on_line, process, HasFourLinks, after, Reorder, pre, post, before, Snapshot, MarkedNetwork, has_recorded, is_closed, WholeCut, count_in, all_some, all_closed, whole_of, whole, IsWhole, CutHolds}
use Rattle.tp_law_network.proofs.Partial.{bind_some, map_some, cond_some}
use Rattle.tp_law_network.proofs.Lines.{same_lines}
use Rattle.tp_law_network.proofs.Local.{own_host, own-node}
use Rattle.tp_law_network.proofs.Choice.{chosen_agree}
use Rattle.tp_law_network.proofs.Reorder.{reorder_end}
use Rattle.tp_law_network.specs.Invariant.{in_count, in_cut, early, late, as_recorded, Base, Marking, Inside, CutInvariant}
use Rattle.tp_law_network.proofs.Shape.{mid_nodes, mid_lines}

-- ## All are there

-- a list that has all its counts has each
pub all_counts : (given : List (Option ℕ)) (counts : List ℕ) → all_some given ≡ Some counts → (p : ℕ) → get_or given p (Some 0) ≡ Some (get_or counts p 0)
all_counts [] counts e p = let none : [] ≡ counts = cc in subst (λ ns. Some 0 ≡ Some (get_or ns p 0)) none refl
all_counts (None ∷ given) counts e p = cc
all_counts (Some n ∷ given) counts e p =
    let Q = map_some (λ ns. n ∷ ns) (all_some given) counts e in
    subst (λ ns. get_or (Some n ∷ given) p (Some 0) ≡ Some (get_or ns p 0)) Q.2 (go p Q.0 (all_counts given Q.0 Q.1))
  where
    go : (k : ℕ) (rest : List ℕ) → ((q : ℕ) → get_or given q (Some 0) ≡ Some (get_or rest q 0)) → get_or (Some n ∷ given) k (Some 0) ≡ Some (get_or (n ∷ rest) k 0)
    go zero rest h = refl
    go (suc k) rest h = h k

pub all_some-map : {A : Type 0} (items : List A) → all_some (map Some items) ≡ Some items
all_some-map [] = refl
all_some-map (x ∷ xs) = ap (option_map (λ ys. x ∷ ys)) (all_some-map xs)

pub all_some_from : {A : Type 0} (given : List (Option A)) (past : Option A) → ((p : ℕ) → p < length given → is_some (get_or given p past) ≡ true)
    → (items : List A) × (all_some given ≡ Some items)
all_some_from [] past h = ([], refl)
all_some_from {A} (None ∷ given) past h = absurd (false≢true (h zero (omega arith)))
all_some_from {A} (Some x ∷ given) past h =
    let R = all_some_from given past (λ p below. h (suc p) (omega arith)) in
    (x ∷ R.0, ap (option_map (λ xs. x ∷ xs)) R.1)

-- ## All are closed

pub all_closed_at : (wired closed : ℕ → Bool) (n : ℕ) → all_closed wired closed n ≡ true → (l : ℕ) → l < n → wired l ≡ true → closed l ≡ true
all_closed_at wired closed zero e l h y = absurd (omega arith)
all_closed_at wired closed (suc n) e l h y =
    let A = and_parts (not (wired n) || closed n) (all_closed wired closed n) e in
    elim (cases_eq l n) [
      | inl is ↦ ap closed is ∙ go (wired n) (closed n) (ap wired (sym is) ∙ y) A.0
      | inr other ↦ all_closed_at wired closed n A.1 l (omega arith) y
    ]
  where
    go : (b c : Bool) → b ≡ true → (not b || c) ≡ true → c ≡ true
    go true c is e = e
    go false c is e = absurd (false≢true is)

pub all_closed_from : (wired closed : ℕ → Bool) (n : ℕ) → ((l : ℕ) → l < n → wired l ≡ true → closed l ≡ true) → all_closed wired closed n ≡ true
all_closed_from wired closed zero h = refl
all_closed_from wired closed (suc n) h =
    and_from (not (wired n) || closed n) (all_closed wired closed n) (go (wired n) refl) (all_closed_from wired closed n (λ l below y. h l (omega arith) y))
  where
    go : (b : Bool) → wired n ≡ b → (not b || closed n) ≡ true
    go true is = h n (omega arith) is
    go false is = refl

-- ## A whole cut, taken apart

pub record WholeParts {Node : Type 0} (w : MarkedNetwork Node) (cut : WholeCut) : Type 0 where
  pub snap : Snapshot
  pub runs : w.snapshot ≡ Some snap
  pub counts : List ℕ
  pub recorded : all_some snap.counts ≡ Some counts
  pub shut : all_closed (has_wire w.live.wires) (is_closed snap) (length w.live.lines) ≡ true
  pub is : ◌≡◌ {A = WholeCut} (record { counts = counts; ports = snap.ports; lines = snap.lines; size = snap.size }) cut

pub whole_parts : {Node : Type 0} (w : MarkedNetwork Node) (cut : WholeCut) → whole w ≡ Some cut → WholeParts w cut
unfolding whole
whole_parts {Node} w cut e = go w.snapshot refl e
  where
    go : (given : Option Snapshot) → w.snapshot ≡ given → whole_of w.live.wires (length w.live.lines) given ≡ Some cut → WholeParts w cut
    go None s e = cc
    go (Some snap) s e =
        let Q = bind_some (all_some snap.counts) _ cut e in
        let C = cond_some (all_closed (has_wire w.live.wires) (is_closed snap) (length w.live.lines)) _ cut Q.2 in
        record { snap = snap; runs = s; counts = Q.0; recorded = Q.1; shut = C.0; is = cc }

pub whole_from : {Node : Type 0} (w : MarkedNetwork Node) (snap : Snapshot) (counts : List ℕ) → w.snapshot ≡ Some snap → all_some snap.counts ≡ Some counts
    → all_closed (has_wire w.live.wires) (is_closed snap) (length w.live.lines) ≡ true
    → whole w ≡ Some (record { counts = counts; ports = snap.ports; lines = snap.lines; size = snap.size })
unfolding whole
whole_from w snap counts runs recorded shut = rw (runs, recorded, shut)

-- each process of a whole cut has recorded, and each line that has a wire is closed
pub parts_recorded : {Node : Type 0} (w : MarkedNetwork Node) (cut : WholeCut) (P : WholeParts w cut) (p : ℕ) → has_recorded P.snap p ≡ true
parts_recorded w cut P p = ap is_some (all_counts P.snap.counts P.counts P.recorded p)

-- ## What a whole cut is

-- an image, and a node
image_at : {A : Type 0} (xs : List A) (p : ℕ) → get_or (map Some xs) p None ≡ slice_get xs p
image_at [] p = refl
image_at (x ∷ xs) zero = refl
image_at (x ∷ xs) (suc p) = image_at xs p

same_node : {Node : Type 0} (a b : Option Node) → option_map OfNode a ≡ option_map OfNode b → a ≡ b
same_node None None e = refl
same_node None (Some y) e = cc
same_node (Some x) None e = cc
same_node (Some x) (Some y) e = cc

module _ {Node : Type 0} (M : Machine Node) (four : HasFourLinks M) (w : MarkedNetwork Node) (B : Base M w)
    (snap : Snapshot) (K : Marking M w.start w.entries w.live w.frozen snap) (counts : List ℕ) (recorded : all_some snap.counts ≡ Some counts)
    (shut : all_closed (has_wire w.live.wires) (is_closed snap) (length w.live.lines) ≡ true) where
  abbrev cut : WholeCut
  cut = record { counts = counts; ports = snap.ports; lines = snap.lines; size = snap.size }

  in_cut_is : (p n : ℕ) → in_cut snap p n ≡ nat_lt n (count_in cut p)
  in_cut_is p n = ap (λ c. in_count c n) (all_counts snap.counts counts recorded p)

  early_pre : early (process w.start.wires (length w.start.nodes)) snap w.entries ≡ pre (process w.start.wires (length w.start.nodes)) (count_in cut) w.entries
  early_pre = chosen_agree (process w.start.wires (length w.start.nodes)) (in_cut snap) (λ p n. nat_lt n (count_in cut p)) (λ p. 0) w.entries (λ p n low high. in_cut_is p n)

  late_post : late (process w.start.wires (length w.start.nodes)) snap w.entries ≡ post (process w.start.wires (length w.start.nodes)) (count_in cut) w.entries
  late_post = chosen_agree (process w.start.wires (length w.start.nodes)) (λ p n. not (in_cut snap p n)) (λ p n. not (nat_lt n (count_in cut p))) (λ p. 0) w.entries (λ p n low high. ap not (in_cut_is p n))

  -- all have recorded
  mid_recorded : (p : ℕ) → own K.mid p ≡ as_recorded (length w.live.nodes) snap w.frozen p
  mid_recorded p = K.owns p ∙ ap (λ c. cond (is_some c) (as_recorded (length w.live.nodes) snap w.frozen p) (own w.live p)) (all_counts snap.counts counts recorded p)

  whole_ports : K.mid.ports ≡ snap.ports
  whole_ports =
      (own_host K.mid (length w.live.nodes) snap.ports
      (mid_recorded (length w.live.nodes) ∙ ap (λ b. cond b (Some (OfHost snap.ports)) (option_map OfNode (get_or w.frozen (length w.live.nodes) None))) (eq-eqb (length w.live.nodes) (length w.live.nodes) refl))).1

  whole_nodes : w.frozen ≡ map Some K.mid.nodes
  whole_nodes = ext_get_or None w.frozen (map Some K.mid.nodes) (K.images ∙ sym (length-map K.mid.nodes Some ∙ mid_nodes M four w B snap K)) at
    where
      at : (p : ℕ) → p < length w.frozen → get_or w.frozen p None ≡ get_or (map Some K.mid.nodes) p None
      at p h =
          let below : p < length w.live.nodes = subst (λ n. p < n) K.images h in
          same_node (get_or w.frozen p None) (slice_get K.mid.nodes p)
          (ap (λ b. cond b (Some (OfHost snap.ports)) (option_map OfNode (get_or w.frozen p None))) (sym (ne_eqb p (length w.live.nodes) (λ e. omega arith)))
          ∙ sym (mid_recorded p)
          ∙ own-node K.mid p (λ e. omega (arith, mid_nodes M four w B snap K)))
          ∙ sym (image_at K.mid.nodes p)

  whole_lines : K.mid.lines ≡ snap.lines
  whole_lines = same_lines K.mid.lines snap.lines (mid_lines M four w B snap K ∙ sym K.cut_lines) (λ l h. K.on_lines l ∙ elim (cases_Bool (has_wire w.live.wires l)) [
    | inl y ↦ ap (λ b. cond b (on_line snap.lines l) (on_line snap.lines l ++ before (on_line w.live.lines l)))
        (all_closed_at (has_wire w.live.wires) (is_closed snap) (length w.live.lines) shut l (B.wired l y) y)
    | inr n ↦ ap (λ ts. cond (is_closed snap l) (on_line snap.lines l) (on_line snap.lines l ++ before ts)) (B.unwired l n) ∙ either (is_closed snap l) (on_line snap.lines l)
  ])
    where
      either : (b : Bool) (ts : List Token) → cond b ts (ts ++ []) ≡ ts
      either true ts = refl
      either false ts = append-nil ts

  cut_order : Reorder M w.start w.entries (pre (process w.start.wires (length w.start.nodes)) (count_in cut) w.entries ++ post (process w.start.wires (length w.start.nodes)) (count_in cut) w.entries)
  cut_order =
      subst (λ es. Reorder M w.start w.entries es)
      (ap (λ es. es ++ late (process w.start.wires (length w.start.nodes)) snap w.entries) early_pre ∙ ap (λ es. pre (process w.start.wires (length w.start.nodes)) (count_in cut) w.entries ++ es) late_post) K.order

  cut_is : CutHolds M w cut
  cut_is = record {
    consistent = record { state = K.mid; is = ap (after M w.start) (sym early_pre) ∙ K.consistent };
    lines = whole_lines;
    ports = whole_ports;
    nodes = whole_nodes;
    size = K.sized ∙ ap length early_pre;
    order = cut_order;
    same = sym (reorder_end M four w.start w.entries (pre (process w.start.wires (length w.start.nodes)) (count_in cut) w.entries ++ post (process w.start.wires (length w.start.nodes)) (count_in cut) w.entries) cut_order);
  }

module _ {Node : Type 0} (M : Machine Node) (w : MarkedNetwork Node) (H : CutInvariant M w) where
  -- what holds of the snapshot that runs
  pub running : (snap : Snapshot) → w.snapshot ≡ Some snap → Marking M w.start w.entries w.live w.frozen snap
  running snap runs = subst (λ given. Inside M w given) runs H.inside

  -- There is one exactly if a snapshot runs, all have recorded and each Marker was taken.
  pub whole_only : (cut : WholeCut) → whole w ≡ Some cut → IsWhole w
  whole_only cut e =
      let P = whole_parts w cut e in
      record {
        snap = P.snap;
        runs = P.runs;
        recorded_all = λ p h. parts_recorded w cut P p;
        closed_all = λ l y. all_closed_at (has_wire w.live.wires) (is_closed P.snap) (length w.live.lines) P.shut l (H.base.wired l y) y;
      }

  pub whole_there : IsWhole w → (cut : WholeCut) × (whole w ≡ Some cut)
  whole_there I =
      let K = running I.snap I.runs in
      let C = all_some_from I.snap.counts (Some 0) (λ p h. I.recorded_all p (omega (arith, K.cut_counts))) in (
        record { counts = C.0; ports = I.snap.ports; lines = I.snap.lines; size = I.snap.size },
        whole_from w I.snap C.0 I.runs C.1 (all_closed_from (has_wire w.live.wires) (is_closed I.snap) (length w.live.lines) (λ l h y. I.closed_all l y)),
      )

-- A whole cut is the network after the entries in it, and those may come first.
pub whole_holds : {Node : Type 0} (M : Machine Node) → HasFourLinks M → (w : MarkedNetwork Node) → CutInvariant M w → (cut : WholeCut) → whole w ≡ Some cut → CutHolds M w cut
whole_holds M four w H cut e =
    let P = whole_parts w cut e in
    subst (λ c. CutHolds M w c) P.is (cut_is M four w H.base P.snap (running M w H P.snap P.runs) P.counts P.recorded P.shut)
