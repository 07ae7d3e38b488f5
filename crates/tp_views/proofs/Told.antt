-- Who waits for whom, said of an opened device by its cut, which is read once more.
use Rattle.std.specs.Prelude.{◌≡◌, ◌+◌, ℕ, Bool, true, false, List, drop, map, refl, Option, Some, Result, Ok, Err, string_bytes}
use Rattle.std.proofs.Common.{◌∙◌, sym, ap, subst}
use Rattle.tp_views.proofs.Lower.{Global, String, Appends, area_start, content_of, Head, head_of, Network, t414, t414_ends, NodeState, Opened, area_in, base_of, chosen_area, closed_in, cut_in, front_in, opening, verdict, ◌>>=◌, after_rows, replay_from, Entry, OpenFault, network_of_cut, live_node, ReadAnswer, Cut, Unopened, Fault, ReadFailed, generation_of, groups_place, listing, Memory}
use Rattle.tp_views.specs.Maps.{Maps}
use Rattle.tp_views.specs.Since.{nodes_since, number_after, opened_since}
use Rattle.tp_views.specs.Views.{IsOpenedOf, WasPrinted, waits_of, waits_told}
use Rattle.tp_views.specs.declared.waits.scene.NodeSeen.{NodeSeen}
use Rattle.tp_views.specs.declared.view.WaitsForm.{WaitsForm}

-- ## The cut

-- the cut of an opened device is in its bytes
pub record HasCut (bytes : List ℕ) (o : Opened) : Type 0 where
  pub base : o.base ≡ base_of (content_of o.head.areas o.second bytes)
  pub cut : cut_in t414_ends o.head.topology (area_start o.head.areas o.second + 1) (content_of o.head.areas o.second bytes) ≡ Ok o.cut

bind_ok : {A B E : Type 0} (r : Result A E) (f : A → Result B E) (y : B) → (r >>= f) ≡ Ok y → (x : A) × (r ≡ Ok x) × (f x ≡ Ok y)
bind_ok (Ok x) f y is = (x, refl, is)
bind_ok (Err e) f y is = absurd (cc)

same_ok : {A E : Type 0} (x y : A) → ◌≡◌ {A = Result A E} (Ok x) (Ok y) → x ≡ y
same_ok x y is = cc

in_area : (head : Head) (second : Bool) (bytes : List ℕ) (o : Opened) → area_in t414 t414_ends head second (content_of head.areas second bytes) ≡ Ok o → HasCut bytes o
unfolding area_in
in_area head second bytes o is =
    let content = content_of head.areas second bytes in
    let start = area_start head.areas second in
    let found = listing 0 (start + 1 + groups_place head.topology) (drop (groups_place head.topology) content) in
    let a = bind_ok (front_in head.topology start content) _ o is in
    let b = bind_ok (cut_in t414_ends head.topology (start + 1) content) _ o a.2 in
    let c = bind_ok (after_rows t414 (replay_from a.0 b.0 (base_of content)) found.rows) _ o b.2 in
    let d = bind_ok (closed_in found) _ o c.2 in
    let opened : Opened = record {
      head = head;
      second = second;
      generation = generation_of content;
      form = a.0;
      base = base_of content;
      cut = b.0;
      kept = c.0.kept;
      now = c.0.now;
      end = found.end;
    } in
    let there : HasCut bytes opened = record { base = refl; cut = b.1 } in
    subst (HasCut bytes) (same_ok opened o d.2) there

pub has_cut : (bytes : List ℕ) (o : Opened) → verdict bytes ≡ Ok o → HasCut bytes o
unfolding verdict opening
has_cut bytes o is =
    let a = bind_ok (head_of bytes) _ o is in
    let b = bind_ok (chosen_area a.0.areas bytes) _ o a.2 in
    in_area a.0 b.0 bytes o b.2

-- the nodes of a cut that was read are these; it had no fault
abbrev pub IsCutOf : Network NodeState → Result Cut Unopened → Type 0
IsCutOf s (Ok cut) = map live_node cut.nodes.items ≡ s.nodes
IsCutOf s (Err (Fault fault)) = ⊥
IsCutOf s (Err ReadFailed) = Unit {0}
IsCutOf s (Err Memory) = Unit {0}

pub cut_again : (bytes : List ℕ) (o : Opened) (head : Head) (second : Bool) (base : ℕ) (kept : List (Entry × ℕ)) (seen : List NodeSeen) (read : Result Cut Unopened) → verdict bytes ≡ Ok o → IsOpenedOf head second base kept seen o
    → (base ≡ base_of (content_of head.areas second bytes) → ReadAnswer (network_of_cut head.topology.wires) (cut_in t414_ends head.topology (area_start head.areas second + 1) (content_of head.areas second bytes)) read)
    → IsCutOf o.cut read
cut_again bytes o head second base kept seen read opens I reads =
    let H = has_cut bytes o opens in
    let at : base ≡ base_of (content_of head.areas second bytes) =
    I.base_is ∙ H.base ∙ (λ i. base_of (content_of (sym I.head_is i).areas (sym I.second_is i) bytes)) in
    let cut : cut_in t414_ends head.topology (area_start head.areas second + 1) (content_of head.areas second bytes) ≡ Ok o.cut =
    (λ i. cut_in t414_ends (I.head_is i).topology (area_start (I.head_is i).areas (I.second_is i) + 1) (content_of (I.head_is i).areas (I.second_is i) bytes)) ∙ H.cut in
    go read (subst (λ given. ReadAnswer (network_of_cut head.topology.wires) given read) cut (reads at))
  where
    go : (read : Result Cut Unopened) → ReadAnswer (network_of_cut head.topology.wires) (Ok o.cut) read → IsCutOf o.cut read
    go (Ok cut) is = ap (λ (s : Network NodeState). s.nodes) (sym (same_ok _ _ is))
    go (Err (Fault fault)) is = absurd (cc)
    go (Err ReadFailed) is = tt
    go (Err Memory) is = tt

-- a reading that has no fault answers whatever is given
pub no_fault : {A B : Type 0} (seen : A → B) (x : B) (s : Network NodeState) (error : Unopened) (answer : Result A Unopened) → IsCutOf s (Err error) → answer ≡ Err error → ReadAnswer seen (Ok x) answer
no_fault seen x s (Fault fault) answer is told = absurd is
no_fault seen x s ReadFailed answer is told = rw told tt
no_fault seen x s Memory answer is told = rw told tt

-- since when, by the nodes of the cut
pub since_again : (o : Opened) (head : Head) (second : Bool) (base : ℕ) (kept : List (Entry × ℕ)) (seen : List NodeSeen) (nodes : List NodeState) → IsOpenedOf head second base kept seen o → nodes ≡ o.cut.nodes
    → nodes_since head.topology.wires seen (number_after base kept) kept nodes ≡ opened_since o
since_again o head second base kept seen nodes I is =
    λ i. nodes_since (I.head_is i).topology.wires (I.seen_is i) (number_after (I.base_is i) (I.kept_is i)) (I.kept_is i) (is i)

-- ## What is told

-- a device that isn't opened
pub told_unopened : (form : WaitsForm) (maps : Maps) (given : Result Opened OpenFault) (error : Unopened) (answer : Result (String Global) Unopened) → ReadAnswer (λ (o : Opened). o) given (Err error) → answer ≡ Err error
    → ReadAnswer string_bytes (waits_told form maps given) answer
told_unopened form maps given (Fault fault) answer is told = rw told (ap (waits_told form maps) is)
told_unopened form maps given ReadFailed answer is told = rw told tt
told_unopened form maps given Memory answer is told = rw told tt

-- an opened one
pub record ToldOf (form : WaitsForm) (maps : Maps) (given : Result Opened OpenFault) (text : List ℕ) : Type 0 where
  pub opened : Opened
  pub is : given ≡ Ok opened
  pub shown : waits_of form maps opened ≡ text

pub told_opened : (form : WaitsForm) (maps : Maps) (given : Result Opened OpenFault) (text : List ℕ) → waits_told form maps given ≡ Ok text → ToldOf form maps given text
told_opened form maps (Ok o) text is = record { opened = o; is = refl; shown = same_ok _ _ is }
told_opened form maps (Err fault) text is = absurd (cc)

-- it is there, and was printed
pub was_printed : (text : List ℕ) (was now : Option (List ℕ)) (is_there : Bool) → (is_there ≡ true) × Appends was now text → WasPrinted (Some text) was now is_there
was_printed text was now true both = both.1
was_printed text was now false both = absurd (cc (both.0))
