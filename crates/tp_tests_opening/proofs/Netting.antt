-- Nodes at home stay so, whatever others do.
use Rattle.std.proofs.Common.{◌≡◌, ◌≢◌, ℕ, zero, suc, inl, inr, true, false, ◌+◌, List, [], ◌∷◌, ◌++◌, get_or, length, map, replicate, set, refl, sym, ap, subst, ◌∙◌, arith, Option, Some, None, slice_get, ◌<◌}
use Rattle.std.specs.Prelude.{take, is_none, is_some, Result, Ok, Err, IfOk, OnErr}
use Rattle.tp_tests_opening.proofs.Lower.{list_all, and_parts, cases_eq, get_or-replicate, length-replicate, map-append, take_more, slice_get-get_or, slice_get_within, Entry, Turns, NodeState, node_of, t414, MarkedNetwork, Snapshot, WholeCut, whole, all_some, trimmed, HasCut, Act, Begin, Trim, acted, happens, trim, is_full_for_snapshot, IsNodeOfBytes, slice_get-set_same, slice_get-set_other, NodeContents, ReadsImage, image_read, image_thawed, input_acts, has_recorded_in, Refusal, JournalFull, StoreBroken, SnapshotRunning, NetState, BookValue, agreed, nodes_in, world_of, after_inputs, after_begin, begin_refusal, IsWellOpen, now_of, opened_book, else_if, IsAnswer, after_trim, one_act, HostAdded, Added, IsNodeOf, others_stay, nodes_stay, HostActed, hosted_input}
use Rattle.tp_tests_opening.specs.Nets.{HasNodes, IsHome, Leaves, spelt_one, spelt, seen_one, seen}

-- ## One node acts

module _ (number : ℕ) (node : NodeState) (acts : List Act) (a b : BookValue) (A : Added number node acts a b) where
  home_stays : (other : ℕ) (n : NodeContents) → other ≢ number → IsHome a other n → IsHome b other n
  home_stays other n apart S = record { free = ap (λ runs. slice_get runs other) A.grew.runs ∙ S.free; is = others_stay number other node n acts a b A apart S.is }

  pub leaves_added : Leaves number a b
  leaves_added = record { idle = A.grew.ready; form = A.grew.form; others = λ other n apart S. home_stays other n apart S }

-- a node at home acts
pub home_added : (number : ℕ) (n m : NodeContents) (acts : List Act) (a b : BookValue) → Added number m.live acts a b → IsNodeOf b number m → IsHome a number n → IsHome b number m
home_added number n m acts a b A is H = record { free = ap (λ runs. slice_get runs number) A.grew.runs ∙ H.free; is = is }

-- ## Of the network

pub moved : (nodes : List NodeContents) (number : ℕ) (s t : NodeContents) (a b : BookValue) → slice_get nodes number ≡ Some s → Leaves number a b → IsHome b number t → HasNodes a nodes → HasNodes b (set nodes number t)
moved nodes number s t a b there L is H = record {
  idle = L.idle ∙ H.idle;
  form = L.form ∙ H.form;
  each = λ i node at.
      elim (cases_eq i number) [
        | inl same ↦
            let new : slice_get (set nodes number t) i ≡ Some t = ap (slice_get (set nodes number t)) same ∙ slice_get-set_same nodes number t s there in
            let one : t ≡ node = cc in
            subst (λ j. IsHome b j node) (sym same) (subst (λ x. IsHome b number x) one is)
        | inr apart ↦ L.others i node apart (H.each i node (sym (slice_get-set_other nodes number i t apart) ∙ at))
      ];
}

-- ## The host acts

module _ (acts : List Act) (a b : BookValue) (A : HostAdded acts a b) where
  home_hosted : (i : ℕ) (n : NodeContents) → IsHome a i n → IsHome b i n
  home_hosted i n S = record { free = ap (λ runs. slice_get runs i) A.grew.runs ∙ S.free; is = nodes_stay i n acts a b A S.is }

  pub hosted : (nodes : List NodeContents) → HasNodes a nodes → HasNodes b nodes
  hosted nodes H = record { idle = A.grew.ready ∙ H.idle; form = A.grew.form ∙ H.form; each = λ i node at. home_hosted i node (H.each i node at) }

-- ## The host's calls

acted_added : (Are : List Entry → Type 0) (a b : BookValue) → (H : HostActed Are a b) → b.generation ≡ a.generation → HostAdded H.grown.acts a b
acted_added Are a b H same =
    let G = H.grown in
    record {
      did = G.did;
      grew = record { start = G.start; entries_are = G.entries_are; numbers = G.numbers; base = G.base; runs = H.runs; ready = G.ready; broken = G.broken; room = G.room; history = G.history; generation = same; floor = G.floor; form = G.form };
      own = H.own;
      nodes = H.nodes;
      recorded = H.recorded;
      frozen = H.frozen;
    }

pub handed_in : {A : Type 0} (nodes : List NodeContents) (a b : BookValue) (port : ℕ) (bytes : List ℕ) (r : Result A Refusal) → IfOk r (λ x. b ≡ after_inputs a port bytes) → IfOk r (λ x. acted t414 (world_of a) (input_acts port bytes) ≡ Some (world_of b))
    → OnErr r (b ≡ a) → agreed b.state ≡ agreed a.state → HasNodes a nodes → HasNodes b nodes
handed_in nodes a b port bytes (Ok x) is act err same H =
    let done = hosted_input a b port bytes is same act in
    hosted done.grown.acts a b (acted_added _ a b done (ap (λ x. x.generation) is)) nodes H
handed_in nodes a b port bytes (Err e) is act err same H = subst (λ x. HasNodes x nodes) (sym err) H

-- ## A snapshot begins, and ends

-- if no node is frozen
module _ (a b : BookValue) (act : Act) (did : acted t414 (world_of a) (act ∷ []) ≡ Some (world_of b)) (runs : b.runs ≡ a.runs) (agree : agreed b.state ≡ agreed a.state) where
  thawed_node : (i : ℕ) (n : NodeContents) → n.frozen ≡ None → IsNodeOf a i n → IsNodeOf b i n
  thawed_node i n none N = record {
    there = ap (λ ns. slice_get ns i) agree ∙ N.there;
    image = N.image;
    recorded = λ (some : is_some n.frozen ≡ true). let no = ap is_some none in cc;
    kept = λ here its frozen t. cc;
  }

  thawed_home : (i : ℕ) (n : NodeContents) → n.frozen ≡ None → IsHome a i n → IsHome b i n
  thawed_home i n none S = record { free = ap (λ rs. slice_get rs i) runs ∙ S.free; is = thawed_node i n none S.is }

begin_free : (b : BookValue) (u : Unit {0}) → IsAnswer {A = Unit {0}} (begin_refusal b) (Ok u) → b.state.snapshot ≡ None
begin_free b u = go b.state.snapshot
  where
    go : (given : Option Snapshot) → IsAnswer {A = Unit {0}} (else_if (else_if (else_if None (is_some given) SnapshotRunning) b.broken StoreBroken) (is_full_for_snapshot b.generation) JournalFull) (Ok u) → given ≡ None
    go None answer = refl
    go (Some snap) answer = absurd answer

begin_agreed : (b : BookValue) → agreed (after_begin b).state ≡ agreed b.state
unfolding agreed
begin_agreed b = refl

-- no snapshot runs, so none is
idle_thawed : (a : BookValue) → a.state.snapshot ≡ None → (i : ℕ) (n : NodeContents) → IsHome a i n → n.frozen ≡ None
idle_thawed a none i n S = or n.frozen refl
  where
    or : (o : Option NodeState) → n.frozen ≡ o → n.frozen ≡ None
    or None is = is
    or (Some state) is =
        let yes : has_recorded_in a.state.snapshot i ≡ true = S.is.recorded (ap is_some is) in
        let no : has_recorded_in a.state.snapshot i ≡ false = ap (λ given. has_recorded_in given i) none in
        cc

pub begun : (nodes : List NodeContents) (a b : BookValue) (r : Result (Unit {0}) Refusal) → IsAnswer (begin_refusal a) r → IfOk r (λ done. b ≡ after_begin a) → IfOk r (λ done. happens t414 (world_of a) Begin ≡ Some (world_of b)) → OnErr r (b ≡ a)
    → HasNodes a nodes → HasNodes b nodes
begun nodes a b (Ok u) answer is act err H =
    let did = one_act (world_of a) (world_of b) Begin act in
    record {
      idle = ap (λ x. x.ready) is ∙ H.idle;
      form = ap (λ x. x.form) is ∙ H.form;
      each = λ i node at.
          let S = H.each i node at in
          thawed_home a b Begin did (ap (λ x. x.runs) is) (ap (λ x. agreed x.state) is ∙ begin_agreed a) i node (idle_thawed a (begin_free a u answer) i node S) S;
    }
begun nodes a b (Err e) answer ok act err H = subst (λ x. HasNodes x nodes) (sym err) H

pub all_thawed : (nodes : List NodeContents) → list_all (λ node. is_none node.frozen) nodes ≡ true → (i : ℕ) (node : NodeContents) → slice_get nodes i ≡ Some node → node.frozen ≡ None
all_thawed [] passed i node at = cc
all_thawed (s ∷ nodes) passed zero node at =
    let one : s ≡ node = cc in
    let none = (and_parts (is_none s.frozen) (list_all (λ t. is_none t.frozen) nodes) passed).0 in
    ap (λ t. t.frozen) (sym one) ∙ go s.frozen none
  where
    go : (o : Option NodeState) → is_none o ≡ true → o ≡ None
    go None is = refl
    go (Some state) is = cc
all_thawed (s ∷ nodes) passed (suc i) node at = all_thawed nodes (and_parts (is_none s.frozen) (list_all (λ t. is_none t.frozen) nodes) passed).1 i node at

-- a trim has a cut and frozen nodes, and the nodes as they are stay
trim_parts : (w v : MarkedNetwork NodeState) → happens t414 w Trim ≡ Some v → (cut : WholeCut) × (ns : List NodeState) × (HasCut w cut ns × (v.live.nodes ≡ w.live.nodes))
unfolding happens
trim_parts w v act = go (whole w) (all_some w.frozen) refl refl act
  where
    go : (c : Option WholeCut) (o : Option (List NodeState)) → whole w ≡ c → all_some w.frozen ≡ o → trim w c o ≡ Some v → (cut : WholeCut) × (ns : List NodeState) × (HasCut w cut ns × (v.live.nodes ≡ w.live.nodes))
    go None o c_is o_is e = cc
    go (Some cut) None c_is o_is e = cc
    go (Some cut) (Some ns) c_is o_is e =
        let is : trimmed w cut ns ≡ v = cc in
        (cut, ns, (record { is = c_is; images = o_is }, ap (λ (x : MarkedNetwork NodeState). x.live.nodes) (sym is)))

pub taken_in : (nodes : List NodeContents) (a b : BookValue) → ((i : ℕ) (node : NodeContents) → slice_get nodes i ≡ Some node → node.frozen ≡ None)
    → ((cut : WholeCut) (ns : List NodeState) → HasCut (world_of a) cut ns → b ≡ after_trim a cut ns) → happens t414 (world_of a) Trim ≡ Some (world_of b) → HasNodes a nodes → HasNodes b nodes
taken_in nodes a b thawed book act H =
    let parts = trim_parts (world_of a) (world_of b) act in
    let is = book parts.0 parts.1 parts.2.0 in
    let did = one_act (world_of a) (world_of b) Trim act in
    record {
      idle = ap (λ x. x.ready) is ∙ H.idle;
      form = ap (λ x. x.form) is;
      each = λ i node at. thawed_home a b Trim did (ap (λ x. x.runs) is) parts.2.1 i node (thawed i node at) (H.each i node at);
    }

-- ## Images

-- A node's frozen image goes.
pub thawed : (nodes : List NodeContents) (number : ℕ) (s t : NodeContents) (b : BookValue) → slice_get nodes number ≡ Some s → t.live ≡ s.live → t.frozen ≡ None → HasNodes b nodes → HasNodes b (set nodes number t)
thawed nodes number s t b there live none H =
    let S = H.each number s there in
    moved nodes number s t b b there (record { idle = refl; form = refl; others = λ i n apart N. N }) (record { free = S.free; is = loose S.is }) H
  where
    loose : IsNodeOf b number s → IsNodeOf b number t
    loose N = record {
      there = N.there ∙ ap Some (sym live);
      image = subst IsNodeOfBytes (sym live) N.image;
      recorded = λ (some : is_some t.frozen ≡ true). let no = ap is_some none in cc;
      kept = λ here its frozen of. cc;
    }

-- ## The beginning

-- states that images spell, and nodes that were read of them
aligned : {A : Type 0} (f : A → List ℕ) (images : List A) (states : List NodeState) (nodes : List NodeContents) → map (λ x. node_of (f x)) images ≡ map (λ s. Some s) states → seen nodes ≡ spelt (map f images)
    → (length states ≡ length nodes) × ((i : ℕ) (node : NodeContents) → slice_get nodes i ≡ Some node → (slice_get states i ≡ Some node.live) × (node.frozen ≡ None))
aligned f [] [] [] spells same = (refl, λ i node at. cc)
aligned f [] [] (n ∷ ns) spells same = cc
aligned f [] (t ∷ ts) ns spells same = cc
aligned f (x ∷ xs) [] ns spells same = cc
aligned f (x ∷ xs) (t ∷ ts) [] spells same = cc
aligned f (x ∷ xs) (t ∷ ts) (n ∷ ns) spells same =
    let rest = aligned f xs ts ns (cc) (cc) in
    (ap suc rest.0, at rest.1)
  where
    at : ((i : ℕ) (node : NodeContents) → slice_get ns i ≡ Some node → (slice_get ts i ≡ Some node.live) × (node.frozen ≡ None))
        → (i : ℕ) (node : NodeContents) → slice_get (n ∷ ns) i ≡ Some node → (slice_get (t ∷ ts) i ≡ Some node.live) × (node.frozen ≡ None)
    at rest zero node is =
        let one : n ≡ node = cc in
        let all : seen_one n ≡ spelt_one (f x) = cc in
        let spells_it : node_of (f x) ≡ Some t = cc in
        let first : Some n.live ≡ node_of (f x) = ap (λ (p : Option NodeState × Option NodeState). p.0) all in
        let live : Some n.live ≡ Some t = first ∙ spells_it in
        let none : n.frozen ≡ None = ap (λ (p : Option NodeState × Option NodeState). p.1) all in
        (sym live ∙ ap (λ s. Some s.live) one, ap (λ s. s.frozen) (sym one) ∙ none)
    at rest (suc i) node is = rest i node is

-- a node without a frozen page
fresh_home : (b : BookValue) (i : ℕ) (node : NodeContents) → slice_get b.runs i ≡ Some false → slice_get (agreed b.state) i ≡ Some node.live → IsNodeOfBytes node.live → node.frozen ≡ None → IsHome b i node
fresh_home b i node free there image thawed =
    record { free = free; is = record { there = there; image = image; recorded = λ (some : is_some node.frozen ≡ true). let no = ap is_some thawed in cc; kept = λ here its frozen t. let no = thawed in cc } }

all_free : (many i : ℕ) → i < many → slice_get (replicate many false) i ≡ Some false
all_free many i below =
    let long : length (replicate many false) ≡ many = length-replicate many false in
    slice_get-get_or (replicate many false) i true (omega (arith, long, below)) ∙ ap Some (get_or-replicate many i false true below)

opened_agreed : (s : NetState) (room : Option ℕ) → IsWellOpen s → agreed (opened_book s room).state ≡ (now_of s).nodes
unfolding agreed
opened_agreed s room O = ap nodes_in O.history

pub opens : (s : NetState) (room : Option ℕ) (b : BookValue) (nodes : List NodeContents) → IsWellOpen s → b ≡ opened_book s room → b.form ≡ Turns
    → ((i : ℕ) (node : NodeState) → slice_get (now_of s).nodes i ≡ Some node → IsNodeOfBytes node) → seen nodes ≡ spelt (map (λ image. image.items) s.net.images.items) → HasNodes b nodes
opens s room b nodes O is form images same =
    let now = aligned (λ image. image.items) s.net.images.items (now_of s).nodes nodes O.images same in
    record {
      idle = ap (λ x. x.ready) is;
      form = form;
      each = λ i node at.
          let here = now.1 i node at in
          let below = slice_get_within (now_of s).nodes i node.live here.0 in
          fresh_home b i node (ap (λ x. slice_get x.runs i) is ∙ all_free (length (now_of s).nodes) i below)
          (ap (λ x. slice_get (agreed x.state) i) is ∙ ap (λ ns. slice_get ns i) (opened_agreed s room O) ∙ here.0) (images i node.live here.0) here.1;
    }

-- ## Images that are read

read_seen : (bytes : List ℕ) (node : NodeContents) → ReadsImage (node_of bytes) (Ok node) → seen_one node ≡ spelt_one bytes
read_seen bytes node reads = rw (image_read (node_of bytes) node reads, image_thawed (node_of bytes) node reads) refl

pub read_more : {A : Type 0} (f : A → List ℕ) (images : List A) (i : ℕ) (image : A) (bytes : List ℕ) (nodes new : List NodeContents) (node : NodeContents) → i < length images → image ≡ get_or images i image → bytes ≡ f image
    → ReadsImage (node_of bytes) (Ok node) → new ≡ nodes ++ node ∷ [] → seen nodes ≡ spelt (map f (take i images)) → seen new ≡ spelt (map f (take (i + 1) images))
read_more f images i image bytes nodes new node lt is has reads pushed before =
    let here : seen_one node ≡ spelt_one (f (get_or images i image)) = read_seen bytes node reads ∙ ap spelt_one (has ∙ ap f is) in
    let left : seen new ≡ seen nodes ++ seen_one node ∷ [] = ap seen pushed ∙ map-append seen_one nodes (node ∷ []) in
    let right : spelt (map f (take (i + 1) images)) ≡ spelt (map f (take i images)) ++ spelt_one (f (get_or images i image)) ∷ [] =
    ap (λ xs. spelt (map f xs)) (take_more images i image lt) ∙ ap spelt (map-append f (take i images) (get_or images i image ∷ []))
    ∙ map-append spelt_one (map f (take i images)) (f (get_or images i image) ∷ []) in
    left ∙ ap (λ xs. xs ++ seen_one node ∷ []) before ∙ ap (λ x. spelt (map f (take i images)) ++ x ∷ []) here ∙ sym right
