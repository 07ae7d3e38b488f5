-- The cut of a network before its first entry is read back.
use Rattle.std.proofs.Common.{◌≡◌, ℕ, zero, suc, ◌+◌, ◌-◌, ◌*◌, ◌%◌, Bool, true, false, cond, List, [], ◌∷◌, length, refl, sym, ap, subst, ◌∙◌, arith, Option, Some, None, slice_get}
use Rattle.std.specs.Prelude.{◌==◌, ◌&&◌, replicate}
use Rattle.tp_law_device.proofs.Lower.{list_all, AllByRecursion, option_map, and_parts, eqb-true, not_from_false, length-replicate, Token, WireEnd, bit, NodeState, is_idle_out, is_idle_in, page_count, node_of, has_idle_links, Network, Own, OfNode, OfHost, own, back, on_line, datas, acks, owner, is_pending, waits_at, holds_at, end_holds, t414_ends, Topology, line_count, is_in_one_place, is_port_of, fresh_node, fresh_nodes, fresh_port, image-node_of, bind_some, are_lines, none_waits, none_holds}
use Rattle.tp_law_device.proofs.SpeltCuts.{IsReadBack, pages_of, ReadsBack}
use Rattle.tp_law_device.proofs.Faults.{tested}

-- ## Nodes

-- a node that an image gives
pub record IsFresh (pages : ℕ) (n : NodeState) : Type 0 where
  pub back : IsReadBack n
  pub pages_are : page_count n.memory ≡ pages
  pub idle : has_idle_links n ≡ true

fresh_is : (pages : ℕ) (bytes : List ℕ) (n : NodeState) → fresh_node pages bytes ≡ Some n → IsFresh pages n
fresh_is pages bytes n is =
    let found = tested (λ m. page_count m.memory == pages && has_idle_links m) (node_of bytes) n is in
    let both = and_parts (page_count n.memory == pages) (has_idle_links n) found.1 in
    record {
      back = ap node_of (image-node_of bytes n found.0) ∙ found.0;
      pages_are = eqb-true (page_count n.memory) pages both.0;
      idle = both.1;
    }

-- what is true of the nodes of images
pub record AreFresh (pages : List ℕ) (nodes : List NodeState) : Type 0 where
  pub back : AllByRecursion IsReadBack nodes
  pub pages_are : pages_of nodes ≡ pages
  pub idle : (i : ℕ) (n : NodeState) → slice_get nodes i ≡ Some n → has_idle_links n ≡ true

fresh_more : (pages : ℕ) (n : NodeState) (more : List ℕ) (nodes : List NodeState) → IsFresh pages n → AreFresh more nodes → AreFresh (pages ∷ more) (n ∷ nodes)
fresh_more pages n more nodes F A =
    let first = F.pages_are in
    let rest = A.pages_are in
    record { back = (F.back, A.back); pages_are = λ i. first i ∷ rest i; idle = one_more }
  where
    one_more : (i : ℕ) (m : NodeState) → slice_get (n ∷ nodes) i ≡ Some m → has_idle_links m ≡ true
    one_more zero m is = let same : m ≡ n = cc in ap has_idle_links same ∙ F.idle
    one_more (suc i) m is = A.idle i m is

no_node : (i : ℕ) (n : NodeState) → ◌≡◌ {A = Option NodeState} (slice_get [] i) (Some n) → has_idle_links n ≡ true
no_node i n is = cc

pub fresh_nodes_are : (pages : List ℕ) (images : List (List ℕ)) (nodes : List NodeState) → fresh_nodes pages images ≡ Some nodes → AreFresh pages nodes
unfolding fresh_nodes
fresh_nodes_are [] [] nodes is = let same : [] ≡ nodes = cc in subst (AreFresh []) same (record { back = tt; pages_are = refl; idle = no_node })
fresh_nodes_are (pages ∷ more) [] nodes is = cc
fresh_nodes_are [] (bytes ∷ images) nodes is = cc
fresh_nodes_are (pages ∷ more) (bytes ∷ images) nodes is =
    let first = bind_some (fresh_node pages bytes) _ nodes is in
    let rest = bind_some (fresh_nodes more images) _ nodes first.2 in
    subst (AreFresh (pages ∷ more)) (let same = rest.2 in cc) (fresh_more pages first.0 more rest.0 (fresh_is pages bytes first.0 first.1) (fresh_nodes_are more images rest.0 rest.1))

-- ## Lines and ports

abbrev pub no_lines : ℕ → List (List Token)
no_lines count = replicate count []

pub no_line : (count line : ℕ) → on_line (no_lines count) line ≡ []
no_line zero line = refl
no_line (suc count) zero = refl
no_line (suc count) (suc line) = no_line count line

empty_lines : (wires : List (Option WireEnd)) → are_lines wires (no_lines (length wires)) ≡ true
empty_lines [] = refl
empty_lines (None ∷ wires) = empty_lines wires
empty_lines (Some end ∷ wires) = empty_lines wires

empty_ports : (count : ℕ) → AllByRecursion (λ port. is_port_of 0 port ≡ true) (replicate count fresh_port)
empty_ports zero = tt
empty_ports (suc count) = (refl, empty_ports count)

-- ## Flights

none_pending : (count p : ℕ) → is_pending (slice_get (replicate count fresh_port) p) ≡ false
none_pending zero p = refl
none_pending (suc count) zero = refl
none_pending (suc count) (suc p) = none_pending count p

module _ (t : Topology) (nodes : List NodeState) (idle : (i : ℕ) (n : NodeState) → slice_get nodes i ≡ Some n → has_idle_links n ≡ true)
    (s : Network NodeState) (nodes_are : s.nodes ≡ nodes) (lines_are : s.lines ≡ no_lines (line_count t)) (ports_are : s.ports ≡ replicate t.ports fresh_port) where
  -- no process's end waits or holds a byte
  record Quiet (N : ℕ) (process : Option (Own NodeState)) : Type 0 where
    waits : (line : ℕ) → waits_at t414_ends N process line ≡ false
    holds : (line : ℕ) → holds_at t414_ends process line ≡ false

  quiet_node : (N : ℕ) (found : Option NodeState) → ((n : NodeState) → found ≡ Some n → has_idle_links n ≡ true) → Quiet N (option_map OfNode found)
  quiet_node N None h = record { waits = λ line. refl; holds = λ line. refl }
  quiet_node N (Some n) h =
      let both = and_parts (list_all is_idle_out n.outputs) (list_all is_idle_in n.inputs) (h n refl) in
      record { waits = λ line. none_waits n.outputs (line % 4) both.0; holds = λ line. none_holds n.inputs (line % 4) both.1 }

  quiet_host : (N : ℕ) → Quiet N (Some (OfHost s.ports))
  quiet_host N = record {
    waits = λ line. ap (λ ports. is_pending (slice_get ports (line - 4 * N))) ports_are ∙ none_pending t.ports (line - 4 * N);
    holds = λ line. refl;
  }

  quiet : (N process : ℕ) → Quiet N (own s process)
  unfolding own
  quiet N process = go (process == length s.nodes)
    where
      go : (b : Bool) → Quiet N (cond b (Some (OfHost s.ports)) (option_map OfNode (slice_get s.nodes process)))
      go true = quiet_host N
      go false = quiet_node N (slice_get s.nodes process) (λ n is. idle process n (ap (λ ns. slice_get ns process) (sym nodes_are) ∙ is))

  one_place : (line : ℕ) (other : Option ℕ) → is_in_one_place t414_ends s line other ≡ true
  one_place line None =
      let Q = quiet (length s.nodes) (owner (length s.nodes) line) in
      not_from_false (end_holds t414_ends s line) (Q.holds line)
  one_place line (Some other) =
      let Q = quiet (length s.nodes) (owner (length s.nodes) line) in
      let R = quiet (length s.nodes) (owner (length s.nodes) other) in
      let waits = Q.waits line in
      let holds = R.holds other in
      let here : on_line s.lines line ≡ [] = ap (λ ls. on_line ls line) lines_are ∙ no_line (line_count t) line in
      let there : on_line s.lines other ≡ [] = ap (λ ls. on_line ls other) lines_are ∙ no_line (line_count t) other in
      λ i. bit (waits i) == datas (here i) + acks (there i) + bit (holds i)

  -- such a network is read back, as that of a cut of no entries
  pub fresh_reads_back : s.wires ≡ t.wires → AllByRecursion IsReadBack nodes → pages_of nodes ≡ t.pages → length t.wires ≡ line_count t → ReadsBack t414_ends t 0 s
  fresh_reads_back wires_are back_all pages_are count = record {
    wires = wires_are;
    nodes = subst (AllByRecursion IsReadBack) (sym nodes_are) back_all;
    pages = ap pages_of nodes_are ∙ pages_are;
    lines = ap (are_lines t.wires) (lines_are ∙ ap no_lines (sym count)) ∙ empty_lines t.wires;
    count = ap length ports_are ∙ length-replicate t.ports fresh_port;
    ports = subst (AllByRecursion (λ port. is_port_of 0 port ≡ true)) (sym ports_are) (empty_ports t.ports);
    flights = λ line low. one_place line (back s line);
    base_fits = omega arith;
  }
