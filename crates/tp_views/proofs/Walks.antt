-- A node that makes its entries again, and who waits at its links meanwhile.
use Rattle.std.specs.Prelude.{◌≡◌, ◌≤◌, ◌+◌, ◌-◌, ℕ, zero, suc, true, false, List, [], ◌∷◌, length, map, Option, Some, None, set, slice_get, is_some}
use Rattle.std.proofs.Common.{◌∙◌, sym, ap, subst, arith}
use Rattle.tp_views.proofs.Lower.{length-map, map-set, slice_get-map, slice_get_past, process, AllByRecursion, option_map, NodeState, steps, t414, node_step, Entry, Token, WireEnd, IsNodeOfBytes, bind_some, why_fewer, why_most, NodeContents, IsWhy, Why, live_node, AreAllThawed, Hears, stepped, took_one, Heard}
use Rattle.tp_views.specs.EntriesTraced.{after_entry, ran}
use Rattle.tp_views.specs.Since.{entry_since, found_after, found_with, known_since, nodes_after, nodes_with, walked}
use Rattle.tp_views.specs.declared.waits.scene.NodeSeen.{NodeSeen}
use Rattle.tp_views.specs.declared.waits.since.NodeSince.{NodeSince}
use Rattle.tp_views.proofs.EntriesTraced.{ran_goes, ran_none, ran_stops}

-- ## A token

pub heard_goes : (heard : Option Heard) (was now : NodeState) (link : ℕ) (token : Token) → is_some heard ≡ true → Hears heard was link token now → took_one was link token ≡ Some now
heard_goes (Some one) was now link token some hears = hears.0
heard_goes None was now link token some hears = absurd (cc)

pub heard_stops : (heard : Option Heard) (was now : NodeState) (link : ℕ) (token : Token) → is_some heard ≡ false → Hears heard was link token now → (took_one was link token ≡ None) × (now ≡ was)
heard_stops (Some one) was now link token none hears = absurd (cc)
heard_stops None was now link token none hears = hears

-- ## Steps

same_node : (a b : NodeState × List (ℕ × Token)) → Some a ≡ Some b → a.0 ≡ b.0
same_node a b same = let one : a ≡ b = cc in ap (λ (x : NodeState × List (ℕ × Token)). x.0) one

-- steps that were made are the first of more
ran_more : (count left : ℕ) (was now : NodeState) (out : List (ℕ × Token)) → steps t414 count was ≡ Some (now, out) → ran (count + left) was ≡ ran left now
unfolding steps
ran_more zero left was now out made =
    let same : was ≡ now = same_node (was, []) (now, out) made in
    let none : zero + left ≡ left = omega arith in
    ap (λ n. ran n was) none ∙ ap (ran left) same
ran_more (suc count) left was now out made =
    let first = bind_some (node_step was) _ (now, out) made in
    let rest = bind_some (steps t414 count first.0.0) _ (now, out) first.2 in
    let same : rest.0.0 ≡ now = same_node (rest.0.0, _) (now, out) rest.2 in
    let more : suc count + left ≡ suc (count + left) = omega arith in
    let goes : stepped was ≡ Some first.0.0 = ap (option_map (λ (after : NodeState × List (ℕ × Token)). after.0)) first.1 in
    ap (λ n. ran n was) more ∙ ran_goes (count + left) was first.0.0 goes ∙ ran_more count left first.0.0 rest.0.0 rest.0.1 rest.1 ∙ ap (ran left) same

-- a run makes as many steps as it may, or as it can
pub made_all : (max count : ℕ) (why : Why) (cause : Type 0) (was now : NodeState) (out : List (ℕ × Token)) → IsWhy why max count cause now → (cause → ⊥) → steps t414 count was ≡ Some (now, out)
    → now ≡ ran max was
made_all max count why cause was now out is never made =
    let most = why_most why max count cause now is in
    let counted : max ≡ count + (max - count) = omega (arith, most) in
    sym (go (max - count) counted) ∙ sym (ran_more count (max - count) was now out made) ∙ ap (λ n. ran n was) (sym counted)
  where
    go : (left : ℕ) → max ≡ count + left → ran left now ≡ now
    go zero counted = ran_none now
    go (suc left) counted =
        let rests = why_fewer why max count cause now is never (omega (arith, counted)) in
        ran_stops left now (ap (option_map (λ (after : NodeState × List (ℕ × Token)). after.0)) rests)

-- ## Entries

pub walked_more : (wires : List (Option WireEnd)) (seen : List NodeSeen) (all rest : List (Entry × ℕ)) (kept : Entry × ℕ) (nodes : List NodeState) (found : List NodeSince) → all ≡ kept ∷ rest
    → walked wires seen all nodes found ≡ walked wires seen rest (nodes_after wires kept nodes) (found_after wires seen kept nodes found)
unfolding walked
walked_more wires seen all rest kept nodes found is = ap (λ es. walked wires seen es nodes found) is

pub walked_none : (wires : List (Option WireEnd)) (seen : List NodeSeen) (all : List (Entry × ℕ)) (nodes : List NodeState) (found : List NodeSince) → all ≡ [] → walked wires seen all nodes found ≡ found
unfolding walked
walked_none wires seen all nodes found is = ap (λ es. walked wires seen es nodes found) is

-- ## Nodes

-- an entry of one of these nodes, and of none of them
module _ (wires : List (Option WireEnd)) (kept : Entry × ℕ) (nodes : List NodeContents) (i : ℕ) (is : i ≡ process wires (length nodes) kept.0) where
  own : process wires (length (map live_node nodes)) kept.0 ≡ i
  own = ap (λ n. process wires n kept.0) (length-map nodes live_node) ∙ sym is

  nodes_by : (o : Option NodeState) → slice_get (map live_node nodes) i ≡ o → nodes_after wires kept (map live_node nodes) ≡ nodes_with wires kept i (map live_node nodes) o
  nodes_by o at =
      ap (λ j. nodes_with wires kept j (map live_node nodes) (slice_get (map live_node nodes) j)) own ∙ ap (nodes_with wires kept i (map live_node nodes)) at

  found_by : (seen : List NodeSeen) (found : List NodeSince) (o : Option NodeState) → slice_get (map live_node nodes) i ≡ o → found_after wires seen kept (map live_node nodes) found ≡ found_with wires seen kept i found o
  found_by seen found o at =
      ap (λ j. found_with wires seen kept j found (slice_get (map live_node nodes) j)) own ∙ ap (found_with wires seen kept i found) at

  there : (node : NodeContents) → slice_get nodes i ≡ Some node → slice_get (map live_node nodes) i ≡ Some node.live
  there node at = slice_get-map live_node nodes i ∙ ap (option_map live_node) at

  past : length nodes ≤ i → slice_get (map live_node nodes) i ≡ None
  past beyond = slice_get-map live_node nodes i ∙ ap (option_map live_node) (slice_get_past nodes i beyond)

  pub nodes_there : (node after : NodeContents) → slice_get nodes i ≡ Some node → after.live ≡ after_entry wires kept.0 node.live → map live_node (set nodes i after) ≡ nodes_after wires kept (map live_node nodes)
  nodes_there node after at goes =
      map-set live_node nodes i after ∙ ap (set (map live_node nodes) i) goes ∙ sym (nodes_by (Some node.live) (there node at))

  pub nodes_past : length nodes ≤ i → map live_node nodes ≡ nodes_after wires kept (map live_node nodes)
  nodes_past beyond = sym (nodes_by None (past beyond))

  pub found_there : (seen : List NodeSeen) (found : List NodeSince) (node : NodeContents) → slice_get nodes i ≡ Some node
      → set found i (entry_since wires seen i kept node.live (known_since found i)) ≡ found_after wires seen kept (map live_node nodes) found
  found_there seen found node at = sym (found_by seen found (Some node.live) (there node at))

  pub found_past : (seen : List NodeSeen) (found : List NodeSince) → length nodes ≤ i → found ≡ found_after wires seen kept (map live_node nodes) found
  found_past seen found beyond = sym (found_by seen found None (past beyond))

-- a node that has an image
pub bytes_at : (nodes : List NodeContents) → AllByRecursion IsNodeOfBytes (map live_node nodes) → (i : ℕ) (node : NodeContents) → slice_get nodes i ≡ Some node → IsNodeOfBytes node.live
bytes_at [] all i node is = absurd (cc)
bytes_at (one ∷ nodes) all zero node is = subst (λ (n : NodeContents). IsNodeOfBytes n.live) (let same : one ≡ node = cc in same) all.0
bytes_at (one ∷ nodes) all (suc i) node is = bytes_at nodes all.1 i node is

-- one of them isn't frozen
pub thawed_at : (nodes : List NodeContents) → AreAllThawed nodes → (i : ℕ) (node : NodeContents) → slice_get nodes i ≡ Some node → node.frozen ≡ None
thawed_at [] all i node at = absurd (cc)
thawed_at (first ∷ nodes) all zero node at = let same : first ≡ node = cc in subst (λ (n : NodeContents). n.frozen ≡ None) same all.0
thawed_at (first ∷ nodes) all (suc i) node at = thawed_at nodes all.1 i node at

-- one of them is another node
pub bytes_set : (nodes : List NodeContents) → AllByRecursion IsNodeOfBytes (map live_node nodes) → (i : ℕ) (node : NodeContents) → IsNodeOfBytes node.live → AllByRecursion IsNodeOfBytes (map live_node (set nodes i node))
bytes_set [] all i node one = all
bytes_set (first ∷ nodes) all zero node one = (one, all.1)
bytes_set (first ∷ nodes) all (suc i) node one = (all.0, bytes_set nodes all.1 i node one)

pub thawed_set : (nodes : List NodeContents) → AreAllThawed nodes → (i : ℕ) (node : NodeContents) → node.frozen ≡ None → AreAllThawed (set nodes i node)
thawed_set [] all i node one = all
thawed_set (first ∷ nodes) all zero node one = (one, all.1)
thawed_set (first ∷ nodes) all (suc i) node one = (all.0, thawed_set nodes all.1 i node one)
