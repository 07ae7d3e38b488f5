-- A run of a node, of as many steps as it could make.
use Rattle.std.proofs.Common.{◌≡◌, ℕ, zero, suc, ◌+◌, ◌*◌, ◌<◌, ◌≤◌, inl, inr, List, [], length, set, refl, sym, ap, subst, ◌∙◌, arith, Some, None, slice_get}
use Rattle.tp_replay.proofs.Lower.{AllByRecursion, option_map, with_item, map-set, slice_get-map, slice_get_within, Token, Run, MAX_STEPS, NodeState, t414, node_step, Network, steps, has_wire, sent, next, steps_links, slice_get-set_same, has_four_links, NodeContents, on_lines, HasRoom, set_back, all_known}
use Rattle.tp_replay.specs.declared.network.FlatNetwork.TheInside.{Inside}
use Rattle.tp_replay.specs.Answers.{LeavesShort, RanUpTo}
use Rattle.tp_replay.specs.Flat.{IsFlat}
use Rattle.tp_replay.specs.Inside.{replay_state, IsInside}
use Rattle.tp_replay.proofs.Applied.{room, node_inside, node_next, still_thawed}
use Rattle.tp_replay.proofs.Impossible.{steps_fewer, run_short}
use Rattle.tp_replay.proofs.Steps.{Made, node_after, run_step}

-- ## The fields after it

module _ (n : Inside) (I : IsInside n) (i : ℕ) (node new : NodeContents) (there : slice_get n.nodes.items i ≡ Some node) (kept : new.frozen ≡ node.frozen)
    (count : ℕ) (tokens : List (ℕ × Token)) (ran : steps t414 count node.live ≡ Some (new.live, tokens)) (few : count ≤ MAX_STEPS) where
  at : slice_get (replay_state n).nodes i ≡ Some node.live
  at = slice_get-map (λ node. node.live) n.nodes.items i ∙ ap (option_map (λ node. node.live)) there

  below : i < length (replay_state n).nodes
  below = slice_get_within (replay_state n).nodes i node.live at

  pub ran_known : AllByRecursion (λ m. 4 * i + m.0 < length n.wires.items) tokens
  ran_known = all_known (4 * i) (length n.wires.items) tokens (omega (arith, I.flat.shaped.wires, below)) (steps_links t414 has_four_links count node.live (new.live, tokens) ran)

  -- without a step nothing is sent
  nothing : count ≡ 0 → ◌≡◌ {A = NodeState × List (ℕ × Token)} (node.live, []) (new.live, tokens)
  unfolding steps
  nothing none =
      let is : steps t414 0 node.live ≡ Some (new.live, tokens) = subst (λ k. steps t414 k node.live ≡ Some (new.live, tokens)) none ran in
      cc

  step : 0 < count → Made (replay_state n) (Run i count) n.lines (on_lines i tokens) (node_after (replay_state n) n.lines i new.live tokens)
  step some = run_step (replay_state n) i count node.live new.live tokens at some few ran

  pub ran_room : HasRoom (has_wire n.wires.items) n.lines (on_lines i tokens)
  ran_room = go count refl
    where
      go : (k : ℕ) → count ≡ k → HasRoom (has_wire n.wires.items) n.lines (on_lines i tokens)
      go zero none = rw (← ap (λ r. r.1) (nothing none)) tt
      go (suc k) some = room n I (Run i count) n.lines (on_lines i tokens) (node_after (replay_state n) n.lines i new.live tokens) (step (omega arith))

  module _ (lines : List (List Token)) (on : lines ≡ sent (has_wire n.wires.items) n.lines (on_lines i tokens)) where
    -- without a step the network is as it was
    pub ran_none : count ≡ 0 → replay_state (record n { nodes = with_item n.nodes i new; lines = lines }) ≡ replay_state n
    unfolding sent
    ran_none none =
        let same = nothing none in
        let still : lines ≡ n.lines = on ∙ ap (λ r. sent (has_wire n.wires.items) n.lines (on_lines i r.1)) (sym same) in
        ap (λ nodes. record (replay_state n) { nodes = nodes; lines = lines }) (map-set (λ node. node.live) n.nodes.items i new)
        ∙ ap (λ given. record (replay_state n) { nodes = given; lines = lines }) (set_back (replay_state n).nodes i new.live (at ∙ ap (λ r. Some r.0) same))
        ∙ ap (λ given. record (replay_state n) { lines = given }) still

    pub ran_next : 0 < count → next t414 (replay_state n) (Run i count) ≡ Some (replay_state (record n { nodes = with_item n.nodes i new; lines = lines }))
    ran_next some = node_next n I (Run i count) n.lines i node new there kept tokens (step some) lines on

    pub ran_inside : IsInside (record n { nodes = with_item n.nodes i new; lines = lines })
    ran_inside = go count refl
      where
        go : (k : ℕ) → count ≡ k → IsInside (record n { nodes = with_item n.nodes i new; lines = lines })
        go zero none = record { flat = subst IsFlat (sym (ran_none none)) I.flat; thawed = still_thawed n I i node new there kept }
        go (suc k) some = node_inside n I (Run i count) n.lines i node new there kept tokens (step (omega arith)) lines on tt

    -- The run is all that it can make.
    pub ran_upto : (max : ℕ) → count ≤ max → (count < max → node_step new.live ≡ None) → RanUpTo (replay_state n) i max count (replay_state (record n { nodes = with_item n.nodes i new; lines = lines }))
    ran_upto max most all = record {
      few = most;
      before = node.live;
      there = at;
      behind = new.live;
      stands = slice_get-map (λ node. node.live) (set n.nodes.items i new) i ∙ ap (option_map (λ node. node.live)) (slice_get-set_same n.nodes.items i new node there);
      tokens = tokens;
      made = ran;
      none = ran_none;
      some = ran_next;
      all = all;
    }

-- ## What it is as an entry

module _ (s : Network NodeState) (i most count : ℕ) (now : Network NodeState) (R : RanUpTo s i most count now) where
  -- If all steps were made, it is the entry.
  pub ran_all : count ≡ most → 0 < most → next t414 s (Run i most) ≡ Some now
  ran_all all some = subst (λ k. next t414 s (Run i k) ≡ Some now) all (R.some (omega (arith, all, some)))

  -- If fewer were made, the entry isn't possible.
  pub ran_not : count < most → next t414 s (Run i most) ≡ None
  ran_not fewer = run_short s i most R.before R.there (steps_fewer t414 count most R.before (R.behind, R.tokens) R.made (R.all fewer) fewer)

  pub ran_cut : count < most → LeavesShort s (Run i most) now
  ran_cut fewer = go count refl
    where
      go : (k : ℕ) → count ≡ k → LeavesShort s (Run i most) now
      go zero none = inl (R.none none)
      go (suc k) some = inr (record { made = count; fewer = fewer; is = R.some (omega (arith, some)) })
