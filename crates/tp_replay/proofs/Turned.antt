-- A turn of a node, of as many steps as it could make.
use Rattle.std.proofs.Common.{◌≡◌, ℕ, ◌+◌, ◌*◌, ◌<◌, ◌≤◌, true, List, [], ◌∷◌, ◌++◌, length, refl, sym, ap, subst, ◌∙◌, arith, Some, None, IsSome, slice_get}
use Rattle.std.specs.Prelude.{Bool, ◌&&◌, is_some, nat_lt, nat_le}
use Rattle.tp_replay.proofs.Lower.{AllByRecursion, option_map, with_item, and_parts, leb-true, le-leb, map-append, slice_get-map, slice_get_within, Token, Received, Turn, MAX_STEPS, NodeState, t414, node_step, Network, steps, has_wire, pushed, sent, taken, by_link, by_line, comes_in, took_all, takes, IsFront, sent-append, steps_links, unmarked_links, CarryBytes, has_four_links, NodeContents, on_lines, HasRoom, all_known, found}
use Rattle.tp_replay.specs.declared.network.FlatNetwork.TheInside.{Inside}
use Rattle.tp_replay.specs.Answers.{TurnedUpTo}
use Rattle.tp_replay.specs.Inside.{replay_state, IsInside}
use Rattle.tp_replay.proofs.Applied.{there_is, node_count, room, node_inside, node_next}
use Rattle.tp_replay.proofs.Impossible.{steps_fewer, turn_short}
use Rattle.tp_replay.proofs.Steps.{Made, node_after, turn_takes}
use Rattle.tp_replay.proofs.TakenAll.{all_taken, answers_links}

-- ## Room for two parts of what is sent

pub room_parts : (on : ℕ → Bool) (lines : List (List Token)) (ms ns : List (ℕ × Token)) → HasRoom on lines (ms ++ ns) → HasRoom on lines ms × HasRoom on (sent on lines ms) ns
unfolding sent
room_parts on lines [] ns room = (tt, room)
room_parts on lines (m ∷ ms) ns room = let R = room_parts on (pushed on lines m.0 m.1) ms ns room.1 in ((room.0, R.0), R.1)

-- ## Where it is possible to take

-- its tokens came in on its links, and are at the front of their lines
pub front_there : (s : Network NodeState) (i : ℕ) (links : List Received) (count : ℕ) → i < length s.nodes → (nat_lt 0 (length (by_link 0 links)) && nat_le count MAX_STEPS) ≡ true
    → (comes_in s.wires (length s.nodes) i (by_link 0 links) && is_some (taken s.lines (by_line s.wires (length s.nodes) i (by_link 0 links)))) ≡ true → IsFront s i links count
unfolding takes
front_there s i links count below turn stands =
    let counts = and_parts (nat_lt 0 (length (by_link 0 links))) (nat_le count MAX_STEPS) turn in
    let parts = and_parts (comes_in s.wires (length s.nodes) i (by_link 0 links)) (is_some (taken s.lines (by_line s.wires (length s.nodes) i (by_link 0 links)))) stands in
    let out = there_is (taken s.lines (by_line s.wires (length s.nodes) i (by_link 0 links))) parts.1 in
    let node = found s.nodes i below in
    record { node = node.0; there = node.1; into = parts.0; some = counts.0; few = counts.1; out = out.0; front = out.1 }

-- ## The fields after it

module _ (n : Inside) (I : IsInside n) (i : ℕ) (links : List Received) (most : ℕ) (F : IsFront (replay_state n) i links most) where
  pub node_there : i < length n.nodes.items
  node_there = omega (arith, node_count n I, slice_get_within (replay_state n).nodes i F.node F.there)

  -- the tokens are taken off
  pub off_lines : IsSome (taken n.lines (by_line n.wires.items (length n.nodes.items) i (by_link 0 links)))
  unfolding takes
  off_lines = rw (← node_count n I) (ap is_some F.front)

  pub out_is : (out : List (List Token)) → taken n.lines (by_line n.wires.items (length n.nodes.items) i (by_link 0 links)) ≡ Some out → F.out ≡ out
  unfolding takes
  out_is out e =
      let first : taken n.lines (by_line n.wires.items (length n.nodes.items) i (by_link 0 links)) ≡ Some F.out = rw (← node_count n I) F.front in
      cc

  module _ (low : CarryBytes (by_link 0 links)) (node : NodeContents) (there : slice_get n.nodes.items i ≡ Some node) where
    at : slice_get (replay_state n).nodes i ≡ Some node.live
    at = slice_get-map (λ node. node.live) n.nodes.items i ∙ ap (option_map (λ node. node.live)) there

    mine : F.node ≡ node.live
    mine = let same : Some F.node ≡ Some node.live = sym F.there ∙ at in cc

    below : i < length (replay_state n).nodes
    below = slice_get_within (replay_state n).nodes i node.live at

    first_line : 4 * i + 4 ≤ length n.wires.items
    first_line = omega (arith, I.flat.shaped.wires, below)

    few_steps : (count : ℕ) → count ≤ most → nat_le count MAX_STEPS ≡ true
    few_steps count few = let all = leb-true most MAX_STEPS F.few in le-leb count MAX_STEPS (omega (arith, few, all))

    pub node_can : IsSome (took_all t414 (by_link 0 links) node.live)
    unfolding takes
    node_can = all_taken (replay_state n) I.flat (length (replay_state n).nodes) i refl (by_link 0 links) node.live F.out F.into F.front at low (unmarked_links 0 links)

    module _ (mid : NodeState) (answers : List (ℕ × Token)) (took : took_all t414 (by_link 0 links) node.live ≡ Some (mid, answers))
        (new : NodeContents) (kept : new.frozen ≡ node.frozen) (count : ℕ) (tokens : List (ℕ × Token)) (ran : steps t414 count mid ≡ Some (new.live, tokens)) (few : count ≤ most) where
      step : Made (replay_state n) (Turn i links count) F.out (on_lines i (answers ++ tokens)) (node_after (replay_state n) F.out i new.live (answers ++ tokens))
      step = turn_takes (replay_state n) i links most count mid new.live answers tokens F (few_steps count few) (ap (took_all t414 (by_link 0 links)) mine ∙ took) ran

      parts : on_lines i (answers ++ tokens) ≡ on_lines i answers ++ on_lines i tokens
      parts = map-append (λ (m : ℕ × Token). (4 * i + m.0, m.1)) answers tokens

      rooms : HasRoom (has_wire n.wires.items) F.out (on_lines i answers) × HasRoom (has_wire n.wires.items) (sent (has_wire n.wires.items) F.out (on_lines i answers)) (on_lines i tokens)
      rooms = room_parts (has_wire n.wires.items) F.out (on_lines i answers) (on_lines i tokens)
          (subst (HasRoom (has_wire n.wires.items) F.out) parts (room n I (Turn i links count) F.out (on_lines i (answers ++ tokens)) (node_after (replay_state n) F.out i new.live (answers ++ tokens)) step))

      pub answers_room : (out : List (List Token)) → F.out ≡ out → HasRoom (has_wire n.wires.items) out (on_lines i answers)
      answers_room out same = subst (λ lines. HasRoom (has_wire n.wires.items) lines (on_lines i answers)) same rooms.0

      pub tokens_room : (out : List (List Token)) → F.out ≡ out → HasRoom (has_wire n.wires.items) (sent (has_wire n.wires.items) out (on_lines i answers)) (on_lines i tokens)
      tokens_room out same = subst (λ lines. HasRoom (has_wire n.wires.items) (sent (has_wire n.wires.items) lines (on_lines i answers)) (on_lines i tokens)) same rooms.1

      pub answers_known : AllByRecursion (λ m. 4 * i + m.0 < length n.wires.items) answers
      answers_known = all_known (4 * i) (length n.wires.items) answers first_line (answers_links (by_link 0 links) node.live (mid, answers) took)

      pub tokens_known : AllByRecursion (λ m. 4 * i + m.0 < length n.wires.items) tokens
      tokens_known = all_known (4 * i) (length n.wires.items) tokens first_line (steps_links t414 has_four_links count mid (new.live, tokens) ran)

      module _ (out lines : List (List Token)) (same : F.out ≡ out) (on : lines ≡ sent (has_wire n.wires.items) (sent (has_wire n.wires.items) out (on_lines i answers)) (on_lines i tokens)) where
        both : lines ≡ sent (has_wire n.wires.items) F.out (on_lines i (answers ++ tokens))
        both =
            on ∙ ap (λ ls. sent (has_wire n.wires.items) (sent (has_wire n.wires.items) ls (on_lines i answers)) (on_lines i tokens)) (sym same)
            ∙ sym (ap (sent (has_wire n.wires.items) F.out) parts ∙ sent-append (has_wire n.wires.items) F.out (on_lines i answers) (on_lines i tokens))

        pub turned_inside : IsInside (record n { nodes = with_item n.nodes i new; lines = lines })
        turned_inside = node_inside n I (Turn i links count) F.out i node new there kept (answers ++ tokens) step lines both low

        -- The steps are all that it can make.
        pub turned_upto : (count < most → node_step new.live ≡ None) → TurnedUpTo (replay_state n) i links most count (replay_state (record n { nodes = with_item n.nodes i new; lines = lines }))
        turned_upto all = record {
          few = few;
          is = node_next n I (Turn i links count) F.out i node new there kept (answers ++ tokens) step lines both;
          all = λ fewer. turn_short (replay_state n) i links most node.live (mid, answers) at took (steps_fewer t414 count most mid (new.live, tokens) ran (all fewer) fewer);
        }
