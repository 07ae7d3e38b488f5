-- The fields of a flat network after an entry.
use Rattle.std.proofs.Common.{◌≡◌, ℕ, ◌+◌, ◌*◌, ◌<◌, ◌≤◌, true, false, inl, inr, List, length, set, get_or, refl, sym, ap, subst, ◌∙◌, arith, Option, Some, None, slice_get}
use Rattle.std.specs.Prelude.{is_some, Ok, Err}
use Rattle.tp_replay.proofs.Lower.{option_map, with_item, true≢false, cases_eq, length-map, map-set, slice_get-map, slice_get_past, slice_get_read, Token, Entry, NodeState, t414, ◌>>=◌, Port, Network, has_wire, sent, next, next_from, slice_get-set_same, slice_get-set_other, NodeContents, PortValue, on_lines, HasRoom}
use Rattle.tp_replay.specs.declared.network.FlatNetwork.TheInside.{Inside}
use Rattle.tp_replay.specs.declared.fault.NotPossible.{NotPossible}
use Rattle.tp_replay.specs.Answers.{AppliesEntry}
use Rattle.tp_replay.specs.Flat.{IsFlat, AreThawed, EntryTakesByte}
use Rattle.tp_replay.specs.Inside.{replay_state, IsInside}
use Rattle.tp_replay.proofs.Flat.{flat_step, room_step}
use Rattle.tp_replay.proofs.Steps.{Made, on_port, node_after, port_after}

-- ## Answers

pub refused : (o : Option (Network NodeState)) (fault : NotPossible) (now : Network NodeState) → o ≡ None → AppliesEntry o (Err fault) now
refused None fault now none = tt
refused (Some t) fault now none = cc

pub applied : (o : Option (Network NodeState)) (now : Network NodeState) → o ≡ Some now → AppliesEntry o (Ok tt) now
applied None now is = cc
applied (Some t) now is = let same : t ≡ now = cc in sym same

-- a port that doesn't exist changes in no way, nor does one that can't
pub nowhere : (ports : List Port) (p : ℕ) (change : Port → Option (Port × List Token)) → length ports ≤ p → slice_get ports p >>= change ≡ None
nowhere ports p change past = rw (slice_get_past ports p past) refl

pub cannot : (ports : List Port) (p : ℕ) (port : Port) (change : Port → Option (Port × List Token)) → slice_get ports p ≡ Some port → is_some (change port) ≡ false → slice_get ports p >>= change ≡ None
cannot ports p port change there isnt = ap (λ o. o >>= change) there ∙ go (change port) isnt
  where
    go : (o : Option (Port × List Token)) → is_some o ≡ false → o ≡ None
    go None isnt = refl
    go (Some x) isnt = absurd (true≢false isnt)

-- what an option is that is there
pub there_is : {A : Type 0} (o : Option A) → is_some o ≡ true → (x : A) × (o ≡ Some x)
there_is None is = absurd (true≢false (sym is))
there_is (Some x) is = (x, refl)

-- an element that was read twice
pub same_item : {A : Type 0} (xs : List A) (i : ℕ) (x y : A) → i < length xs → x ≡ get_or xs i x → y ≡ get_or xs i y → x ≡ y
same_item xs i x y below first second =
    let a = slice_get_read xs (length xs) i x refl below first in
    let b = slice_get_read xs (length xs) i y refl below second in
    cc

-- ## Fields

module _ (n : Inside) (I : IsInside n) where
  pub node_count : length (replay_state n).nodes ≡ length n.nodes.items
  node_count = length-map n.nodes.items (λ node. node.live)

  pub port_count : length (replay_state n).ports ≡ length n.ports.items
  port_count = length-map n.ports.items (λ port. port.port)

  pub node_at : (i : ℕ) (node : NodeContents) → i < length n.nodes.items → node ≡ get_or n.nodes.items i node → slice_get (replay_state n).nodes i ≡ Some node.live
  node_at i node below is = slice_get-map (λ node. node.live) n.nodes.items i ∙ ap (option_map (λ node. node.live)) (slice_get_read n.nodes.items (length n.nodes.items) i node refl below is)

  pub port_at : (p : ℕ) (port : PortValue) → p < length n.ports.items → port ≡ get_or n.ports.items p port → slice_get (replay_state n).ports p ≡ Some port.port
  port_at p port below is = slice_get-map (λ port. port.port) n.ports.items p ∙ ap (option_map (λ port. port.port)) (slice_get_read n.ports.items (length n.ports.items) p port refl below is)

  -- the line of a port is there
  pub line_known : (p line : ℕ) → p < length n.ports.items → line ≡ 4 * length (replay_state n).nodes + p → line < length n.wires.items
  line_known p line below same = omega (arith, I.flat.shaped.wires, port_count, below, same)

  pub line_there : (p line : ℕ) → p < length n.ports.items → line ≡ 4 * length (replay_state n).nodes + p → line < length n.lines
  line_there p line below same = omega (arith, I.flat.shaped.lines, port_count, below, same)

  -- what is sent finds room
  pub room : (e : Entry) (out : List (List Token)) (sends : List (ℕ × Token)) (t : Network NodeState) → Made (replay_state n) e out sends t → HasRoom (has_wire n.wires.items) out sends
  room e out sends t M = rw (← M.is_out, ← M.is_sends) (room_step (replay_state n) I.flat e t M.step)

  -- after a port's change
  module _ (e : Entry) (out : List (List Token)) (p : ℕ) (port : PortValue) (tokens : List Token) (M : Made (replay_state n) e out (on_port (4 * length (replay_state n).nodes + p) tokens) (port_after (replay_state n) out p port.port tokens))
      (lines : List (List Token)) (on : lines ≡ sent (has_wire n.wires.items) out (on_port (4 * length (replay_state n).nodes + p) tokens)) where
    pub port_state : replay_state (record n { ports = with_item n.ports p port; lines = lines }) ≡ port_after (replay_state n) out p port.port tokens
    port_state =
        ap (λ ports. record (replay_state n) { ports = ports; lines = lines }) (map-set (λ port. port.port) n.ports.items p port)
        ∙ ap (λ given. record (replay_state n) { ports = set (replay_state n).ports p port.port; lines = given }) on

    pub port_inside : EntryTakesByte e → IsInside (record n { ports = with_item n.ports p port; lines = lines })
    port_inside low = record { flat = subst IsFlat (sym port_state) (flat_step (replay_state n) I.flat e (port_after (replay_state n) out p port.port tokens) M.step low); thawed = I.thawed }

    pub port_next : next t414 (replay_state n) e ≡ Some (replay_state (record n { ports = with_item n.ports p port; lines = lines }))
    port_next = next_from t414 (replay_state n) e (port_after (replay_state n) out p port.port tokens) M.step ∙ ap Some (sym port_state)

  -- a node that is no more frozen than it was
  pub still_thawed : (i : ℕ) (old node : NodeContents) → slice_get n.nodes.items i ≡ Some old → node.frozen ≡ old.frozen → AreThawed (set n.nodes.items i node)
  still_thawed i old node there thawed j c at = elim (cases_eq j i) [
    | inl same ↦
        let is : node ≡ c = cc (slice_get-set_same n.nodes.items i node old there) in
        ap (λ x. x.frozen) (sym is) ∙ thawed ∙ I.thawed i old there
    | inr other ↦ I.thawed j c (sym (slice_get-set_other n.nodes.items i j node other) ∙ at)
  ]

  -- after a node's
  module _ (e : Entry) (out : List (List Token)) (i : ℕ) (old node : NodeContents) (there : slice_get n.nodes.items i ≡ Some old) (thawed : node.frozen ≡ old.frozen) (tokens : List (ℕ × Token))
      (M : Made (replay_state n) e out (on_lines i tokens) (node_after (replay_state n) out i node.live tokens))
      (lines : List (List Token)) (on : lines ≡ sent (has_wire n.wires.items) out (on_lines i tokens)) where
    pub node_state : replay_state (record n { nodes = with_item n.nodes i node; lines = lines }) ≡ node_after (replay_state n) out i node.live tokens
    node_state =
        ap (λ nodes. record (replay_state n) { nodes = nodes; lines = lines }) (map-set (λ node. node.live) n.nodes.items i node)
        ∙ ap (λ given. record (replay_state n) { nodes = set (replay_state n).nodes i node.live; lines = given }) on

    pub node_inside : EntryTakesByte e → IsInside (record n { nodes = with_item n.nodes i node; lines = lines })
    node_inside low = record { flat = subst IsFlat (sym node_state) (flat_step (replay_state n) I.flat e (node_after (replay_state n) out i node.live tokens) M.step low); thawed = still_thawed i old node there thawed }

    pub node_next : next t414 (replay_state n) e ≡ Some (replay_state (record n { nodes = with_item n.nodes i node; lines = lines }))
    node_next = next_from t414 (replay_state n) e (node_after (replay_state n) out i node.live tokens) M.step ∙ ap Some (sym node_state)
