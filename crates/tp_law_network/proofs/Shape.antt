-- The networks of the invariant have one shape, and an entry keeps what holds at any time.
use Rattle.std.proofs.Common.{◌≡◌, ℕ, ◌+◌, ◌*◌, ◌<◌, Bool, true, false, cond, List, [], ◌∷◌, ◌++◌, length, refl, sym, ap, subst, ◌∙◌, append-nil}
use Rattle.tp_law_network.proofs.Lower.{length-map, fun_ext, Token, Entry, Machine, Network, has_wire, on_line, for_line, process, takes, HasFourLinks, markers, plain, plain_network, NeverMarks, Snapshot, MarkedNetwork, journalled}
use Rattle.tp_law_network.proofs.Lines.{on_taken, length_taken, on_sent}
use Rattle.tp_law_network.proofs.Local.{Step, SameShape, step_shape, step_lines, next_from, process_kept}
use Rattle.tp_law_network.proofs.Reorder.{after_last, after_shape}
use Rattle.tp_law_network.proofs.Room.{markers-for_line}
use Rattle.tp_law_network.proofs.Marks.{markers-taken}
use Rattle.tp_law_network.proofs.Plain.{plain_step, step_markers, step_takes_unmarked, step_sends_unmarked}
use Rattle.tp_law_network.specs.Invariant.{Base, Marking}

module _ {Node : Type 0} (M : Machine Node) (four : HasFourLinks M) (w : MarkedNetwork Node) (B : Base M w) where
  live_shape : SameShape w.start (plain_network w.live)
  live_shape = after_shape M four w.start (plain_network w.live) w.entries B.now

  pub live_wires : w.live.wires ≡ w.start.wires
  live_wires = live_shape.wires

  pub live_nodes : length w.live.nodes ≡ length w.start.nodes
  live_nodes = live_shape.nodes

  pub live_lines : length w.live.lines ≡ length w.start.lines
  live_lines = sym (length-map w.live.lines plain) ∙ live_shape.lines

  pub live_process : process w.live.wires (length w.live.nodes) ≡ process w.start.wires (length w.start.nodes)
  live_process = fun_ext (process_kept w.start w.live (record { wires = live_wires; nodes = live_nodes; ports = live_shape.ports; lines = live_lines }))

  module _ (snap : Snapshot) (K : Marking M w.start w.entries w.live w.frozen snap) where
    mid_shape : SameShape w.start K.mid
    mid_shape = after_shape M four w.start K.mid _ K.consistent

    pub mid_wires : K.mid.wires ≡ w.live.wires
    mid_wires = mid_shape.wires ∙ sym live_wires

    pub mid_nodes : length K.mid.nodes ≡ length w.live.nodes
    mid_nodes = mid_shape.nodes ∙ sym live_nodes

    pub mid_lines : length K.mid.lines ≡ length w.live.lines
    mid_lines = mid_shape.lines ∙ sym live_lines

    pub mid_process : process K.mid.wires (length K.mid.nodes) ≡ process w.start.wires (length w.start.nodes)
    mid_process = fun_ext (process_kept w.start K.mid mid_shape)

  -- an entry's lines
  module _ (e : Entry) (v : Network Node) (S : Step M w.live e v) where
    pub was_line : (l : ℕ) → on_line w.live.lines l ≡ for_line l (takes w.live.wires (length w.live.nodes) e) ++ on_line S.out l
    was_line l = on_taken w.live.lines (takes w.live.wires (length w.live.nodes) e) S.out S.takes_out l

    pub now_line : (l : ℕ) → on_line v.lines l ≡ on_line S.out l ++ cond (has_wire w.live.wires l) (for_line l S.sends) []
    now_line l = ap (λ lines. on_line lines l) (step_lines M four w.live e v S)
        ∙ on_sent (has_wire w.live.wires) S.out S.sends l (λ y. subst (λ n. l < n) (sym (length_taken w.live.lines (takes w.live.wires (length w.live.nodes) e) S.out S.takes_out)) (B.wired l y))

    -- nothing is taken from a line without a wire
    pub out_unwired : (l : ℕ) → has_wire w.live.wires l ≡ false → (for_line l (takes w.live.wires (length w.live.nodes) e) ≡ []) × (on_line S.out l ≡ [])
    out_unwired l n = both (for_line l (takes w.live.wires (length w.live.nodes) e)) (on_line S.out l) (sym (was_line l) ∙ B.unwired l n)
      where
        both : (us vs : List Token) → us ++ vs ≡ [] → (us ≡ []) × (vs ≡ [])
        both [] vs h = (refl, h)
        both (u ∷ us) vs h = cc

    module _ (never : NeverMarks M) where
      pub takes_unmarked : (l : ℕ) → markers (for_line l (takes w.live.wires (length w.live.nodes) e)) ≡ 0
      takes_unmarked l = markers-for_line l (takes w.live.wires (length w.live.nodes) e) (step_takes_unmarked M never w.live e v S)

      pub sends_unmarked : (l : ℕ) → ◌≡◌ {A = ℕ} (markers (cond (has_wire w.live.wires l) (for_line l S.sends) [])) 0
      sends_unmarked l = go (has_wire w.live.wires l)
        where
          go : (b : Bool) → ◌≡◌ {A = ℕ} (markers (cond b (for_line l S.sends) [])) 0
          go true = markers-for_line l S.sends (step_sends_unmarked M never w.live e v S)
          go false = refl

      -- an entry leaves as many Markers
      pub markers_left : (l : ℕ) → markers (on_line S.out l) ≡ markers (on_line w.live.lines l)
      markers_left = markers-taken w.live.lines (takes w.live.wires (length w.live.nodes) e) S.out (step_takes_unmarked M never w.live e v S) S.takes_out

      pub markers_kept : (l : ℕ) → markers (on_line v.lines l) ≡ markers (on_line w.live.lines l)
      markers_kept = step_markers M never w.live e v four S

      -- An entry keeps what holds at any time.
      pub base_journalled : Base M (journalled w e v)
      base_journalled = record {
        now = after_last M w.start (plain_network w.live) w.entries e B.now ∙ plain_step M never w.live e v (next_from M w.live e v S);
        lines = shape.lines ∙ B.lines ∙ ap (λ n. 4 * n + length w.live.ports) (sym shape.nodes) ∙ ap (λ n. 4 * length v.nodes + n) (sym shape.ports);
        wired = λ l y. subst (λ n. l < n) (sym shape.lines) (B.wired l (ap (λ wires. has_wire wires l) (sym shape.wires) ∙ y));
        unwired = λ l n. unwired l (ap (λ wires. has_wire wires l) (sym shape.wires) ∙ n);
      }
        where
          shape : SameShape w.live v
          shape = step_shape M four w.live e v S

          unwired : (l : ℕ) → has_wire w.live.wires l ≡ false → on_line v.lines l ≡ []
          unwired l n = now_line l ∙ ap (λ b. on_line S.out l ++ cond b (for_line l S.sends) []) n ∙ append-nil (on_line S.out l) ∙ (out_unwired l n).1
