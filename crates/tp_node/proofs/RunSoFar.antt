-- Steps of the processor that all lead on are steps of the node, and send nothing.
use Rattle.std.proofs.Common.{◌≡◌, ℕ, zero, suc, ◌+◌, ◌≤◌, List, [], ◌++◌, Some, length, refl, sym, ap, ◌∙◌, subst, arith}
use Rattle.tp_node.proofs.Lower.{append-nil, length-append, option_and_then_some, Token, NodeState, Outcome, Next, Halts, Rests, Sends, Receives, Kept, kept_behind, step_of, step_ranges, Cpu, steps, node_step, t414, node_ranges, kept_behind_steps, CpuMoment, led, step_on, advanced_by, frozen-kept_behind}
use Rattle.tp_node.proofs.OneMore.{one_more, kept_one_more}
use Rattle.tp_node.proofs.Room.{room, room_step}

-- The steps that were made lead here, what they sent is in order, and what may still leave has its place. What is kept is as they leave it.
pub record Runs (count : ℕ) (before now : NodeState) (sent : List (ℕ × Token)) (was now_kept : Kept) : Type 0 where
  pub steps : steps t414 count before ≡ Some (now, sent)
  pub places : length sent + room now ≤ 8
  pub kept : now_kept ≡ kept_behind_steps count before was
  pub frozen : now_kept.frozen ≡ was.frozen

-- a node at a moment of its processor
abbrev pub node_at : NodeState → CpuMoment → NodeState
node_at node m = record node { cpu = m.cpu; memory = m.memory }

led_on : (o : Outcome) (kept : Kept) (to : CpuMoment) → led o kept ≡ Some to → (o ≡ Next to.cpu to.memory) × (to.kept ≡ kept)
led_on (Next cpu memory) kept to is =
    let same : ◌≡◌ {A = CpuMoment} (record { cpu = cpu; memory = memory; kept = kept }) to = cc in
    (ap (λ (m : CpuMoment). Next m.cpu m.memory) same, ap (λ (m : CpuMoment). m.kept) (sym same))
led_on (Halts fault) kept to is = absurd (cc)
led_on Rests kept to is = absurd (cc)
led_on (Sends request) kept to is = absurd (cc)
led_on (Receives request) kept to is = absurd (cc)

-- one step more
pub runs_step : (count : ℕ) (begun before now : NodeState) (sent token : List (ℕ × Token)) (was kept left : Kept)
    → Runs count begun before sent was kept → node_step before ≡ Some (now, token) → left ≡ kept_behind kept (node_ranges before) → Runs (count + 1) begun now (sent ++ token) was left
runs_step count begun before now sent token was kept left runs step behind =
    let less : length token + room now ≤ room before = room_step before (now, token) step in
    let size : length (sent ++ token) ≡ length sent + length token = length-append sent token in
    record {
      steps = one_more t414 count begun before sent (now, token) runs.steps step;
      places = omega (arith, runs.places);
      kept = behind ∙ ap (λ k. kept_behind k (node_ranges before)) runs.kept ∙ sym (kept_one_more count begun before sent (now, token) was runs.steps step);
      frozen = ap (λ (k : Kept). k.frozen) behind ∙ frozen-kept_behind kept (node_ranges before) ∙ runs.frozen;
    }

step_at : (node : NodeState) (at : CpuMoment) (cpu : Cpu) (memory : List ℕ) → step_of at.cpu at.memory ≡ Next cpu memory → node_step (node_at node at) ≡ Some (record node { cpu = cpu; memory = memory }, [])
unfolding node_step
step_at node at cpu memory leads = rw leads refl

ranges_at : (node : NodeState) (at : CpuMoment) (cpu : Cpu) (memory : List ℕ) → step_of at.cpu at.memory ≡ Next cpu memory → node_ranges (node_at node at) ≡ step_ranges at.cpu at.memory
unfolding node_ranges
ranges_at node at cpu memory leads = rw leads refl

one_on : (count : ℕ) (begun : NodeState) (sent : List (ℕ × Token)) (was : Kept) (node : NodeState) (at to : CpuMoment)
    → Runs count begun (node_at node at) sent was at.kept → step_on at ≡ Some to → Runs (count + 1) begun (node_at node to) sent was to.kept
unfolding step_on
one_on count begun sent was node at to runs next =
    let leads = led_on (step_of at.cpu at.memory) (kept_behind at.kept (step_ranges at.cpu at.memory)) to next in
    let step = step_at node at to.cpu to.memory leads.0 in
    let written = ranges_at node at to.cpu to.memory leads.0 in
    let behind : to.kept ≡ kept_behind at.kept (node_ranges (node_at node at)) = leads.1 ∙ ap (λ r. kept_behind at.kept r) (sym written) in
    subst (λ (xs : List (ℕ × Token)). Runs (count + 1) begun (node_at node to) xs was to.kept) (append-nil sent)
    (runs_step count begun (node_at node at) (node_at node to) sent [] was at.kept to.kept runs step behind)

pub runs_on : (more count : ℕ) (begun : NodeState) (sent : List (ℕ × Token)) (was : Kept) (node : NodeState) (kept : Kept) (to : CpuMoment)
    → Runs count begun node sent was kept → advanced_by more (record { cpu = node.cpu; memory = node.memory; kept = kept }) ≡ Some to
    → Runs (count + more) begun (node_at node to) sent was to.kept
runs_on zero count begun sent was node kept to runs are =
    let same : ◌≡◌ {A = CpuMoment} (record { cpu = node.cpu; memory = node.memory; kept = kept }) to = cc in
    let number : count ≡ count + zero = omega arith in
    subst (λ (n : ℕ). Runs n begun (node_at node to) sent was to.kept) number (subst (λ (m : CpuMoment). Runs count begun (node_at node m) sent was m.kept) same runs)
runs_on (suc more) count begun sent was node kept to runs are =
    option_and_then_some step_on (advanced_by more (record { cpu = node.cpu; memory = node.memory; kept = kept })) to are (λ at before next.
    let number : (count + more) + 1 ≡ count + suc more = omega arith in
    subst (λ (n : ℕ). Runs n begun (node_at node to) sent was to.kept) number
    (one_on (count + more) begun sent was node at to (runs_on more count begun sent was node kept at runs before) next))

-- the first ones
pub runs_first : (more : ℕ) (begun : NodeState) (sent : List (ℕ × Token)) (kept : Kept) (to : CpuMoment)
    → sent ≡ [] → room begun ≤ 8 → advanced_by more (record { cpu = begun.cpu; memory = begun.memory; kept = kept }) ≡ Some to
    → Runs more begun (node_at begun to) sent kept to.kept
unfolding steps
runs_first more begun sent kept to none places are =
    let empty : length sent ≡ 0 = ap length none in
    let start : Runs 0 begun begun sent kept kept =
    record { steps = ap (λ (xs : List (ℕ × Token)). Some (begun, xs)) (sym none); places = omega arith; kept = refl; frozen = refl } in
    let number : 0 + more ≡ more = omega arith in
    subst (λ (n : ℕ). Runs n begun (node_at begun to) sent kept to.kept) number (runs_on more 0 begun sent kept begun kept to start are)
