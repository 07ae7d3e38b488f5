-- Turns that had nothing to do.
use Rattle.std.proofs.Common.{◌≡◌, ℕ, ◌+◌, ◌≤◌, ◌<◌, inl, inr, Bool, true, length, None, IsSome, Result, Ok, Err, refl, sym, ap, subst, ◌∙◌, arith, below_more}
use Rattle.std.specs.Prelude.{nat_lt, if◌then◌else◌, IfOk}
use Rattle.tp_stream.proofs.Lower.{cases_lt, lt-ltb, le-ltb, NodeState, Network, node_step, Topology, node_count, step_of, node_ranges, LacksFrames, memory_kept, IsWhy, Why, Full, Idle, NoFrame, InHand, HostTurnMade, TurnMade, NodeTurn, Ended, Ending, Quiet, Turns, Gone, Halted, AskedTo}
use Rattle.tp_node.specs.declared.run.Why.TheVariants.{Halted as Stopped}
use Rattle.tp_stream.specs.declared.task.Task.{Task}
use Rattle.tp_stream.specs.declared.fault.StreamFault.{StreamFault}
use Rattle.tp_stream.specs.declared.pumping.Pumped.{Pumped}
use Rattle.tp_stream.specs.declared.turns.Turns.{Turns as TurnsValue}
use Rattle.tp_stream.specs.Endings.{IsEnding}
use Rattle.tp_stream.specs.Over.{LeavesNoInput}
use Rattle.tp_stream.specs.Quiet.{IsQuietNetwork, HasNoStep, HaveRested, HostRests, IsAsked, IsWhyEnded, NodeRests, HadNothingToDo, LeavesNothingToDo}

halted_rests : (node : NodeState) → IsSome node.cpu.halt → node_step node ≡ None
unfolding node_step step_of
halted_rests node halted = rw halted refl

-- a run that ended because the node has no step
no_step : (why : Why) (max count : ℕ) (cause : Type 0) (now : NodeState) → IsWhy why max count cause now → HasNoStep why → node_step now ≡ None
no_step Full max count cause now is none = absurd none
no_step Idle max count cause now is none = is.1
no_step NoFrame max count cause now is none = absurd none
no_step Stopped max count cause now is none = halted_rests now is.1

pub node_rests : (start : Network NodeState) (number quantum : ℕ) (turn : NodeTurn) (old new : InHand) → TurnMade start number quantum turn old new → turn.taken ≡ 0 → turn.ran.count ≡ 0
    → HasNoStep turn.ran.why → NodeRests start number
node_rests start number quantum turn old new went taken count none = record {
  quantum = quantum;
  turn = turn;
  old = old;
  new = new;
  went = went;
  taken = taken;
  count = count;
  rests = no_step turn.ran.why quantum turn.ran.count (LacksFrames (memory_kept went.ran) (node_ranges went.ran.live)) went.ran.live went.why none;
}

pub host_rests : (start : Network NodeState) (takes : ℕ) (old new : InHand) → HostTurnMade start (Ok takes) old new → takes ≡ 0 → HostRests start
host_rests start takes old new went none = record { old = old; new = new; went = subst (λ n. HostTurnMade start (Ok n) old new) none went }

-- ## Turns in a row

-- before the first turn, there is nothing to show
pub none_rested : (start : Network NodeState) (whose idle : ℕ) → whose ≤ length start.nodes → idle ≡ 0 → HaveRested start whose idle
none_rested start whose idle low none = record {
  whose_is = low;
  this_round = λ p below up. absurd (omega (arith, below, up, none));
  round_before = λ p there far. absurd (omega (arith, there, far, none));
}

-- one more turn, of a process that isn't the host
node_more : (start : Network NodeState) (whose idle new : ℕ) → HaveRested start whose idle → whose < length start.nodes → new ≤ idle + 1 → HadNothingToDo start whose
    → HaveRested start (whose + 1) new
node_more start whose idle new H low one here = record {
  whose_is = omega (arith, low);
  this_round =
      below_more (λ p. whose + 1 ≤ p + new → HadNothingToDo start p) whose
      (λ p below up. H.this_round p below (omega (arith, up, one))) (λ up. here);
  round_before = λ p there far. H.round_before p there (omega (arith, far, one));
}

-- one more turn, of the host
host_more : (start : Network NodeState) (whose idle new : ℕ) → HaveRested start whose idle → length start.nodes ≤ whose → new ≤ idle + 1 → HadNothingToDo start whose
    → HaveRested start 0 new
host_more start whose idle new H high one here =
    let low = H.whose_is in
    record {
      whose_is = omega arith;
      this_round = λ p below up. absurd (omega (arith, below));
      round_before = λ p there far.
          below_more (λ p. length start.nodes + 1 ≤ p + new → HadNothingToDo start p) whose
          (λ p below up. H.this_round p below (omega (arith, up, one, low))) (λ up. here) p (omega (arith, there, high)) (omega (arith, far));
    }

-- whose turn comes next is a node or the host
next_low : (whose nodes : ℕ) → (if nat_lt whose nodes then whose + 1 else 0) ≤ nodes
next_low whose nodes =
    elim (cases_lt whose nodes) [
      | inl low ↦ rw (lt-ltb whose nodes low) (omega (arith, low))
      | inr high ↦ rw (le-ltb whose nodes high) (omega arith)
    ]

-- One more turn. If it isn't among those that had nothing to do, there are none.
pub one_more : (start : Network NodeState) (whose idle new : ℕ) → HaveRested start whose idle → new ≤ idle + 1 → (0 < new → HadNothingToDo start whose)
    → HaveRested start (if nat_lt whose (length start.nodes) then whose + 1 else 0) new
one_more start whose idle new H one here =
    elim (cases_lt 0 new) [
      | inl some ↦
          elim (cases_lt whose (length start.nodes)) [
            | inl low ↦ rw (lt-ltb whose (length start.nodes) low) (node_more start whose idle new H low one (here some))
            | inr high ↦ rw (le-ltb whose (length start.nodes) high) (host_more start whose idle new H high one (here some))
          ]
      | inr none ↦ none_rested start (if nat_lt whose (length start.nodes) then whose + 1 else 0) new (next_low whose (length start.nodes)) (omega (arith, none))
    ]

pub turn_more : (start : Network NodeState) (nodes whose idle next new : ℕ) → nodes ≡ length start.nodes → HaveRested start whose idle
    → next ≡ (if nat_lt whose nodes then whose + 1 else 0) → new ≤ idle + 1 → (0 < new → HadNothingToDo start whose) → HaveRested start next new
turn_more start nodes whose idle next new many H is one here =
    subst (λ w. HaveRested start w new) (sym (is ∙ ap (λ n. if nat_lt whose n then whose + 1 else 0) many)) (one_more start whose idle new H one here)

-- if there were more of them than nodes, each process had nothing to do in its last turn
pub all_rested : (start : Network NodeState) (whose idle : ℕ) → HaveRested start whose idle → length start.nodes < idle → IsQuietNetwork start
all_rested start whose idle H many p there =
    let low = H.whose_is in
    elim (cases_lt p whose) [
      | inl below ↦ H.this_round p below (omega (arith, low, many))
      | inr above ↦ H.round_before p there (omega (arith, above, many))
    ]

-- ## Why a stream is over

-- a reason why a stream ended is one for which the task asked
asked : (start : Network NodeState) (task : Task) (why : Ending) → IsWhyEnded start task why → IsAsked task why
asked start task Quiet is = is.0
asked start task Turns is = is
asked start task Gone is = is
asked start task Halted is = is
asked start task AskedTo is = is

pub all_asked : (start : Network NodeState) (task : Task) (r : Result Ended StreamFault) → IfOk r (λ ended. IsWhyEnded start task ended.why) → IfOk r (λ ended. IsAsked task ended.why)
all_asked start task (Ok ended) is = asked start task ended.why is
all_asked start task (Err fault) is = is

-- nothing is left to do of what was picked for a topology
left : (start : Network NodeState) (t : Topology) (task : Task) (why : Ending) → length start.nodes ≡ node_count t → length start.ports ≡ t.ports → start.wires ≡ t.wires → IsWhyEnded start task why
    → LeavesNothingToDo t why
left start t task Quiet nodes ports wires is = record { start = start; nodes = nodes; ports = ports; wires = wires; quiet = is.1 }
left start t task Turns nodes ports wires is = tt
left start t task Gone nodes ports wires is = tt
left start t task Halted nodes ports wires is = tt
left start t task AskedTo nodes ports wires is = tt

pub all_left : (start : Network NodeState) (t : Topology) (task : Task) (r : Result Ended StreamFault) → length start.nodes ≡ node_count t → length start.ports ≡ t.ports → start.wires ≡ t.wires
    → IfOk r (λ ended. IsWhyEnded start task ended.why) → IfOk r (λ ended. LeavesNothingToDo t ended.why)
all_left start t task (Ok ended) nodes ports wires is = left start t task ended.why nodes ports wires is
all_left start t task (Err fault) nodes ports wires is = tt

-- if its turns are such
pub ended_why : (start : Network NodeState) (task : Task) (turns : TurnsValue) (nodes : ℕ) (asked : Bool) (pumped : Pumped) (over : Bool) (why : Ending) → nodes ≡ length start.nodes
    → HaveRested start turns.whose turns.idle → (asked ≡ true → task.until_asked ≡ true) → IsEnding task turns nodes asked pumped over why → IsWhyEnded start task why
ended_why start task turns nodes asked pumped over Quiet many H until is =
    let more = is.1.turns_are in (is.0, all_rested start turns.whose turns.idle H (omega (arith, many, more)))
ended_why start task turns nodes asked pumped over Turns many H until is = rw is.1 refl
ended_why start task turns nodes asked pumped over Gone many H until is = tt
ended_why start task turns nodes asked pumped over Halted many H until is = is.0
ended_why start task turns nodes asked pumped over AskedTo many H until is = until is

-- if it is quiet, nothing is left of each input
pub leaves_no_input : (task : Task) (turns : TurnsValue) (nodes : ℕ) (asked : Bool) (pumped : Pumped) (over all : Bool) (why : Ending) → over ≡ all → IsEnding task turns nodes asked pumped over why
    → LeavesNoInput all why
leaves_no_input task turns nodes asked pumped over all Quiet same is = sym same ∙ is.1.over_is
leaves_no_input task turns nodes asked pumped over all Turns same is = tt
leaves_no_input task turns nodes asked pumped over all Gone same is = tt
leaves_no_input task turns nodes asked pumped over all Halted same is = tt
leaves_no_input task turns nodes asked pumped over all AskedTo same is = tt
