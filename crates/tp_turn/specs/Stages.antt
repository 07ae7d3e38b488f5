-- A node's turn: its open part, then a run, whose entry the book gets once the node has run.
use Rattle.std.specs.Prelude.{◌≡◌, ◌≤◌, ◌⊎◌, ℕ, List, Some, None, Result, Ok, Err}
use Rattle.tp_turn.specs.Lower.{MAX_STEPS, Token, t414, steps, Act, node_ranges, kept_behind_steps, LacksFrames, NodeContents, memory_kept, RunEnd, IsWhy, Refusal, run_acts, BookValue, with_run, reserve_refusal, IsAnswer}
use Rattle.tp_turn.specs.declared.stages.Turn.{Turn}
use Rattle.tp_turn.specs.Turns.{Then}
use Rattle.tp_turn.specs.Moments.{TurnMoment, moment_of, IsNodeOf, Added, Done}
use Rattle.tp_turn.specs.Settled.{Settles, SettlesWith, EndsAtLink}

-- ## A turn is opened

-- the open part is done with `takes` takes, and a run of the node is reserved
pub record IsOpen (number takes : ℕ) (s t : TurnMoment) : Type 0 where
  pub between : TurnMoment
  pub settled : Done number (SettlesWith number takes) s between
  pub free : reserve_refusal between.book ≡ None
  pub is : t ≡ moment_of (with_run between.book number) between.node

-- the open part is done, and no run can be reserved
pub record IsRefused (number : ℕ) (e : Refusal) (s : TurnMoment) (acts : List Act) (t : TurnMoment) : Type 0 where
  pub did : Settles number s acts t
  pub answer : IsAnswer {A = Unit {0}} (reserve_refusal t.book) (Err e)

-- The turn ended at a link, or when its run was to be reserved. Nothing ran.
abbrev pub Breaks : ℕ → Refusal → TurnMoment → List Act → TurnMoment → Type 0
Breaks number e s acts t = EndsAtLink number e s acts t ⊎ IsRefused number e s acts t

abbrev pub Opens : ℕ → Result ℕ Refusal → TurnMoment → TurnMoment → Type 0
Opens number (Ok takes) s t = IsOpen number takes s t
Opens number (Err e) s t = Done number (Breaks number e) s t

-- ## A node runs

-- Since the book agreed on the node, it has made `count` steps and sent `tokens`.
pub record HasRunOn (b : BookValue) (number count : ℕ) (tokens : List (ℕ × Token)) (node : NodeContents) : Type 0 where
  pub before : NodeContents
  pub is : IsNodeOf b number before
  pub few : count ≤ MAX_STEPS
  pub made : steps t414 count before.live ≡ Some (node.live, tokens)
  pub kept : node.frozen ≡ before.frozen

-- The node ran on as far as it may, and that is one entry; none without a step. It ended for lack of a frame only before a step that would
-- write more shared pages than there are free frames. The pages that were written are shared no more, and all others are as before.
pub record Runs (number quantum : ℕ) (ran : RunEnd) (s : TurnMoment) (acts : List Act) (t : TurnMoment) : Type 0 where
  pub are : acts ≡ run_acts number ran.count
  pub added : Added number t.node.live acts s.book t.book
  pub max : ran.max ≡ quantum
  pub why : IsWhy ran.why quantum ran.count (LacksFrames (memory_kept t.node) (node_ranges t.node.live)) t.node.live
  pub kept : t.node.frozen ≡ s.node.frozen
  pub shared : memory_kept t.node ≡ kept_behind_steps ran.count s.node.live (memory_kept s.node)

-- ## A whole turn

-- the open part and the run; or it broke off before the run
abbrev pub TurnsAs : ℕ → ℕ → Result Turn Refusal → TurnMoment → List Act → TurnMoment → Type 0
TurnsAs number quantum (Ok turn) = Then (SettlesWith number turn.takes) (Runs number quantum turn.ran)
TurnsAs number quantum (Err e) = Breaks number e
