-- What the laps of a stream do to its device and outputs, and what they answer.
use Rattle.std.specs.Prelude.{◌≡◌, Bool, List, Result, Option, IfOk, IfErr, IfSome}
use Rattle.tp_stream.specs.Lower.{AreTrue, WereTrue, NodeState, Network, World, Resting, Flushing, IsSameProcess, Walked, Began, OutputValue, Ending}
use Rattle.tp_stream.specs.declared.fault.StreamFault.{StreamFault}
use Rattle.tp_stream.specs.declared.task.Task.{Task}
use Rattle.tp_stream.specs.Failures.{FailedWhere}
use Rattle.tp_stream.specs.Over.{LeavesNoInput}
use Rattle.tp_stream.specs.Quiet.{IsWhyEnded}
use Rattle.tp_stream.specs.Steps.{AllStepped}
use Rattle.tp_stream.specs.Streamed.{CameBegun}

-- What was done between two moments of the flusher, `old` and `new`, to its device and to the outputs, which were `was` and are `now`.
-- `failed` says whether the answer tells that a call of the device has failed.
pub record ServedOn (start : Network NodeState) (before : World NodeState) (failed : Bool) (old new : Flushing) (was now : List OutputValue) : Type 0 where
  -- What meets the premise now met it before.
  pub premise : WereTrue old.reads new.reads
  -- If this process opened what a run had led to, each moment of the device since is that of a world on the way of one run.
  pub walks : AreTrue new.reads → Began start before old.opened → Walked old new
  -- The process and its device are what they were.
  pub process : IsSameProcess old new
  -- What was put of each output are outputs of its port in the network to which the journal led at that moment. Only steps put them.
  pub put : AreTrue new.reads → Began start before old.opened → AllStepped start old new was now
  -- One call of the device has failed exactly if the answer says so, and no call was made after it.
  pub failures : old.world.at ≡ Resting → FailedWhere failed old new

-- What laps answer: why the stream is over, or a fault. `over` says whether no input has more bytes that its port may take.
pub record ServedAnswer (start : Network NodeState) (task : Task) (over : Bool) (result : Result (Option Ending) StreamFault) : Type 0 where
  -- The task asks the stream to end for this reason. If it ended as quiet, nothing is left to do in the network.
  pub why : IfOk result (λ ended. IfSome ended (IsWhyEnded start task))
  -- If the stream ended as quiet, no input has more bytes that its port may take.
  pub inputs : IfOk result (λ ended. IfSome ended (LeavesNoInput over))
  -- A fault is one that may come after a stream began.
  pub begun : IfErr result CameBegun
