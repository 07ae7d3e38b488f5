-- Laps, and flushes after them, one after the other.
use Rattle.std.proofs.Common.{◌≡◌, Bool, false, List, Option, Result, Ok, Err, sym, subst, ◌∙◌}
use Rattle.tp_stream.proofs.Lower.{AreTrue, WereTrue, NodeState, Network, World, Resting, Flushing, IsSameProcess, Walked, Began, walked_then, OutputValue, Ending}
use Rattle.tp_stream.specs.declared.fault.StreamFault.{StreamFault}
use Rattle.tp_stream.specs.declared.task.Task.{Task}
use Rattle.tp_stream.specs.Failures.{FailedWhere}
use Rattle.tp_stream.specs.Served.{ServedAnswer, ServedOn}
use Rattle.tp_stream.specs.Streamed.{CameBegun}
use Rattle.tp_stream.proofs.Failures.{failed_then}
use Rattle.tp_stream.proofs.Stepping.{all_still, all_then}

-- one after the other, if no call of the device failed in the first
pub served_then : (start : Network NodeState) (before : World NodeState) (failed : Bool) (old mid new : Flushing) (xs ys zs : List OutputValue)
    → ServedOn start before false old mid xs ys → ServedOn start before failed mid new ys zs → ServedOn start before failed old new xs zs
served_then start before failed old mid new xs ys zs S T =
    let P = S.process in
    let Q = T.process in
    record {
      premise = λ k. S.premise (T.premise k);
      walks = λ k began. walked_then old mid new (S.walks (T.premise k) began) (T.walks k (subst (Began start before) (sym P.opened) began));
      process = record { opened = Q.opened ∙ P.opened; size = Q.size ∙ P.size; topology = Q.topology ∙ P.topology };
      put = λ k began.
          let there = subst (Began start before) (sym P.opened) began in
          let was = T.premise k in
          all_then start old mid new (S.walks was began) (T.walks k there) xs ys zs (S.put was began) (T.put k there);
      failures = λ rests. let F = S.failures rests in failed_then failed old mid new F (T.failures F.at);
    }

-- what flushes alone do, beside which nothing is put
pub served_still : (start : Network NodeState) (before : World NodeState) (failed : Bool) (old new : Flushing) (xs : List OutputValue) → WereTrue old.reads new.reads
    → (AreTrue new.reads → Began start before old.opened → Walked old new) → IsSameProcess old new → (old.world.at ≡ Resting → FailedWhere failed old new) → ServedOn start before failed old new xs xs
served_still start before failed old new xs premise walks process failures =
    record { premise = premise; walks = walks; process = process; put = λ k began. all_still start old new xs; failures = failures }

-- such flushes after laps
pub served_until : (start : Network NodeState) (before : World NodeState) (failed : Bool) (old mid new : Flushing) (xs ys : List OutputValue)
    → ServedOn start before false old mid xs ys → WereTrue mid.reads new.reads → (AreTrue new.reads → Began start before mid.opened → Walked mid new) → IsSameProcess mid new
    → (mid.world.at ≡ Resting → FailedWhere failed mid new) → ServedOn start before failed old new xs ys
served_until start before failed old mid new xs ys S premise walks process failures =
    served_then start before failed old mid new xs ys ys S (served_still start before failed mid new ys premise walks process failures)

-- an answer that is a fault
pub fault_answered : (start : Network NodeState) (task : Task) (over : Bool) (r : Result (Option Ending) StreamFault) (fault : StreamFault) → r ≡ Err fault → CameBegun fault → ServedAnswer start task over r
fault_answered start task over (Ok ended) fault is begun = absurd (cc)
fault_answered start task over (Err other) fault is begun = let same : fault ≡ other = cc in record { why = tt; inputs = tt; begun = subst CameBegun same begun }
