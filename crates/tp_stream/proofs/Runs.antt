-- What streams leave of a device.
use Rattle.std.proofs.Common.{◌≡◌, ◌≤◌, ◌+◌, inl, inr, List, [], ◌∷◌, length, drop, map, ℕ, Result, Ok, Err, refl, sym, ap, subst, ◌∙◌, arith}
use Rattle.std.specs.Prelude.{IfErr, IfOk}
use Rattle.tp_stream.proofs.Lower.{IfOk-weaker, Entry, NodeState, Network, MayBe, State, moment, Opened, held_of, next_of, verdict, World, reopened, LeavesNothingNew, Began, Reached, Flushing, Walked, Follows, number_is, read_alone, read_first, stored_follows, walked_either, walked_follows, none_leaves, HasPut, Given, OutputValue, given_of, Ended, none_put, GivenInput}
use Rattle.tp_stream.specs.declared.fault.StreamFault.{StreamFault}
use Rattle.tp_stream.specs.declared.fault.StreamFault.TheVariants.{Opening, Spare, Port, Unnamed, Short, Long, Gone, NotShown, ShortInput, InputFailed, OutputFailed, FlushFailed, NotStored, JournalFull, Memory}
use Rattle.tp_stream.specs.declared.standing.Standing.{Standing}
use Rattle.tp_stream.specs.Put.{ArePut, EachWith, EndsPut, Got, PutPiece, ServedInto, StreamedInto, bytes_put}
use Rattle.tp_stream.specs.Accounted.{Accounted}
use Rattle.tp_stream.specs.Confirmed.{AreConfirmsPut}
use Rattle.tp_stream.specs.HandedFrom.{AreHandedFrom}
use Rattle.tp_stream.specs.Standing.{accepted_opened, from_of, stands_opened}
use Rattle.tp_stream.specs.Steps.{AllStepped, IsSetOut}
use Rattle.tp_stream.specs.Streamed.{CameBegun, StaysUnstreamed, Streamed}
use Rattle.tp_stream.proofs.HandedFrom.{handed_past}
use Rattle.tp_stream.proofs.Noting.{confirms_past}
use Rattle.tp_stream.proofs.Puts.{each_same, each_then}
use Rattle.tp_stream.proofs.Standings.{same_opened}
use Rattle.tp_stream.proofs.Stepping.{all_got}

-- a device that was opened, and whose flusher walked on from there, with steps of outputs on the way
pub served : (start network : Network NodeState) (before : World NodeState) (o : Opened) (old new : Flushing) (result : Result Ended StreamFault) → Began start before old.state.now.bytes
    → verdict old.state.now.bytes ≡ Ok o → old.world ≡ reopened before old.state.now.bytes (held_of o) o.now → Reached start old.world → Walked old new
    → IfOk result (λ ended. ended.next ≤ new.world.mark) → IfOk result (λ ended. ended.next ≡ length new.world.journal) → (was now : List OutputValue)
    → AllStepped start old new was now → IfOk result (λ ended. EndsPut start new.world.journal ended.why now)
    → (inputs : List GivenInput) (accepted : ℕ → ℕ) → AreHandedFrom inputs accepted (drop (next_of o) new.world.journal)
    → AreConfirmsPut now (drop (next_of o) new.world.journal) → IfOk result (λ ended. Accounted network new.world.journal (next_of o) ended.next)
    → ServedInto start network (next_of o) inputs accepted result was now old.state new.state
served start network before o old new result began reads first reached W stored last was now stepped ends inputs accepted fed confirms accounted =
    let bytes = old.state.now.bytes in record {
      streamed = record {
        journal = new.world.journal;
        leaves = walked_either start new.world.journal old.state new.state (walked_follows start before bytes o began reads old new first W);
        stored = IfOk-weaker result (λ ended. ended.next ≤ new.world.mark) _ (λ ended low left may. stored_follows start before bytes o began reads old new first W ended.next low left may) stored;
        last = last;
      };
      outputs = all_got start old new reached (next_of o) (subst (λ n. next_of o ≤ n) (sym (ap (λ (w : World NodeState). w.mark) first ∙ number_is o)) (omega arith)) was now stepped;
      fed = fed;
      confirms = confirms;
      accounted = accounted;
      ends = ends;
    }

-- a device that was only read
pub unwritten : (start : Network NodeState) (fault : StreamFault) (old new : State) → LeavesNothingNew old new → Streamed start (Err fault) old new
unwritten start fault old new L = record { journal = []; leaves = read_alone start [] old new L; stored = tt; last = tt }

-- and nothing was put
pub unput : (start : Network NodeState) (inputs : List GivenInput) (fault : StreamFault) (was now : List OutputValue) (old new : State) → LeavesNothingNew old new → map given_of now ≡ map given_of was
    → StreamedInto start inputs (Err fault) was now old new
unfolding unwritten
unput start inputs fault was now old new L same = record {
  streamed = unwritten start fault old new L;
  outputs = inl same;
  fed = λ opened is. handed_past inputs (accepted_opened opened) (next_of opened);
  confirms = λ opened is. confirms_past now (next_of opened);
  accounted = λ opened is. tt;
  ends = tt;
}

-- if nothing was begun, and nothing was put
pub unserved : (start network : Network NodeState) (least : ℕ) (inputs : List GivenInput) (accepted : ℕ → ℕ) (fault : StreamFault) (outputs : List OutputValue) (old : State)
    → ServedInto start network least inputs accepted (Err fault) outputs outputs old old
unserved start network least inputs accepted fault outputs old = record {
  streamed = record { journal = []; leaves = read_alone start [] old old (none_leaves old); stored = tt; last = tt };
  outputs =
      each_same (λ a b. Got start [] least a.next old old a b)
      (λ a. let none : a.next ≡ a.next + 0 = omega arith in record { port = refl; pieces = []; each = tt; next = none; holds = none_put a.next [] a.held refl }) outputs;
  fed = handed_past inputs accepted least;
  confirms = confirms_past outputs least;
  accounted = tt;
  ends = tt;
}

-- ## A device that was read first

put_earlier : (start : Network NodeState) (journal : List Entry) (least port from : ℕ) (old read new : State) → moment old ≤ moment read → (ps : List PutPiece) → ArePut start journal least port from read new ps
    → ArePut start journal least port from old new ps
put_earlier start journal least port from old read new up [] each = tt
put_earlier start journal least port from old read new up (p ∷ ps) each =
    let P = each.0 in
    (record { behind = P.behind; shows = P.shows; later = let then = P.later in omega (arith, up, then); since = P.since }, each.1)

-- an output that was set out before
got_set : (start : Network NodeState) (journal : List Entry) (least : ℕ) (stands : ℕ → Standing) (old read new : State) → moment old ≤ moment read → (x y z : OutputValue) → IsSetOut stands x y
    → Got start journal least y.next read new y z → Got start journal least (from_of (stands x.port) (given_of x)) old new x z
got_set start journal least stands old read new up x y z I G =
    let port : y.port ≡ x.port = ap (λ (g : Given). g.port) I.given in
    let held : y.held ≡ x.held = ap (λ (g : Given). g.held) I.given in
    let from = from_of (stands x.port) (given_of x) in
    record {
      port = G.port ∙ port;
      pieces = G.pieces;
      each =
          put_earlier start journal least x.port from old read new up G.pieces
          (subst (λ n. ArePut start journal least x.port n read new G.pieces) I.next (subst (λ p. ArePut start journal least p y.next read new G.pieces) port G.each));
      next = G.next ∙ ap (λ n. n + length (bytes_put G.pieces)) I.next;
      holds = subst (λ n. HasPut n (bytes_put G.pieces) x.held z.held) I.next (subst (λ h. HasPut y.next (bytes_put G.pieces) h z.held) held G.holds);
    }

-- a device was read, which left its bytes as they are, and was then written, with outputs set out at the positions of their ports
pub into : (start : Network NodeState) (inputs : List GivenInput) (result : Result Ended StreamFault) (o : Opened) (was set now : List OutputValue) (old read new : State) → LeavesNothingNew old read
    → read.now.bytes ≡ old.now.bytes → verdict old.now.bytes ≡ Ok o → EachWith (IsSetOut (stands_opened o)) was set → ServedInto start o.cut (next_of o) inputs (accepted_opened o) result set now read new
    → StreamedInto start inputs result was now old new
into start inputs result o was set now old read new L same reads sets S =
    let R = S.streamed in record {
      streamed = record {
        journal = R.journal;
        leaves = read_first start R.journal old read new L same R.leaves;
        stored =
            IfOk-weaker result (λ ended. (left : List ℕ) → MayBe new.now left → Follows start R.journal ended.next read.now.bytes left) _
            (λ ended each left may. subst (λ bytes. Follows start R.journal ended.next bytes left) same (each left may)) R.stored;
        last = R.last;
      };
      outputs = inr (record {
        opened = o;
        reads = reads;
        each =
            each_then (IsSetOut (stands_opened o)) (λ a b. Got start R.journal (next_of o) a.next read new a b)
            (λ a b. Got start R.journal (next_of o) (from_of (stands_opened o a.port) (given_of a)) old new a b) (got_set start R.journal (next_of o) (stands_opened o) old read new L.later) was set now sets S.outputs;
      });
      fed = λ other is. subst (λ x. AreHandedFrom inputs (accepted_opened x) (drop (next_of x) R.journal)) (same_opened _ _ _ reads is) S.fed;
      confirms = λ other is. subst (λ x. AreConfirmsPut now (drop (next_of x) R.journal)) (same_opened _ _ _ reads is) S.confirms;
      accounted = λ other is. subst (λ x. IfOk result (λ ended. Accounted x.cut R.journal (next_of x) ended.next)) (same_opened _ _ _ reads is) S.accounted;
      ends = S.ends;
    }

-- a stream that began has no answer that says that it didn't
pub begun_written : (r : Result Ended StreamFault) → IfErr r CameBegun → StaysUnstreamed r → ⊥
begun_written (Ok next) begun unbegun = unbegun
begun_written (Err (Opening unopened)) begun unbegun = begun
begun_written (Err Spare) begun unbegun = begun
begun_written (Err (Port port)) begun unbegun = begun
begun_written (Err (Unnamed port)) begun unbegun = begun
begun_written (Err (Short port has from)) begun unbegun = begun
begun_written (Err (Long port has upto)) begun unbegun = begun
begun_written (Err (Gone port have confirmed)) begun unbegun = begun
begun_written (Err (NotShown port have shown)) begun unbegun = begun
begun_written (Err (ShortInput port has accepted)) begun unbegun = begun
begun_written (Err (InputFailed port)) begun unbegun = unbegun
begun_written (Err (OutputFailed port)) begun unbegun = unbegun
begun_written (Err FlushFailed) begun unbegun = unbegun
begun_written (Err NotStored) begun unbegun = unbegun
begun_written (Err JournalFull) begun unbegun = unbegun
begun_written (Err Memory) begun unbegun = unbegun
