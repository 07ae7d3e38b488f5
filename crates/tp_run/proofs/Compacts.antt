-- What is left of a device that was compacted.
use Rattle.std.proofs.Common.{◌≡◌, ◌≤◌, List, [], ℕ, Bool, false, inl, inr, drop, length, zero, suc, ◌∷◌, Result, Ok, Err, refl, sym, ap, subst, ◌∙◌, arith}
use Rattle.std.specs.Prelude.{IfOk}
use Rattle.tp_run.proofs.Lower.{IfOk-weaker, OpenFault, NodeState, Network, MayBe, State, Opened, held_of, next_of, verdict, World, reopened, LeavesNothingNew, handed, Began, Reached, Flushing, Walked, position, Follows, walked_stays, number_is, read_alone, read_first, stored_follows, walked_either, walked_follows, FlushFault}
use Rattle.tp_run.specs.declared.compacting.Compaction.{Compaction}
use Rattle.tp_run.specs.declared.compacting.CompactFault.{CompactFault}
use Rattle.tp_run.specs.declared.compacting.CompactFault.TheVariants.{Opening, NoGeneration, DeviceFailed, NotWhole, Memory}
use Rattle.tp_flush.specs.declared.fault.FlushFault.TheVariants as flush
use Rattle.tp_run.proofs.Lower.{item_of, Entry, AreAll, Ended}
use Rattle.tp_run.proofs.Failures.{refused_as}
use Rattle.tp_run.proofs.HandedOver.{handed_of_none}
use Rattle.tp_run.specs.Compacted.{AddsNone, Compacted, IsBeginFault, SaysLast, StaysUnopened, flush_fault, is_failure_in}

-- what follows from two facts about what was done
pub if_both : {A E : Type 0} (r : Result A E) (P Q R : A → Type 0) → ((x : A) → P x → Q x → R x) → IfOk r P → IfOk r Q → IfOk r R
if_both (Ok x) P Q R turn p q = turn x p q
if_both (Err e) P Q R turn p q = p

-- ## No entry is added

first_away : (first : ℕ) (items : List Entry) → [] ≡ item_of first items first → items ≡ []
first_away zero [] away = refl
first_away zero (e ∷ items) away = cc
first_away (suc first) items away = first_away first items away

nothing_behind : (first : ℕ) (journal : List Entry) → drop first journal ≡ [] → length journal ≤ first
nothing_behind first [] none = omega arith
nothing_behind zero (e ∷ journal) none = cc
nothing_behind (suc first) (e ∷ journal) none = let r = nothing_behind first journal none in omega (arith, r)

-- without a slip, slips of all entries from a number on say that there is none
pub none_from : {first next : ℕ} {journal : List Entry} {slips : List (ℕ × Entry)} → slips ≡ [] → AreAll first next journal slips → length journal ≤ first
none_from {first = first} {journal = journal} {slips = []} none A = nothing_behind first journal (first_away first (drop first journal) (A.each first))
none_from {slips = slip ∷ slips} none A = cc

-- ## What is left

-- if a flusher walks on, its mark is at least the number that the device's next entry had
mark_grew : (start : Network NodeState) (before : World NodeState) (opened : Opened) (old new : Flushing) → Reached start old.world
    → old.world ≡ reopened before old.state.now.bytes (held_of opened) opened.now → Walked old new → next_of opened ≤ new.world.mark
mark_grew start before opened old new there first W =
    let up = (walked_stays start old new there W).0 in
    let at : old.world.mark ≡ next_of opened = ap (λ (w : World NodeState). w.mark) first ∙ number_is opened in
    omega (arith, up, at)

-- bytes open to one network
pub one_opened : (given : Result Opened OpenFault) (one other : Opened) → given ≡ Ok one → given ≡ Ok other → one ≡ other
one_opened given one other is too = cc

-- a device that was opened, and whose flusher walked on from there without an entry
pub walked_compacted : (start : Network NodeState) (before : World NodeState) (opened : Opened) (old new : Flushing) (result : Result Compaction CompactFault) → Reached start old.world → Began start before old.state.now.bytes
    → verdict old.state.now.bytes ≡ Ok opened → old.world ≡ reopened before old.state.now.bytes (held_of opened) opened.now → Walked old new → IfOk result (λ done. done.next ≡ new.world.mark)
    → IfOk result (λ done. AddsNone (next_of opened) new.world) → handed (drop (next_of opened) new.world.journal) ≡ [] → Compacted start result old.state new.state
walked_compacted start before opened old new result there began reads first W stored added none =
    let bytes = old.state.now.bytes in
    let journal = new.world.journal in record {
      journal = journal;
      leaves = walked_either start journal old.state new.state (walked_follows start before bytes opened began reads old new first W);
      stored =
          IfOk-weaker result (λ done. done.next ≡ new.world.mark) _
          (λ done same left may. stored_follows start before bytes opened began reads old new first W done.next (omega (arith, same)) left may) stored;
      none_added =
          if_both result (λ done. done.next ≡ new.world.mark) (λ done. AddsNone (next_of opened) new.world) _
          (λ done same few other is.
          let grew = mark_grew start before opened old new there first W in
          let fewer : length journal ≤ next_of opened = few.0 in
          let marked : new.world.mark ≤ length journal = few.1 in
          subst (λ (o : Opened). (done.next ≡ next_of o) × (length journal ≡ next_of o)) (one_opened (verdict bytes) opened other reads is) (omega (arith, same, grew, fewer, marked), omega (arith, grew, fewer, marked)))
          stored added;
      untouched = λ other is. subst (λ (o : Opened). handed (drop (next_of o) journal) ≡ []) (one_opened (verdict bytes) opened other reads is) none;
    }

-- a device that was only read
pub unwritten_compacted : (start : Network NodeState) (fault : CompactFault) (old new : State) → LeavesNothingNew old new → Compacted start (Err fault) old new
unwritten_compacted start fault old new L =
    record { journal = []; leaves = read_alone start [] old new L; stored = tt; none_added = tt; untouched = λ opened is. handed_of_none (next_of opened) }

-- a device was read, which left its bytes as they are, and was then written
pub opened_compacted : (start : Network NodeState) (result : Result Compaction CompactFault) (old read new : State) → LeavesNothingNew old read → read.now.bytes ≡ old.now.bytes → Compacted start result read new
    → Compacted start result old new
opened_compacted start result old read new L same R = record {
  journal = R.journal;
  leaves = read_first start R.journal old read new L same R.leaves;
  stored =
      IfOk-weaker result (λ done. (left : List ℕ) → MayBe new.now left → Follows start R.journal done.next read.now.bytes left) _
      (λ done each left may. subst (λ bytes. Follows start R.journal done.next bytes left) same (each left may)) R.stored;
  none_added =
      IfOk-weaker result (λ done. (opened : Opened) → verdict read.now.bytes ≡ Ok opened → (done.next ≡ next_of opened) × (length R.journal ≡ next_of opened)) _
      (λ done all opened is. all opened (subst (λ bytes. verdict bytes ≡ Ok opened) (sym same) is)) R.none_added;
  untouched = λ opened is. R.untouched opened (subst (λ bytes. verdict bytes ≡ Ok opened) (sym same) is);
}

-- an answer that tells whether a generation was left isn't the answer for a device that didn't open
pub last_compacted : (r : Result Compaction CompactFault) (last : Bool) → SaysLast r last → StaysUnopened r → ⊥
last_compacted (Ok done) last says unbegun = unbegun
last_compacted (Err (Opening unopened)) last says unbegun = says
last_compacted (Err NoGeneration) last says unbegun = unbegun
last_compacted (Err DeviceFailed) last says unbegun = unbegun
last_compacted (Err NotWhole) last says unbegun = unbegun
last_compacted (Err Memory) last says unbegun = unbegun

-- ## Faults

abbrev pub fault_as : (A : Type 0) → CompactFault → Result A CompactFault
fault_as A fault = Err fault

pub begin_last : (A : Type 0) (fault : CompactFault) (last : Bool) → IsBeginFault fault → last ≡ false → SaysLast (fault_as A fault) last
begin_last A fault last (inl memory) left = subst (λ f. SaysLast (fault_as A f) last) (sym memory) tt
begin_last A fault last (inr whole) left = subst (λ f. SaysLast (fault_as A f) last) (sym whole) left

pub begin_unfailed : (fault : CompactFault) → IsBeginFault fault → is_failure_in fault ≡ false
begin_unfailed fault (inl memory) = ap is_failure_in memory
begin_unfailed fault (inr whole) = ap is_failure_in whole

pub flush_last : (A : Type 0) (fault : FlushFault) (last : Bool) → last ≡ false → SaysLast (fault_as A (flush_fault fault)) last
flush_last A flush.DeviceFailed last left = left
flush_last A flush.StoreBroken last left = left
flush_last A flush.Memory last left = tt
flush_last A flush.AreaFull last left = left

-- the position of a flusher whose turn was refused
ended_by : (A : Type 0) (fault : FlushFault) (old new : Flushing) → Ended (refused_as A fault) old new → new.world.at ≡ position (is_failure_in (flush_fault fault))
ended_by A flush.DeviceFailed old new (inl F) = F.broken
ended_by A flush.DeviceFailed old new (inr F) = F.broken
ended_by A flush.StoreBroken old new E = ap (λ (v : Flushing). v.world.at) E.1 ∙ E.0
ended_by A flush.Memory old new (inl W) = W.0.rested.rests
ended_by A flush.Memory old new (inr W) = W.rested.rests
ended_by A flush.AreaFull old new E = E.rested.rests

pub flush_ended : {A : Type 0} (r : Result A FlushFault) (fault : FlushFault) (old new : Flushing) → r ≡ Err fault → Ended r old new → new.world.at ≡ position (is_failure_in (flush_fault fault))
flush_ended (Ok x) fault old new is E = cc
flush_ended {A} (Err other) fault old new is E =
    let same : other ≡ fault = cc in subst (λ f. new.world.at ≡ position (is_failure_in (flush_fault f))) same (ended_by A other old new E)
