-- What runs leave of a device.
use Rattle.std.proofs.Common.{◌≡◌, ℕ, ◌≤◌, ◌⊎◌, inl, inr, List, [], Option, Result, Ok, Err, refl, sym, ap, subst, ◌∙◌, arith}
use Rattle.std.specs.Prelude.{IfOk}
use Rattle.tp_run.proofs.Lower.{IfOk-weaker, Entry, NodeState, t414, Network, MayBe, State, device_areas, Opened, held_of, verdict, World, reopened, RecoversTo, and_then, started, weaker, LeavesNothingNew, AreBelow, Began, Flushing, Walked, Follows, RecoversWith, SlipsStand, number_is, read_alone, read_first, stored_follows, walked_either, walked_follows}
use Rattle.tp_run.specs.declared.fault.RunFault.{RunFault}
use Rattle.tp_run.specs.declared.job.Job.{Job}
use Rattle.tp_run.specs.HandedOver.{HandedOver}
use Rattle.tp_run.specs.Input.{input_slips}
use Rattle.tp_run.specs.Outset.{outset_in}
use Rattle.tp_run.specs.Prints.{ComesSilent}
use Rattle.tp_run.specs.Outlet.{OutletValue}
use Rattle.tp_run.specs.Ran.{Carried, IsPrinted, Ran, RanInto, Settled}
use Rattle.tp_run.specs.Shown.{HasPrinted, IsUpTo, MayPrint}
use Rattle.tp_run.proofs.Compacts.{if_both, one_opened}
use Rattle.tp_run.proofs.HandedOver.{unhanded}

-- The law of slips that are in a journal.
abbrev pub SlipsAreRecovered : Type 0
SlipsAreRecovered =
    (start : Network NodeState) (journal : List Entry) (least : ℕ) (slips : List (ℕ × Entry)) (bytes : List ℕ)
    → RecoversTo t414 device_areas start journal least bytes → AreBelow least slips → SlipsStand journal slips → RecoversWith start journal least slips bytes

-- what was printed between two moments of a flusher whose device opened
abbrev printed_in : (start : Network NodeState) (before : World NodeState) (opened : Opened) (old new : Flushing) (port : ℕ) (was now : OutletValue) (result : Result ℕ RunFault) → verdict old.state.now.bytes ≡ Ok opened
    → old.world ≡ reopened before old.state.now.bytes (held_of opened) opened.now → HasPrinted start old new port (outset_in opened port).confirmed was now result → IsPrinted start new.world.journal port was.taken now.taken result old.state new.state
printed_in start before opened old new port was now result reads first H = record {
  opened = opened;
  reads = reads;
  number = H.number;
  behind = subst (λ n. n ≤ H.number) (ap (λ (w : World NodeState). w.mark) first ∙ number_is opened) H.behind;
  outputs = H.outputs;
  shows = H.shows;
  printed = H.printed.prints;
  there = H.there;
  later = H.later;
  before = weaker old.state H.there (IsUpTo start new.world.journal H.number) _ (λ left upto. inr upto) H.before;
  since = H.since;
}

-- a device that was opened, and whose flusher walked on from there until it was settled with
pub served_ran : SlipsAreRecovered → (start : Network NodeState) (before : World NodeState) (opened : Opened) (job : Job) (input : List ℕ) (was now : OutletValue) (old new : Flushing) (result : Result ℕ RunFault)
    → Began start before old.state.now.bytes → verdict old.state.now.bytes ≡ Ok opened → old.world ≡ reopened before old.state.now.bytes (held_of opened) opened.now → Walked old new → IfOk result (λ next. next ≤ new.world.mark)
    → IfOk result (Settled start opened.cut job (outset_in opened job.port) (input_slips (outset_in opened job.port) input) was.taken now.taken new.world.journal)
    → MayPrint start old new job.port (outset_in opened job.port).confirmed was now result → HandedOver start new.world.journal (outset_in opened job.port) input was.taken now.taken
    → RanInto start job input was now result old.state new.state
served_ran law start before opened job input was now old new result began reads first W stored settled shown handed =
    let bytes = old.state.now.bytes in
    let journal = new.world.journal in
    let less : (next : ℕ) → next ≤ new.world.mark → (left : List ℕ) → MayBe new.state.now left → Follows start journal next bytes left =
    λ next low left may. stored_follows start before bytes opened began reads old new first W next low left may in
    record {
      ran = record {
        journal = journal;
        leaves = walked_either start journal old.state new.state (walked_follows start before bytes opened began reads old new first W);
        stored = IfOk-weaker result (λ next. next ≤ new.world.mark) _ (λ next low left may. less next low left may) stored;
        carried =
            if_both result (λ next. next ≤ new.world.mark) (Settled start opened.cut job (outset_in opened job.port) (input_slips (outset_in opened job.port) input) was.taken now.taken new.world.journal)
            (λ next. Carried start new.world.journal job input was.taken now.taken next old.state new.state)
            (λ next low s. record {
              opened = opened;
              reads = reads;
              printed = s.printed;
              appended = s.appended;
              number = s.number;
              last = s.last;
              below = s.below;
              stored = λ left may. law start new.world.journal next _ left (less next low left may).recovers s.below s.stand;
              shows = s.shows;
              accounted = s.accounted;
            }) stored settled;
        printed = elim shown [
          | inl same ↦ inl (ap (λ (v : OutletValue). v.taken) same.0, same.1)
          | inr H ↦ inr (printed_in start before opened old new job.port was now result reads first H)
        ];
        handed = λ other is. subst (λ (o : Opened). HandedOver start journal (outset_in o job.port) input was.taken now.taken) (one_opened (verdict bytes) opened other reads is) handed;
      };
      called = elim shown [
        | inl same ↦ inl same.0
        | inr H ↦ inr (record { printed = printed_in start before opened old new job.port was now result reads first H; called = H.printed.called })
      ];
    }

-- a run that made no call of its outlet
pub ran_silent : (start : Network NodeState) (job : Job) (input : List ℕ) (was : OutletValue) (result : Result ℕ RunFault) (old new : State) → Ran start job input was.taken was.taken result old new
    → RanInto start job input was was result old new
ran_silent start job input was result old new R = record { ran = R; called = inl refl }

-- a device that no call was made of
pub still_ran : (start : Network NodeState) (job : Job) (input : List ℕ) (was : Option (List ℕ)) (fault : RunFault) (s : State) → ComesSilent fault → Ran start job input was was (Err fault) s s
still_ran start job input was fault s silent = record {
  journal = [];
  leaves = started s _ (λ left may. inl may);
  stored = tt;
  carried = tt;
  printed = inl (refl, silent);
  handed = λ opened is. unhanded start (outset_in opened job.port) input was was;
}

-- a device that was only read
pub unwritten_ran : (start : Network NodeState) (job : Job) (input : List ℕ) (was : Option (List ℕ)) (fault : RunFault) (old new : State) → LeavesNothingNew old new → ComesSilent fault
    → Ran start job input was was (Err fault) old new
unwritten_ran start job input was fault old new L silent = record {
  journal = [];
  leaves = read_alone start [] old new L;
  stored = tt;
  carried = tt;
  printed = inl (refl, silent);
  handed = λ opened is. unhanded start (outset_in opened job.port) input was was;
}

-- what was printed of a device that was read, which left its bytes as they are, and was then written
abbrev printed_since : (start : Network NodeState) (journal : List Entry) (port : ℕ) (was now : Option (List ℕ)) (result : Result ℕ RunFault) (old read new : State) → LeavesNothingNew old read
    → read.now.bytes ≡ old.now.bytes → IsPrinted start journal port was now result read new → IsPrinted start journal port was now result old new
printed_since start journal port was now result old read new L same P = record {
  opened = P.opened;
  reads = subst (λ bytes. verdict bytes ≡ Ok P.opened) same P.reads;
  number = P.number;
  behind = P.behind;
  outputs = P.outputs;
  shows = P.shows;
  printed = P.printed;
  there = P.there;
  later = let first = L.later in let then = P.later in omega (arith, first, then);
  before =
      and_then old read P.there _ (weaker old read (MayBe old.now) _ (λ left may. inl may) L)
      (weaker read P.there (λ left. MayBe read.now left ⊎ IsUpTo start journal P.number left) _ (λ left either. elim either [ inl may ↦ inl (L.each left (inr may)) | inr upto ↦ inr upto ]) P.before);
  since = P.since;
}

-- and what the run left of it
abbrev pub opened_ran : (start : Network NodeState) (job : Job) (input : List ℕ) (was now : Option (List ℕ)) (result : Result ℕ RunFault) (old read new : State) → LeavesNothingNew old read
    → read.now.bytes ≡ old.now.bytes → Ran start job input was now result read new → Ran start job input was now result old new
opened_ran start job input was now result old read new L same R = record {
  journal = R.journal;
  leaves = read_first start R.journal old read new L same R.leaves;
  stored =
      IfOk-weaker result (λ next. (left : List ℕ) → MayBe new.now left → Follows start R.journal next read.now.bytes left) _
      (λ next each left may. subst (λ bytes. Follows start R.journal next bytes left) same (each left may)) R.stored;
  carried =
      IfOk-weaker result (λ next. Carried start R.journal job input was now next read new) (λ next. Carried start R.journal job input was now next old new)
      (λ next c. record {
        opened = c.opened;
        reads = subst (λ bytes. verdict bytes ≡ Ok c.opened) same c.reads;
        printed = c.printed;
        appended = c.appended;
        number = c.number;
        last = c.last;
        below = c.below;
        stored = c.stored;
        shows = c.shows;
        accounted = c.accounted;
      }) R.carried;
  printed = elim R.printed [
    | inl none ↦ inl none
    | inr P ↦ inr (printed_since start R.journal job.port was now result old read new L same P)
  ];
  handed = λ opened is. R.handed opened (subst (λ bytes. verdict bytes ≡ Ok opened) (sym same) is);
}

pub opened_into : (start : Network NodeState) (job : Job) (input : List ℕ) (was now : OutletValue) (result : Result ℕ RunFault) (old read new : State) → LeavesNothingNew old read
    → read.now.bytes ≡ old.now.bytes → RanInto start job input was now result read new → RanInto start job input was now result old new
opened_into start job input was now result old read new L same R = record {
  ran = opened_ran start job input was.taken now.taken result old read new L same R.ran;
  called = elim R.called [
    | inl none ↦ inl none
    | inr C ↦ inr (record {
      printed = printed_since start R.ran.journal job.port was.taken now.taken result old read new L same C.printed;
      called = C.called;
    })
  ];
}
