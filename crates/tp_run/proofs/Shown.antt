-- What is printed: outputs of a port in a book, and in the network to which the flusher's journal leads.
use Rattle.std.proofs.Common.{◌≡◌, ℕ, ◌+◌, ◌-◌, ◌≤◌, inl, inr, Bool, true, false, cond, List, [], ◌∷◌, ◌++◌, length, take, drop, drop-drop, Option, Result, Ok, Err, refl, sym, ap, subst, ◌∙◌, arith, append-nil, length-append}
use Rattle.std.specs.Prelude.{map, nat_le, IfOk}
use Rattle.tp_run.proofs.Lower.{AreTrue, Began, enumerate_from, take-append-le, take_all, take-take, Appends, Entry, Confirm, NodeState, t414, Network, plain_network, after, LeavesOnly, State, moment, device_areas, next_number, World, RecoversTo, and_then, weaker, chain_leads, GoesOn, run_goes_on, BookValue, next_in_book, world_of, marks_of, after_confirm, port_in, shown_from, shown_of, shown_upto_of, with_confirmed, confirm_entries, ReceiptValue, IsFor, IsAheadOf, Reached, Flushing, Walked, reached_then, walked_nowhere, walked_recovers, walked_stays, recovers_less}
use Rattle.tp_run.specs.declared.fault.RunFault.{RunFault}
use Rattle.tp_run.specs.Output.{AreOutputs, AreShownBytes, IsForOutput, PrintedOf, ShowsAll, confirms}
use Rattle.tp_run.specs.Outlet.{OutletValue, WasCalled}
use Rattle.tp_run.specs.Prints.{MayBeSilent, PrintsAt, PrintsOf, PrintsSo, TellsAllPrinted}
use Rattle.tp_run.specs.Shown.{AreShownIn, IsUpTo, MayPrint, MayShow, MayTake}
use Rattle.tp_run.proofs.Slips.{confirms_shown}

-- ## In the book

next_confirmed : (b : BookValue) (port upto : ℕ) → next_in_book (after_confirm b port upto) ≡ next_in_book b + length (confirm_entries b port upto)
next_confirmed b port upto = by_test (nat_le upto (port_in b port).out_base)
  where
    by_test : (test : Bool) → next_in_book (cond test b (with_confirmed b port upto)) ≡ next_in_book b + length (cond test [] (Confirm port upto ∷ []))
    by_test true = omega arith
    by_test false = let long = length-append b.state.entries (Confirm port upto ∷ []) in omega (arith, long)

-- the receipt of what was printed and confirmed under the lock
pub printed_is : (b new : BookValue) (port mark : ℕ) (was now : Option (List ℕ)) (held host : List (ℕ × Entry)) (had has : List Entry) (bytes : List ℕ) (r : Result ReceiptValue RunFault)
    → length (marks_of b port) ≡ length (port_in b port).outputs
    → bytes ≡ shown_from b port mark (port_in b port).out_base → Appends was now bytes → IfOk r (λ receipt. new ≡ after_confirm b port (shown_upto_of b port mark))
    → IfOk r (λ receipt. receipt.number ≡ next_in_book new) → IfOk r (IsFor (confirm_entries b port (shown_upto_of b port mark)) held host)
    → IfOk r (λ receipt. has ≡ had ++ confirm_entries b port (shown_upto_of b port mark))
    → IfOk r (IsForOutput port (port_in b port).out_base (AreShownBytes b port mark) was now held host had has)
printed_is b new port mark was now held host had has bytes (Ok receipt) each shown appended after number F handed =
    let upto = shown_upto_of b port mark in
    let same : confirm_entries b port upto ≡ confirms port (port_in b port).out_base bytes = confirms_shown b port mark each ∙ ap (confirms port (port_in b port).out_base) (sym shown) in
    let next = ap next_in_book after in
    let more = next_confirmed b port upto in
    let behind = F.number in
    record {
      printed = bytes;
      appended = appended;
      confirmed = record {
        first = F.first;
        slips = F.slips ∙ ap (λ es. held ++ enumerate_from F.first es) same;
        below = F.below;
        number = F.number ∙ ap (λ es. F.first + length es) same;
      };
      handed = handed ∙ ap (λ es. had ++ es) same;
      are = (omega (arith, next, more, behind, number), shown);
    }
printed_is b new port mark was now held host had has bytes (Err e) each shown appended after number F handed = tt

pub if_made : {A E : Type 0} (r : Result A E) (P : Type 0) → P → IfOk r (λ x. P)
if_made (Ok x) P p = p
if_made (Err e) P p = tt

-- a mark that shows all of them
all_shown : (b : BookValue) (port mark : ℕ) → shown_of b port mark ≡ length (port_in b port).outputs → shown_from b port mark (port_in b port).out_base ≡ (port_in b port).outputs
all_shown b port mark all =
    let from = (port_in b port).out_base in
    let none : from - from ≡ 0 = omega arith in
    ap (λ n. drop n (take (shown_of b port mark) (port_in b port).outputs)) none ∙ take_all (shown_of b port mark) (port_in b port).outputs (omega (arith, all))

pub output_like : (port from : ℕ) (One Other : ℕ → List ℕ → Type 0) (was now : Option (List ℕ)) (held host : List (ℕ × Entry)) (had has : List Entry) (r : Result ReceiptValue RunFault)
    → ((number : ℕ) (bytes : List ℕ) → One number bytes → Other number bytes) → IfOk r (IsForOutput port from One was now held host had has) → IfOk r (IsForOutput port from Other was now held host had has)
output_like port from One Other was now held host had has (Ok receipt) like O =
    record { printed = O.printed; appended = O.appended; confirmed = O.confirmed; handed = O.handed; are = like O.confirmed.first O.printed O.are }
output_like port from One Other was now held host had has (Err e) like O = tt

pub are_outputs : (b : BookValue) (port mark : ℕ) → shown_of b port mark ≡ length (port_in b port).outputs → (number : ℕ) (bytes : List ℕ) → AreShownBytes b port mark number bytes → AreOutputs b port number bytes
are_outputs b port mark all number bytes A = (A.0, sym (A.1 ∙ all_shown b port mark all))

pub printed_of : {A : Type 0} (b : BookValue) (port mark confirmed : ℕ) (there : State) (was now : OutletValue) (r : Result A RunFault) → (port_in b port).out_base ≡ confirmed
    → shown_of b port mark ≡ length (port_in b port).outputs → next_in_book b ≤ mark → PrintsAt there r was now (shown_from b port mark (port_in b port).out_base)
    → PrintedOf b port mark confirmed there was now r
printed_of b port mark confirmed there was now r base all stored printed =
    inr (record { base = base; all = all; stored = stored }, subst (λ bytes. PrintsAt there r was now bytes) (all_shown b port mark all) printed)

-- all of it was appended, and the answer after that says so
pub prints_on : {A : Type 0} (there : State) (was now : OutletValue) (bytes : List ℕ) (r : Result A RunFault) → Appends was.taken now.taken bytes → TellsAllPrinted r → WasCalled there bytes was now
    → PrintsAt there r was now bytes
prints_on there was now bytes r appended told called = record {
  prints = (length bytes, subst (Appends was.taken now.taken) (sym (take_all (length bytes) bytes (omega arith))) appended, told (length bytes) (length bytes) (omega arith));
  called = called;
}

-- ## Beside the flusher's journal

pub nothing_in : {A : Type 0} (xs : List A) → length xs ≡ 0 → xs ≡ []
nothing_in [] e = refl
nothing_in (x ∷ xs) e = absurd (omega (arith, e))

-- if a mark is above all of a book, the journal that the flusher knows is all of it
shows_book : (start : Network NodeState) (w : World NodeState) (b : BookValue) (port mark confirmed number : ℕ) → IsAheadOf start w b → ShowsAll b port mark confirmed → mark ≡ w.mark
    → number ≡ next_in_book b → AreShownIn start w port confirmed number (port_in b port).outputs
shows_book start w b port mark confirmed number A S at is =
    let many = A.many in
    let long = length-append w.journal A.more in
    let marked = A.marked in
    let stored = S.stored in
    let nothing : A.more ≡ [] = nothing_in A.more (omega (arith, many, long, marked, stored, at)) in
    let whole : take number w.journal ≡ w.journal = take_all number w.journal (omega (arith, is, many, long)) in
    let front : take number w.journal ≡ w.journal ++ A.more = whole ∙ sym (append-nil w.journal) ∙ ap (λ es. w.journal ++ es) (sym nothing) in (
      omega (arith, is, stored, at),
      record { state = plain_network (world_of b).live; leads = ap (after t414 start) front ∙ A.leads; base = S.base; are = refl },
    )

-- all outputs that such a book keeps may be printed
pub may_take_all : (start : Network NodeState) (before : World NodeState) (f : Flushing) (b : BookValue) (port mark confirmed : ℕ) → (AreTrue f.reads → Began start before f.opened → IsAheadOf start f.world b)
    → mark ≡ f.world.mark → ShowsAll b port mark confirmed → MayTake start before f (shown_from b port mark (port_in b port).out_base)
may_take_all start before f b port mark confirmed ahead at S = record {
  port = port;
  confirmed = confirmed;
  number = next_in_book b;
  outputs = (port_in b port).outputs;
  taken = 0;
  rest = all_shown b port mark S.all;
  shown = λ k began. shows_book start f.world b port mark confirmed (next_in_book b) (ahead k began) S at refl;
}

-- and then the rest of them
pub may_take_rest : (start : Network NodeState) (before : World NodeState) (f : Flushing) (bytes : List ℕ) (n : ℕ) → MayTake start before f bytes → MayTake start before f (drop n bytes)
may_take_rest start before f bytes n M = record {
  port = M.port;
  confirmed = M.confirmed;
  number = M.number;
  outputs = M.outputs;
  taken = M.taken + n;
  rest = ap (drop n) M.rest ∙ drop-drop n M.taken M.outputs;
  shown = M.shown;
}

pub outputs_shown : (start : Network NodeState) (w : World NodeState) (b : BookValue) (port mark confirmed : ℕ) → IsAheadOf start w b → ShowsAll b port mark confirmed → mark ≡ w.mark
    → (number : ℕ) (bytes : List ℕ) → AreOutputs b port number bytes → AreShownIn start w port confirmed number bytes
outputs_shown start w b port mark confirmed A S at number bytes O = subst (AreShownIn start w port confirmed number) O.1 (shows_book start w b port mark confirmed number A S at O.0)

pub may_show : {A : Type 0} (start : Network NodeState) (w : World NodeState) (b : BookValue) (port mark confirmed : ℕ) (there : State) (was now : OutletValue) (r : Result A RunFault) → IsAheadOf start w b
    → mark ≡ w.mark → PrintedOf b port mark confirmed there was now r → MayShow start w.journal w.mark port confirmed there was now r
may_show start w b port mark confirmed there was now r A at (inl same) = inl same
may_show start w b port mark confirmed there was now r A at (inr (S, F)) =
    let shows = shows_book start w b port mark confirmed (next_in_book b) A S at refl in
    let many = A.many in
    let long = length-append w.journal A.more in
    let marked = A.marked in
    inr (record {
      number = next_in_book b;
      few = shows.0;
      behind = omega (arith, many, long, marked);
      whole = omega (arith, many, long);
      outputs = (port_in b port).outputs;
      shows = shows.1;
      printed = F;
    })

-- the outputs that a receipt is for are shown
pub output_shown : (premise began : Type 0) (start : Network NodeState) (w : World NodeState) (b : BookValue) (port mark confirmed : ℕ) (was now : Option (List ℕ)) (held host : List (ℕ × Entry)) (had has : List Entry) (r : Result ReceiptValue RunFault)
    → (premise → began → IsAheadOf start w b) → mark ≡ w.mark → IfOk r (λ receipt. ShowsAll b port mark confirmed) → IfOk r (IsForOutput port confirmed (AreOutputs b port) was now held host had has)
    → IfOk r (IsForOutput port confirmed (λ number bytes. premise → began → AreShownIn start w port confirmed number bytes) was now held host had has)
output_shown premise began start w b port mark confirmed was now held host had has (Ok receipt) ahead at all O = record {
  printed = O.printed;
  appended = O.appended;
  confirmed = O.confirmed;
  handed = O.handed;
  are = λ k there. outputs_shown start w b port mark confirmed (ahead k there) all at O.confirmed.first O.printed O.are;
}
output_shown premise began start w b port mark confirmed was now held host had has (Err e) ahead at all O = tt

-- ## As the journal grows

pub walked_reached : (start : Network NodeState) (a b : Flushing) → Reached start a.world → Walked a b → Reached start b.world
walked_reached start a b R W = reached_then start a.world b.world R (chain_leads t414 device_areas a.world b.world W.worlds W.chain)

pub shows_on : (start : Network NodeState) (a b : Flushing) → Reached start a.world → Walked a b → (port confirmed number : ℕ) (outputs : List ℕ)
    → AreShownIn start a.world port confirmed number outputs → AreShownIn start b.world port confirmed number outputs
shows_on start a b R W port confirmed number outputs (few, S) =
    let stays = walked_stays start a b R W in
    let up = stays.0 in
    let front : take number b.world.journal ≡ take number a.world.journal =
    sym (take-take number a.world.mark b.world.journal few) ∙ ap (take number) stays.1 ∙ take-take number a.world.mark a.world.journal few in (
      omega (arith, few, up),
      record { state = S.state; leads = ap (after t414 start) front ∙ S.leads; base = S.base; are = S.are },
    )

walked_later : (a b : Flushing) → Walked a b → moment a.state ≤ moment b.state
walked_later a b W = let grew = ap length W.past in let long = length-append a.state.past (map (λ (u : World NodeState). u.disk) W.worlds) in omega (arith, grew, long)

journal_grew : (a b : Flushing) → Walked a b → GoesOn a.world.journal b.world.journal
journal_grew a b W = let L = chain_leads t414 device_areas a.world b.world W.worlds W.chain in run_goes_on t414 device_areas L.events a.world b.world L.unopened L.run

length_grew : (a b : Flushing) → Walked a b → length a.world.journal ≤ length b.world.journal
length_grew a b W = let more = journal_grew a b W in let grew = ap length more.1 in let long = length-append a.world.journal more.0 in omega (arith, grew, long)

-- what opens to a prefix of a journal opens to the same prefix of a later one
up_to_later : (start : Network NodeState) (b c : Flushing) → Walked b c → (number least : ℕ) → length b.world.journal ≤ number → (left : List ℕ) → RecoversTo t414 device_areas start b.world.journal least left
    → IsUpTo start c.world.journal number left
up_to_later start b c V number least whole left r =
    let more = journal_grew b c V in
    let longer = length_grew b c V in
    let n = next_number r.held in
    let most = r.no_more in
    let front : take n c.world.journal ≡ take n b.world.journal = ap (take n) more.1 ∙ take-append-le n b.world.journal more.0 most in record {
      recovers = record {
        held = r.held;
        reads = r.reads;
        now = r.now;
        replayed = r.replayed;
        exact = ap (after t414 start) front ∙ r.exact;
        no_less = omega arith;
        no_more = omega (arith, most, longer);
      };
      few = omega (arith, most, whole);
    }

-- so until then a crash leaves none of the entries that came later
up_to : (start : Network NodeState) (a b c : Flushing) → Reached start a.world → Walked a b → Walked b c → (number : ℕ) → length b.world.journal ≤ number
    → LeavesOnly a.state b.state (IsUpTo start c.world.journal number)
up_to start a b c R W V number whole =
    weaker a.state b.state (RecoversTo t414 device_areas start b.world.journal a.world.mark) _ (λ left r. up_to_later start b c V number a.world.mark whole left r) (walked_recovers start a b R W)

-- a fault, and an answer that isn't one
abbrev pub fault_of : (A : Type 0) → RunFault → Result A RunFault
fault_of A fault = Err fault

abbrev pub done_as : {A : Type 0} → A → Result A RunFault
done_as x = Ok x

-- One answer says of the output what another one does.
pub record SaysAs {A B : Type 0} (r : Result A RunFault) (s : Result B RunFault) : Type 0 where
  pub silent : MayBeSilent r → MayBeSilent s
  pub prints : (count all : ℕ) → PrintsOf r count all → PrintsOf s count all

pub fault_says : (A B : Type 0) (fault : RunFault) → SaysAs (fault_of A fault) (fault_of B fault)
fault_says A B fault = record { silent = λ silent. silent; prints = λ count all prints. prints }

-- what came after an output that was printed
pub done_says : {A B : Type 0} (x : A) (s : Result B RunFault) → TellsAllPrinted s → SaysAs (done_as x) s
done_says x s told = record { silent = λ none. absurd none; prints = told }

prints_as : {A B : Type 0} (was now : Option (List ℕ)) (outputs : List ℕ) (r : Result A RunFault) (s : Result B RunFault) → SaysAs r s → PrintsSo r was now outputs → PrintsSo s was now outputs
prints_as was now outputs r s says (count, appended, prints) = (count, appended, says.prints count (length outputs) prints)

pub prints_at : {A B : Type 0} (there : State) (was now : OutletValue) (outputs : List ℕ) (r : Result A RunFault) (s : Result B RunFault) → SaysAs r s → PrintsAt there r was now outputs → PrintsAt there s was now outputs
prints_at there was now outputs r s says P = record { prints = prints_as was.taken now.taken outputs r s says P.prints; called = P.called }

-- what was printed at one moment, as it is known at a later one
pub may_print : {A B : Type 0} (start : Network NodeState) (old at new : Flushing) → Reached start old.world → Walked old at → Walked at new → (port confirmed : ℕ) (was now : OutletValue)
    → (r : Result A RunFault) (s : Result B RunFault) → SaysAs r s → MayShow start at.world.journal at.world.mark port confirmed at.state was now r → MayPrint start old new port confirmed was now s
may_print start old at new R W V port confirmed was now r s says (inl (same, silent)) = inl (same, says.silent silent)
may_print start old at new R W V port confirmed was now r s says (inr H) =
    let reached = walked_reached start old at R W in
    let up = (walked_stays start old at R W).0 in
    let behind = H.behind in
    let whole = H.whole in
    let grew = length_grew old at W in
    inr (record {
      number = H.number;
      behind = omega (arith, up, behind);
      whole = omega (arith, grew, whole);
      outputs = H.outputs;
      shows = (shows_on start at new reached V port confirmed H.number H.outputs (H.few, H.shows)).1;
      there = at.state;
      printed = prints_at at.state was now H.outputs r s says H.printed;
      later = walked_later old at W;
      before = up_to start old at new R W V H.number whole;
      since =
          weaker at.state new.state (RecoversTo t414 device_areas start new.world.journal at.world.mark) _
          (λ left r. recovers_less start new.world.journal at.world.mark H.number left H.few r) (walked_recovers start at new reached V);
    })

-- nothing came after it
pub may_print_last : {A B : Type 0} (start : Network NodeState) (old at : Flushing) → Reached start old.world → Walked old at → (port confirmed : ℕ) (was now : OutletValue)
    → (r : Result A RunFault) (s : Result B RunFault) → SaysAs r s → MayShow start at.world.journal at.world.mark port confirmed at.state was now r → MayPrint start old at port confirmed was now s
may_print_last start old at R W port confirmed was now r s says shown = may_print start old at at R W (walked_nowhere at W.now) port confirmed was now r s says shown

-- and from an earlier one on
pub may_print_since : {A : Type 0} (start : Network NodeState) (first old new : Flushing) → Reached start first.world → Walked first old → Walked old new → (port confirmed : ℕ) (was now : OutletValue) (r : Result A RunFault)
    → MayPrint start old new port confirmed was now r → MayPrint start first new port confirmed was now r
may_print_since start first old new R W V port confirmed was now r (inl same) = inl same
may_print_since start first old new R W V port confirmed was now r (inr H) =
    let up = walked_later first old W in
    let later = H.later in
    let raised = (walked_stays start first old R W).0 in
    let behind = H.behind in
    let whole = H.whole in
    let grew = length_grew first old W in
    inr (record {
      number = H.number;
      behind = omega (arith, raised, behind);
      whole = omega (arith, grew, whole);
      outputs = H.outputs;
      shows = H.shows;
      there = H.there;
      printed = H.printed;
      later = omega (arith, up, later);
      before = and_then first.state old.state H.there _ (up_to start first old new R W V H.number whole) H.before;
      since = H.since;
    })
