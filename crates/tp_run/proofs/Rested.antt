-- What is left to do in the network to which the flusher's journal leads.
use Rattle.std.proofs.Common.{◌≡◌, ℕ, ◌≤◌, [], ◌++◌, take, sym, ap, ◌∙◌, arith, append-nil, length-append, subst, Result, Ok, Err}
use Rattle.std.specs.Prelude.{IfOk}
use Rattle.tp_run.proofs.Lower.{take_all, NodeState, t414, Network, plain_network, after, State, Opened, held_of, verdict, World, reopened, BookValue, next_in_book, world_of, IsAheadOf, Flushing, Walked, Follows, Began, stored_follows, Rest, rest_in}
use Rattle.tp_run.specs.declared.fault.RunFault.{RunFault}
use Rattle.tp_run.specs.Rested.{LeadsToRest, RestsAt}
use Rattle.tp_run.proofs.Shown.{nothing_in}
use Rattle.tp_run.proofs.Compacts.{if_both}

-- a book that the journal is all of
leads_rest : (start : Network NodeState) (w : World NodeState) (b : BookValue) (next : ℕ) (rest : Rest) → IsAheadOf start w b → next ≤ w.mark → next_in_book b ≡ next → rest ≡ rest_in (plain_network (world_of b).live)
    → LeadsToRest start w.journal next rest
leads_rest start w b next rest A low at is =
    let many = A.many in
    let long = length-append w.journal A.more in
    let marked = A.marked in
    let nothing : A.more ≡ [] = nothing_in A.more (omega (arith, many, long, marked, low, at)) in
    let whole : take next w.journal ≡ w.journal = take_all next w.journal (omega (arith, many, long, at)) in
    let front : take next w.journal ≡ w.journal ++ A.more = whole ∙ sym (append-nil w.journal) ∙ ap (λ es. w.journal ++ es) (sym nothing) in
    record { state = plain_network (world_of b).live; leads = ap (after t414 start) front ∙ A.leads; is = is }

-- after a run that was done, whose next number the book has
pub done_rests : (start : Network NodeState) (w : World NodeState) (b : BookValue) (rest : Rest) (result : Result ℕ RunFault) → IsAheadOf start w b
    → IfOk result (λ next. (next_in_book b ≡ next) × (next ≤ w.mark)) → rest ≡ rest_in (plain_network (world_of b).live) → IfOk result (λ next. LeadsToRest start w.journal next rest)
done_rests start w b rest (Ok next) A stands is = leads_rest start w b next rest A stands.1 stands.0 is
done_rests start w b rest (Err fault) A stands is = tt

-- of a device that was opened, and whose flusher walked on from there
pub served_rests : (start : Network NodeState) (before : World NodeState) (opened : Opened) (old new : Flushing) (rest : Rest) (result : Result ℕ RunFault) → Began start before old.state.now.bytes → verdict old.state.now.bytes ≡ Ok opened
    → old.world ≡ reopened before old.state.now.bytes (held_of opened) opened.now → Walked old new → IfOk result (λ next. next ≤ new.world.mark) → IfOk result (λ next. LeadsToRest start new.world.journal next rest)
    → IfOk result (λ next. RestsAt start rest next old.state new.state)
served_rests start before opened old new rest result began reads first W =
    if_both result (λ next. next ≤ new.world.mark) (λ next. LeadsToRest start new.world.journal next rest) (λ next. RestsAt start rest next old.state new.state)
    (λ next low says. record { journal = new.world.journal; stored = λ left may. stored_follows start before old.state.now.bytes opened began reads old new first W next low left may; says = says })

-- and that was read before, which left its bytes as they are
pub opened_rests : (start : Network NodeState) (rest : Rest) (result : Result ℕ RunFault) (old read new : State) → read.now.bytes ≡ old.now.bytes → IfOk result (λ next. RestsAt start rest next read new) → IfOk result (λ next. RestsAt start rest next old new)
opened_rests start rest (Ok next) old read new same R = record { journal = R.journal; stored = λ left may. subst (λ bytes. Follows start R.journal next bytes left) same (R.stored left may); says = R.says }
opened_rests start rest (Err fault) old read new same R = tt
