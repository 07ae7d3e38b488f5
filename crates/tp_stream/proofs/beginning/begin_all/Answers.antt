use Rattle.std.proofs.Common.{◌≡◌, ℕ, inl, inr, List, ◌++◌, length, map, take, drop, Result, Ok, Err, sym, ap, subst, ◌∙◌, arith}
use Rattle.std.specs.Prelude.{IfErr, OnOk}
use Rattle.tp_stream.proofs.Lower.{take-append_seam, GivenInput, given_input, Noticed, Given, OutputValue, given_of}
use Rattle.tp_stream.specs.declared.fault.StreamFault.{StreamFault}
use Rattle.tp_stream.specs.declared.standing.Standing.{Standing}
use Rattle.tp_stream.specs.Standing.{AllHaveAccepted, AllMayBegin, IsFirstRefused, IsFirstShort, IsNotBegun, accepted_at, port_standing}
use Rattle.tp_stream.specs.Put.{EachWith}
use Rattle.tp_stream.specs.Steps.{IsSetOut}
use Rattle.tp_stream.specs.Told.{input_begins, output_begins}
use Rattle.tp_stream.proofs.Notices.{told_both}
use Rattle.tp_stream.proofs.beginning.begin_all.Goals as goal

however_it_ends : {A E : Type 0} (P : Type 0) (r : Result A E) → P → OnOk r P
however_it_ends P (Ok x) so = so
however_it_ends P (Err e) so = tt

-- an input is refused after all outputs
short_behind : {A : Type 0} (ports : ℕ) (stands : ℕ → Standing) (taken : ℕ → ℕ) (gs : List Given) (inputs : List GivenInput) (r : Result A StreamFault)
    → AllMayBegin stands gs → IfErr r (IsFirstShort ports taken inputs) → IfErr r (IsNotBegun ports stands taken gs inputs)
short_behind ports stands taken gs inputs (Ok x) begun short = tt
short_behind ports stands taken gs inputs (Err e) begun short = inr (begun, short)

-- a list that is written back whole
items_again : {A : Type 0} (items new : List A) (n : ℕ) → length new ≡ n → take n (new ++ drop (length new) items) ≡ new
items_again items new n long = ap (λ k. take k (new ++ drop (length new) items)) (sym long) ∙ take-append_seam new (drop (length new) items)

-- outputs that were lent, and are written back whole, are given as before
given_again : (items lent new : List OutputValue) (n : ℕ) → length new ≡ n → lent ≡ items → map given_of new ≡ map given_of lent
    → map given_of (take n (new ++ drop (length new) items)) ≡ map given_of items
given_again items lent new n long is same = ap (map given_of) (items_again items new n long) ∙ same ∙ ap (map given_of) is

-- they are set out, however that ends
set_again : {A E : Type 0} (R : OutputValue → OutputValue → Type 0) (items lent new : List OutputValue) (n : ℕ) (r : Result A E) → length new ≡ n → lent ≡ items
    → EachWith R lent new → OnOk r (EachWith R items (take n (new ++ drop (length new) items)))
set_again R items lent new n r long is set =
    however_it_ends (EachWith R items (take n (new ++ drop (length new) items))) r
    (subst (EachWith R items) (sym (items_again items new n long)) (subst (λ xs. EachWith R xs new) is set))

pub returns-in-Ok-clause-begun : goal.returns-in-Ok-clause-begun
returns-in-Ok-clause-begun g c =
    let at = port_standing c.args.book.now c.args.mark in
    however_it_ends (AllMayBegin at (map given_of c.args.streams.now.outputs.items)) c.begin_inputs.result
    (subst (λ xs. AllMayBegin at (map given_of xs)) c.deref_mut.ensures.value c.in-Ok.ensures.begun)

pub returns-in-Ok-clause-refused : goal.returns-in-Ok-clause-refused
returns-in-Ok-clause-refused g c =
    let at = port_standing c.args.book.now c.args.mark in
    let ports = length c.args.book.now.state.ports in
    let taken = accepted_at c.args.book.now in
    short_behind ports at taken (map given_of c.args.streams.now.outputs.items) (map (λ i. given_input i.port (g.I.Source.input i.source)) c.args.streams.now.inputs.items)
    c.begin_inputs.result
    (subst (λ xs. AllMayBegin at (map given_of xs)) c.deref_mut.ensures.value c.in-Ok.ensures.begun)
    (subst (λ xs. IfErr c.begin_inputs.result (IsFirstShort ports taken (map (λ i. given_input i.port (g.I.Source.input i.source)) xs))) c.deref.ensures.value c.begin_inputs.ensures.refused)

pub returns-in-Ok-clause-inputs : goal.returns-in-Ok-clause-inputs
returns-in-Ok-clause-inputs g c =
    subst (λ xs. OnOk c.begin_inputs.result (AllHaveAccepted (accepted_at c.args.book.now) (map (λ i. given_input i.port (g.I.Source.input i.source)) xs))) c.deref.ensures.value c.begin_inputs.ensures.begun

pub returns-in-Ok-clause-told : goal.returns-in-Ok-clause-told
returns-in-Ok-clause-told g c =
    let at = port_standing c.args.book.now c.args.mark in
    let inputs = map (λ i. given_input i.port (g.I.Source.input i.source)) c.args.streams.now.inputs.items in
    let was = g.L.Listener.told c.args.listener.now in
    let between = g.L.Listener.told c.begin_outputs.new.listener in
    let now = g.L.Listener.told c.begin_inputs.new.listener in
    told_both (map (output_begins at) (map given_of c.args.streams.now.outputs.items)) (map (input_begins (accepted_at c.args.book.now)) inputs) c.begin_inputs.result was between now
    (subst (λ xs. Noticed (map (output_begins at) (map given_of xs)) was between) c.deref_mut.ensures.value c.in-Ok.ensures.told)
    (subst (λ xs. OnOk c.begin_inputs.result (Noticed (map (input_begins (accepted_at c.args.book.now)) (map (λ i. given_input i.port (g.I.Source.input i.source)) xs)) between now))
    c.deref.ensures.value c.begin_inputs.ensures.told)

pub returns-in-Ok-clause-same : goal.returns-in-Ok-clause-same
returns-in-Ok-clause-same g c =
    let was = c.args.streams.now.outputs in
    let long : length c.begin_outputs.new.outputs ≡ was.len = omega (arith, c.begin_outputs.auto.outputs, c.deref_mut.ensures.len) in
    given_again was.items c.deref_mut.result.now c.begin_outputs.new.outputs was.len long c.deref_mut.ensures.value c.begin_outputs.ensures.same

pub returns-in-Err-clause-same : goal.returns-in-Err-clause-same
returns-in-Err-clause-same g c =
    let was = c.args.streams.now.outputs in
    let long : length c.begin_outputs.new.outputs ≡ was.len = omega (arith, c.begin_outputs.auto.outputs, c.deref_mut.ensures.len) in
    given_again was.items c.deref_mut.result.now c.begin_outputs.new.outputs was.len long c.deref_mut.ensures.value c.begin_outputs.ensures.same

pub returns-in-Ok-clause-set : goal.returns-in-Ok-clause-set
returns-in-Ok-clause-set g c =
    let was = c.args.streams.now.outputs in
    let long : length c.begin_outputs.new.outputs ≡ was.len = omega (arith, c.begin_outputs.auto.outputs, c.deref_mut.ensures.len) in
    set_again (IsSetOut (port_standing c.args.book.now c.args.mark)) was.items c.deref_mut.result.now c.begin_outputs.new.outputs was.len c.begin_inputs.result long c.deref_mut.ensures.value c.in-Ok.ensures.set

-- an output is refused
pub returns-in-Err-clause-refused : goal.returns-in-Err-clause-refused
returns-in-Err-clause-refused g c =
    inl (subst (λ xs. IsFirstRefused (length c.args.book.now.state.ports) (port_standing c.args.book.now c.args.mark) (map given_of xs) c.in-Err.fault) c.deref_mut.ensures.value c.in-Err.ensures.refused)
