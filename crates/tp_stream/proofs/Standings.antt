-- Outputs that may begin.
use Rattle.std.proofs.Common.{◌≡◌, ℕ, zero, suc, ◌+◌, ◌*◌, ◌≤◌, ◌<◌, ◌⊎◌, inl, inr, cond, List, [], ◌∷◌, length, map, set, get_or, replicate, Option, Some, Result, Ok, Err, refl, sym, ap, subst, ◌∙◌, arith, below_more}
use Rattle.std.specs.Prelude.{slice_get, nat_le, count_by, IfErr, OnOk}
use Rattle.tp_stream.proofs.Lower.{option_map, fun_ext, le-leb, map-set, set-get_or, sum_by-replicate, slice_get-get_or, slice_get-map, slice_get_within, Port, Opened, verdict, AreCounted, fresh_value, opened_port, NetState, BookValue, outputs_of, accepted_of, port_in, now_of, opened_book, Ended, GivenInput, HasAtLeast, Given, OutputValue, given_of}
use Rattle.tp_stream.specs.declared.fault.StreamFault.{StreamFault}
use Rattle.tp_stream.specs.declared.fault.StreamFault.TheVariants.{Opening, Spare, Port as Absent, Unnamed, Short, Long, Gone, NotShown, ShortInput, InputFailed, OutputFailed, FlushFailed, NotStored, JournalFull, Memory}
use Rattle.tp_stream.specs.declared.standing.Standing.{Standing}
use Rattle.tp_stream.specs.Standing.{AllHaveAccepted, AllMayBegin, HaveAcceptedBelow, IsFirstRefused, IsFirstShort, IsNotBegun, MayBegin, MayBeginBelow, OfInput, OfOutput, Refuses, RefusesInput, accepted_at, accepted_opened, put_out, port_standing, stands_opened}
use Rattle.tp_stream.specs.Streamed.{CameBegun}

-- ## What a port has put out

outputs_in : (ports : List Port) (p : ℕ) (xs : List ℕ) → Some xs ≡ option_map (λ port. port.outputs) (slice_get ports p) → xs ≡ (get_or ports p fresh_value.port).outputs
outputs_in [] p xs is = absurd (cc)
outputs_in (q ∷ qs) zero xs is = cc
outputs_in (q ∷ qs) (suc p) xs is = outputs_in qs p xs is

-- the book has as many outputs of a port as were seen
pub length_outputs : (b : BookValue) (p : ℕ) (xs : List ℕ) → Some xs ≡ outputs_of b p → length xs ≡ length (port_in b p).outputs
length_outputs b p xs is = ap length (outputs_in b.state.ports p xs is)

-- a port has put out no more outputs than there are entries
pub put_out_few : (b : BookValue) (mark p : ℕ) → AreCounted mark b.state.ports → p < length b.state.ports → put_out (port_in b p) ≤ mark
put_out_few b mark p counted there = (counted p (port_in b p) (slice_get-get_or b.state.ports p fresh_value.port there)).outputs

-- ## Outputs one after the other

-- what is set out is given as before
pub given_set : (xs : List OutputValue) (i : ℕ) (d y : OutputValue) → given_of y ≡ given_of (get_or xs i d) → map given_of (set xs i y) ≡ map given_of xs
given_set xs i d y same =
    map-set given_of xs i y ∙ ap (set (map given_of xs) i) same ∙ sym (map-set given_of xs i (get_or xs i d)) ∙ ap (map given_of) (set-get_or xs i d)

pub given_at : (xs : List OutputValue) (gs : List Given) (i : ℕ) (d : OutputValue) → map given_of xs ≡ gs → i < length xs → slice_get gs i ≡ Some (given_of (get_or xs i d))
given_at xs gs i d same there = ap (λ l. slice_get l i) (sym same) ∙ slice_get-map given_of xs i ∙ ap (option_map given_of) (slice_get-get_or xs i d there)

-- none is after the last one
pub all_may_begin : (stands : ℕ → Standing) (gs : List Given) (n : ℕ) → length gs ≤ n → MayBeginBelow n stands gs → AllMayBegin stands gs
all_may_begin stands gs n all below k g is = below k (let within = slice_get_within gs k g is in omega (arith, within, all)) g is

some_same : (x y : Given) → Some x ≡ Some y → x ≡ y
some_same x y e = cc

-- one more may begin
pub may_begin_more : (stands : ℕ → Standing) (gs : List Given) (i : ℕ) (h : Given) → MayBeginBelow i stands gs → slice_get gs i ≡ Some h → MayBegin (stands h.port) h → MayBeginBelow (i + 1) stands gs
may_begin_more stands gs i h below at here =
    below_more _ i below (λ g is. subst (λ x. MayBegin (stands x.port) x) (some_same h g (sym at ∙ is)) here)

-- ## Of a device that opened

zeros_shown : (mark n : ℕ) → count_by (λ least. nat_le least mark) (replicate n 0) ≡ n
zeros_shown mark n =
    sum_by-replicate (λ least. cond (nat_le least mark) 1 0) n 0 ∙ ap (λ b. n * cond b 1 0) (le-leb 0 mark (omega arith)) ∙ omega arith

all_shown : (mark : ℕ) (ports : List Port) (p : ℕ)
    → count_by (λ least. nat_le least mark) (get_or (map (λ port. (opened_port port).marks) ports) p []) ≡ length (get_or ports p fresh_value.port).outputs
all_shown mark [] p = refl
all_shown mark (q ∷ qs) zero = zeros_shown mark (length q.outputs)
all_shown mark (q ∷ qs) (suc p) = all_shown mark qs p

-- each port of the opened book has come as far as the device says
pub opened_stands : (s : NetState) (room : Option ℕ) (o : Opened) (mark : ℕ) → now_of s ≡ o.now → port_standing (opened_book s room) mark ≡ stands_opened o
opened_stands s room o mark now = fun_ext (λ p.
    ap (λ shown. record { confirmed = (get_or (now_of s).ports p fresh_value.port).out_base; shown = (get_or (now_of s).ports p fresh_value.port).out_base + shown; upto = put_out (get_or (now_of s).ports p fresh_value.port) }) (all_shown mark (now_of s).ports p)
    ∙ ap (λ net. let port = get_or net.ports p fresh_value.port in record { confirmed = port.out_base; shown = put_out port; upto = put_out port }) now)

-- a fault of an output names the first that may not begin
said : (fault : StreamFault) (P : Type 0) → P → OfOutput fault P
said (Opening unopened) P p = tt
said Spare P p = tt
said (Absent port) P p = tt
said (Unnamed port) P p = tt
said (Short port has from) P p = p
said (Long port has upto) P p = p
said (Gone port have confirmed) P p = p
said (NotShown port have shown) P p = p
said (ShortInput port has accepted_at) P p = tt
said (InputFailed port) P p = tt
said (OutputFailed port) P p = tt
said FlushFailed P p = tt
said NotStored P p = tt
said JournalFull P p = tt
said Memory P p = tt

-- a fault that isn't of an output claims nothing about outputs
pub no_output : (fault : StreamFault) (P : Type 0) → OfOutput fault ⊥ → OfOutput fault P
no_output (Opening unopened) P none = tt
no_output Spare P none = tt
no_output (Absent port) P none = tt
no_output (Unnamed port) P none = tt
no_output (Short port has from) P none = absurd none
no_output (Long port has upto) P none = absurd none
no_output (Gone port have confirmed) P none = absurd none
no_output (NotShown port have shown) P none = absurd none
no_output (ShortInput port has accepted_at) P none = tt
no_output (InputFailed port) P none = tt
no_output (OutputFailed port) P none = tt
no_output FlushFailed P none = tt
no_output NotStored P none = tt
no_output JournalFull P none = tt
no_output Memory P none = tt

-- as one of a stream that was begun
begun_says : (fault : StreamFault) → CameBegun fault → OfOutput fault ⊥
begun_says (Opening unopened) begun = absurd begun
begun_says Spare begun = absurd begun
begun_says (Absent port) begun = absurd begun
begun_says (Unnamed port) begun = absurd begun
begun_says (Short port has from) begun = begun
begun_says (Long port has upto) begun = begun
begun_says (Gone port have confirmed) begun = begun
begun_says (NotShown port have shown) begun = begun
begun_says (ShortInput port has accepted_at) begun = absurd begun
begun_says (InputFailed port) begun = tt
begun_says (OutputFailed port) begun = tt
begun_says FlushFailed begun = tt
begun_says NotStored begun = tt
begun_says JournalFull begun = tt
begun_says Memory begun = tt

pub begun_refused : (r : Result Ended StreamFault) (P : StreamFault → Type 0) → IfErr r CameBegun → IfErr r (λ fault. OfOutput fault (P fault))
begun_refused (Ok next) P begun = tt
begun_refused (Err fault) P begun = no_output fault (P fault) (begun_says fault begun)

pub on_ok : (r : Result Ended StreamFault) (P : Type 0) → P → OnOk r P
on_ok (Ok next) P p = p
on_ok (Err fault) P p = tt

-- a device opens to one network
pub same_opened : (bytes : List ℕ) (a b : Opened) → verdict bytes ≡ Ok a → verdict bytes ≡ Ok b → a ≡ b
same_opened bytes a b first second = cc

-- ## Faults of inputs

said_input : (fault : StreamFault) (P : Type 0) → P → OfInput fault P
said_input (Opening unopened) P p = tt
said_input Spare P p = tt
said_input (Absent port) P p = tt
said_input (Unnamed port) P p = tt
said_input (Short port has from) P p = tt
said_input (Long port has upto) P p = tt
said_input (Gone port have confirmed) P p = tt
said_input (NotShown port have shown) P p = tt
said_input (ShortInput port has accepted_at) P p = p
said_input (InputFailed port) P p = tt
said_input (OutputFailed port) P p = tt
said_input FlushFailed P p = tt
said_input NotStored P p = tt
said_input JournalFull P p = tt
said_input Memory P p = tt

-- a fault that isn't of an input claims nothing about inputs
pub no_input : (fault : StreamFault) (P : Type 0) → OfInput fault ⊥ → OfInput fault P
no_input (Opening unopened) P none = tt
no_input Spare P none = tt
no_input (Absent port) P none = tt
no_input (Unnamed port) P none = tt
no_input (Short port has from) P none = tt
no_input (Long port has upto) P none = tt
no_input (Gone port have confirmed) P none = tt
no_input (NotShown port have shown) P none = tt
no_input (ShortInput port has accepted_at) P none = absurd none
no_input (InputFailed port) P none = tt
no_input (OutputFailed port) P none = tt
no_input FlushFailed P none = tt
no_input NotStored P none = tt
no_input JournalFull P none = tt
no_input Memory P none = tt

-- as one of a stream that was begun
begun_input : (fault : StreamFault) → CameBegun fault → OfInput fault ⊥
begun_input (Opening unopened) begun = absurd begun
begun_input Spare begun = absurd begun
begun_input (Absent port) begun = absurd begun
begun_input (Unnamed port) begun = absurd begun
begun_input (Short port has from) begun = absurd begun
begun_input (Long port has upto) begun = absurd begun
begun_input (Gone port have confirmed) begun = absurd begun
begun_input (NotShown port have shown) begun = absurd begun
begun_input (ShortInput port has accepted_at) begun = absurd begun
begun_input (InputFailed port) begun = tt
begun_input (OutputFailed port) begun = tt
begun_input FlushFailed begun = tt
begun_input NotStored begun = tt
begun_input JournalFull begun = tt
begun_input Memory begun = tt

pub begun_short : (r : Result Ended StreamFault) (P : StreamFault → Type 0) → IfErr r CameBegun → IfErr r (λ fault. OfInput fault (P fault))
begun_short (Ok ended) P begun = tt
begun_short (Err fault) P begun = no_input fault (P fault) (begun_input fault begun)

-- a fault that refuses an output isn't of an input
output_refused : (s : Standing) (g : Given) (fault : StreamFault) (P : Type 0) → Refuses s g fault → OfInput fault P
output_refused s g (Opening unopened) P why = tt
output_refused s g Spare P why = tt
output_refused s g (Absent port) P why = tt
output_refused s g (Unnamed port) P why = tt
output_refused s g (Short port has from) P why = tt
output_refused s g (Long port has upto) P why = tt
output_refused s g (Gone port have confirmed) P why = tt
output_refused s g (NotShown port have shown) P why = tt
output_refused s g (ShortInput port has accepted_at) P why = absurd why
output_refused s g (InputFailed port) P why = tt
output_refused s g (OutputFailed port) P why = tt
output_refused s g FlushFailed P why = tt
output_refused s g NotStored P why = tt
output_refused s g JournalFull P why = tt
output_refused s g Memory P why = tt

-- a fault that refuses an input isn't of an output
input_refused : (n : ℕ) (g : GivenInput) (fault : StreamFault) (P : Type 0) → RefusesInput n g fault → OfOutput fault P
input_refused n g (Opening unopened) P why = tt
input_refused n g Spare P why = tt
input_refused n g (Absent port) P why = tt
input_refused n g (Unnamed port) P why = tt
input_refused n g (Short port has from) P why = absurd why
input_refused n g (Long port has upto) P why = absurd why
input_refused n g (Gone port have confirmed) P why = absurd why
input_refused n g (NotShown port have shown) P why = absurd why
input_refused n g (ShortInput port has accepted_at) P why = tt
input_refused n g (InputFailed port) P why = tt
input_refused n g (OutputFailed port) P why = tt
input_refused n g FlushFailed P why = tt
input_refused n g NotStored P why = tt
input_refused n g JournalFull P why = tt
input_refused n g Memory P why = tt

first_refused : (ports : ℕ) (stands : ℕ → Standing) (gs : List Given) (fault : StreamFault) (P : Type 0) → IsFirstRefused ports stands gs fault → OfInput fault P
first_refused ports stands gs fault P first =
    elim first.why [
      | inl why ↦ output_refused (stands first.given.port) first.given fault P why
      | inr absent ↦ subst (λ f. OfInput f P) (sym absent.0) tt
    ]

first_short : (ports : ℕ) (accepted_at : ℕ → ℕ) (gs : List GivenInput) (fault : StreamFault) (P : Type 0) → IsFirstShort ports accepted_at gs fault → OfOutput fault P
first_short ports accepted_at gs fault P first =
    elim first.why [
      | inl why ↦ input_refused (accepted_at first.given.port) first.given fault P why
      | inr absent ↦ subst (λ f. OfOutput f P) (sym absent.0) tt
    ]

pub says_first : (ports : ℕ) (stands : ℕ → Standing) (accepted_at : ℕ → ℕ) (gs : List Given) (inputs : List GivenInput) (fault : StreamFault)
    → (fault ≡ Memory) ⊎ IsNotBegun ports stands accepted_at gs inputs fault → OfOutput fault (IsFirstRefused ports stands gs fault)
says_first ports stands accepted_at gs inputs fault either =
    let First : Type 0 = IsFirstRefused ports stands gs fault in
    elim either [
      | inl memory ↦ subst (λ f. OfOutput f First) (sym memory) tt
      | inr (inl first) ↦ said fault First first
      | inr (inr input) ↦ first_short ports accepted_at inputs fault First input.1
    ]

pub says_short : (ports : ℕ) (stands : ℕ → Standing) (accepted_at : ℕ → ℕ) (gs : List Given) (inputs : List GivenInput) (fault : StreamFault)
    → (fault ≡ Memory) ⊎ IsNotBegun ports stands accepted_at gs inputs fault → OfInput fault (AllMayBegin stands gs × IsFirstShort ports accepted_at inputs fault)
says_short ports stands accepted_at gs inputs fault either =
    let First : Type 0 = AllMayBegin stands gs × IsFirstShort ports accepted_at inputs fault in
    elim either [
      | inl memory ↦ subst (λ f. OfInput f First) (sym memory) tt
      | inr (inl first) ↦ first_refused ports stands gs fault First first
      | inr (inr input) ↦ said_input fault First input
    ]

-- ## Inputs one after the other

pub input_at : {A : Type 0} (f : A → GivenInput) (xs : List A) (i : ℕ) (x : A) → i < length xs → x ≡ get_or xs i x → slice_get (map f xs) i ≡ Some (f x)
input_at f xs i x there is = slice_get-map f xs i ∙ ap (option_map f) (slice_get-get_or xs i x there) ∙ ap (λ y. Some (f y)) (sym is)

pub all_have_accepted : (accepted_at : ℕ → ℕ) (gs : List GivenInput) (n : ℕ) → length gs ≤ n → HaveAcceptedBelow n accepted_at gs → AllHaveAccepted accepted_at gs
all_have_accepted accepted_at gs n all below k g is = below k (let within = slice_get_within gs k g is in omega (arith, within, all)) g is

same_input : (x y : GivenInput) → Some x ≡ Some y → x ≡ y
same_input x y e = cc

pub have_accepted_more : (accepted_at : ℕ → ℕ) (gs : List GivenInput) (i : ℕ) (h : GivenInput) → HaveAcceptedBelow i accepted_at gs → slice_get gs i ≡ Some h
    → HasAtLeast (accepted_at h.port) h.all → HaveAcceptedBelow (i + 1) accepted_at gs
have_accepted_more accepted_at gs i h below at here =
    below_more _ i below (λ g is. subst (λ (x : GivenInput). HasAtLeast (accepted_at x.port) x.all) (same_input h g (sym at ∙ is)) here)

-- ports of what was opened have accepted as many
pub opened_accepted : (s : NetState) (room : Option ℕ) (o : Opened) → now_of s ≡ o.now → accepted_at (opened_book s room) ≡ accepted_opened o
opened_accepted s room o now = fun_ext (λ p. ap (λ net. accepted_of (get_or net.ports p fresh_value.port)) now)

-- why a stream doesn't begin, by other descriptions of the same ports
pub not_begun_as : (many few : ℕ) (stands at : ℕ → Standing) (taken had : ℕ → ℕ) (gs : List Given) (inputs : List GivenInput) (fault : StreamFault)
    → many ≡ few → stands ≡ at → taken ≡ had → IsNotBegun many stands taken gs inputs fault → IsNotBegun few at had gs inputs fault
not_begun_as many few stands at taken had gs inputs fault ports where_ accept is =
    subst (λ n. IsNotBegun n at had gs inputs fault) ports
    (subst (λ s. IsNotBegun many s had gs inputs fault) where_ (subst (λ t. IsNotBegun many stands t gs inputs fault) accept is))
