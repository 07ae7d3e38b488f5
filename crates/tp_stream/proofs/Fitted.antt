-- What a stream answers of a network that may be run.
use Rattle.std.proofs.Common.{◌≡◌, ◌⊎◌, ◌<◌, inl, inr, ℕ, zero, suc, Bool, true, false, List, [], ◌∷◌, length, map, Option, Some, None, Result, Ok, Err, refl, ap, subst, ◌∙◌, arith}
use Rattle.std.specs.Prelude.{IfErr, if◌then◌else◌, nat_le, slice_get}
use Rattle.tp_stream.proofs.Lower.{option_map, leb-false, t414, t414_ends, Opened, after, IsCut, Topology, has_four_links, after_shape, GivenInput, Given, OutputValue, given_of, Ended}
use Rattle.tp_stream.specs.declared.fault.StreamFault.{StreamFault}
use Rattle.tp_stream.specs.declared.fault.StreamFault.TheVariants.{Opening, Spare, Port as Absent, Unnamed, Short, Long, Gone, NotShown, ShortInput, InputFailed, OutputFailed, FlushFailed, NotStored, JournalFull, Memory}
use Rattle.tp_stream.specs.declared.standing.Standing.{Standing}
use Rattle.tp_stream.specs.declared.task.Task.{Task}
use Rattle.tp_stream.specs.Fitting.{Fits, SaysFit, SaysUnfit, Unfit, else_past, first_past}
use Rattle.tp_stream.specs.Standing.{IsNotBegun}
use Rattle.tp_stream.specs.Streamed.{CameBegun}

-- it may not be run
pub unfit : (task : Task) (t : Topology) (outputs : List OutputValue) (inputs : List ℕ) (fault : StreamFault) → Unfit task t outputs inputs fault → SaysUnfit task t outputs inputs fault
unfit task t outputs inputs (Opening unopened) is = absurd is
unfit task t outputs inputs Spare is = is
unfit task t outputs inputs (Absent port) is = is
unfit task t outputs inputs (Unnamed port) is = is
unfit task t outputs inputs (Short port has from) is = absurd is
unfit task t outputs inputs (Long port has upto) is = absurd is
unfit task t outputs inputs (Gone port have confirmed) is = absurd is
unfit task t outputs inputs (NotShown port have shown) is = absurd is
unfit task t outputs inputs (ShortInput port has accepted) is = absurd is
unfit task t outputs inputs (InputFailed port) is = absurd is
unfit task t outputs inputs (OutputFailed port) is = absurd is
unfit task t outputs inputs FlushFailed is = absurd is
unfit task t outputs inputs NotStored is = absurd is
unfit task t outputs inputs JournalFull is = absurd is
unfit task t outputs inputs Memory is = absurd is

-- it was run
pub begun_fits : (task : Task) (t : Topology) (outputs : List OutputValue) (inputs : List ℕ) (r : Result Ended StreamFault) → Fits task t outputs inputs → IfErr r CameBegun → SaysFit task t outputs inputs r
begun_fits task t outputs inputs (Ok ended) fits begun = fits
begun_fits task t outputs inputs (Err (Opening unopened)) fits begun = tt
begun_fits task t outputs inputs (Err Spare) fits begun = absurd begun
begun_fits task t outputs inputs (Err (Absent port)) fits begun = absurd begun
begun_fits task t outputs inputs (Err (Unnamed port)) fits begun = absurd begun
begun_fits task t outputs inputs (Err (Short port has from)) fits begun = fits
begun_fits task t outputs inputs (Err (Long port has upto)) fits begun = fits
begun_fits task t outputs inputs (Err (Gone port have confirmed)) fits begun = fits
begun_fits task t outputs inputs (Err (NotShown port have shown)) fits begun = fits
begun_fits task t outputs inputs (Err (ShortInput port has accepted)) fits begun = fits
begun_fits task t outputs inputs (Err (InputFailed port)) fits begun = fits
begun_fits task t outputs inputs (Err (OutputFailed port)) fits begun = fits
begun_fits task t outputs inputs (Err FlushFailed) fits begun = fits
begun_fits task t outputs inputs (Err NotStored) fits begun = fits
begun_fits task t outputs inputs (Err JournalFull) fits begun = fits
begun_fits task t outputs inputs (Err Memory) fits begun = fits

-- ## It may be run, and isn't begun

-- The reason why a stream doesn't begin is neither a lack of frames nor a port without a sink.
no_spare : (ports : ℕ) (stands : ℕ → Standing) (accepted_at : ℕ → ℕ) (gs : List Given) (is : List GivenInput) → (Spare ≡ Memory) ⊎ IsNotBegun ports stands accepted_at gs is Spare → ⊥
no_spare ports stands accepted_at gs is either =
    elim either [
      | inl memory ↦ absurd (cc)
      | inr (inl first) ↦ elim first.why [
        | inl why ↦ why
        | inr past ↦ let clash = past.0 in absurd (cc)
      ]
      | inr (inr input) ↦ elim input.1.why [
        | inl why ↦ why
        | inr past ↦ let clash = past.0 in absurd (cc)
      ]
    ]

no_unnamed : (port ports : ℕ) (stands : ℕ → Standing) (accepted_at : ℕ → ℕ) (gs : List Given) (is : List GivenInput)
    → (Unnamed port ≡ Memory) ⊎ IsNotBegun ports stands accepted_at gs is (Unnamed port) → ⊥
no_unnamed port ports stands accepted_at gs is either =
    elim either [
      | inl memory ↦ absurd (cc)
      | inr (inl first) ↦ elim first.why [
        | inl why ↦ why
        | inr past ↦ let clash = past.0 in absurd (cc)
      ]
      | inr (inr input) ↦ elim input.1.why [
        | inl why ↦ why
        | inr past ↦ let clash = past.0 in absurd (cc)
      ]
    ]

-- if none of some ports is past the last one, each exists
some_same : (q p : ℕ) → Some q ≡ Some p → q ≡ p
some_same q p e = cc

first_there : (ports q : ℕ) (rest : Option ℕ) (test : Bool) → nat_le ports q ≡ test → (if test then Some q else rest) ≡ None → (q < ports) × (rest ≡ None)
first_there ports q rest true is none = absurd (cc)
first_there ports q rest false is none = (leb-false ports q is, none)

all_there : (ports : ℕ) (ps : List ℕ) (k p : ℕ) → first_past ports ps ≡ None → slice_get ps k ≡ Some p → p < ports
all_there ports [] k p none is = absurd (cc)
all_there ports (q ∷ qs) zero p none is =
    subst (λ n. n < ports) (some_same q p is) (first_there ports q (first_past ports qs) (nat_le ports q) refl none).0
all_there ports (q ∷ qs) (suc k) p none is = all_there ports qs k p (first_there ports q (first_past ports qs) (nat_le ports q) refl none).1 is

none_past : (ports : ℕ) (others : List ℕ) (one : Option ℕ) → else_past ports others one ≡ None → (one ≡ None) × (first_past ports others ≡ None)
none_past ports others None none = (refl, none)
none_past ports others (Some p) none = absurd (cc)

-- the number of what is at a place
number_at : {A B : Type 0} (f : A → B) (number : B → ℕ) (xs : List A) (k : ℕ) (y : B) → slice_get (map f xs) k ≡ Some y → slice_get (map (λ x. number (f x)) xs) k ≡ Some (number y)
number_at f number [] k y is = absurd (cc)
number_at f number (x ∷ xs) zero y is = ap (option_map number) is
number_at f number (x ∷ xs) (suc k) y is = number_at f number xs k y is

-- nor a port that doesn't exist
no_absent : {A : Type 0} (task : Task) (t : Topology) (outputs : List OutputValue) (f : A → GivenInput) (xs : List A) (port ports : ℕ) (stands : ℕ → Standing) (accepted_at : ℕ → ℕ) → ports ≡ t.ports
    → Fits task t outputs (map (λ x. (f x).port) xs) → (Absent port ≡ Memory) ⊎ IsNotBegun ports stands accepted_at (map given_of outputs) (map f xs) (Absent port) → ⊥
no_absent task t outputs f xs port ports stands accepted_at many fits either =
    let none = none_past t.ports (map (λ x. (f x).port) xs) (first_past t.ports (map (λ (o : OutputValue). o.port) outputs)) fits.there in
    elim either [
      | inl memory ↦ absurd (cc)
      | inr (inl first) ↦ elim first.why [
        | inl why ↦ why
        | inr past ↦
            let low = all_there t.ports _ first.at first.given.port none.0 (number_at given_of (λ (g : Given). g.port) outputs first.at first.given first.there) in
            let high = past.1 in
            absurd (omega (arith, low, high, many))
      ]
      | inr (inr input) ↦ elim input.1.why [
        | inl why ↦ why
        | inr past ↦
            let low = all_there t.ports _ input.1.at input.1.given.port none.1 (number_at f (λ (g : GivenInput). g.port) xs input.1.at input.1.given input.1.there) in
            let high = past.1 in
            absurd (omega (arith, low, high, many))
      ]
    ]

pub not_begun_fits : {A : Type 0} (task : Task) (t : Topology) (outputs : List OutputValue) (f : A → GivenInput) (xs : List A) (ports : ℕ) (stands : ℕ → Standing) (accepted_at : ℕ → ℕ) (fault : StreamFault) → ports ≡ t.ports
    → Fits task t outputs (map (λ x. (f x).port) xs) → (fault ≡ Memory) ⊎ IsNotBegun ports stands accepted_at (map given_of outputs) (map f xs) fault
    → SaysUnfit task t outputs (map (λ x. (f x).port) xs) fault
not_begun_fits task t outputs f xs ports stands accepted_at (Opening unopened) many fits either = tt
not_begun_fits task t outputs f xs ports stands accepted_at Spare many fits either = absurd (no_spare ports stands accepted_at (map given_of outputs) (map f xs) either)
not_begun_fits task t outputs f xs ports stands accepted_at (Absent port) many fits either = absurd (no_absent task t outputs f xs port ports stands accepted_at many fits either)
not_begun_fits task t outputs f xs ports stands accepted_at (Unnamed port) many fits either = absurd (no_unnamed port ports stands accepted_at (map given_of outputs) (map f xs) either)
not_begun_fits task t outputs f xs ports stands accepted_at (Short port has from) many fits either = fits
not_begun_fits task t outputs f xs ports stands accepted_at (Long port has upto) many fits either = fits
not_begun_fits task t outputs f xs ports stands accepted_at (Gone port have confirmed) many fits either = fits
not_begun_fits task t outputs f xs ports stands accepted_at (NotShown port have shown) many fits either = fits
not_begun_fits task t outputs f xs ports stands accepted_at (ShortInput port has accepted) many fits either = fits
not_begun_fits task t outputs f xs ports stands accepted_at (InputFailed port) many fits either = fits
not_begun_fits task t outputs f xs ports stands accepted_at (OutputFailed port) many fits either = fits
not_begun_fits task t outputs f xs ports stands accepted_at FlushFailed many fits either = fits
not_begun_fits task t outputs f xs ports stands accepted_at NotStored many fits either = fits
not_begun_fits task t outputs f xs ports stands accepted_at JournalFull many fits either = fits
not_begun_fits task t outputs f xs ports stands accepted_at Memory many fits either = fits

-- a device that opens has the ports of its topology
pub opened_ports : (o : Opened) → IsCut t414_ends o.head.topology o.base o.cut → after t414 o.cut (map (λ e. e.0) o.kept) ≡ Some o.now → length o.now.ports ≡ o.head.topology.ports
opened_ports o cut leads = (after_shape t414 has_four_links o.cut o.now (map (λ e. e.0) o.kept) leads).ports ∙ cut.count
