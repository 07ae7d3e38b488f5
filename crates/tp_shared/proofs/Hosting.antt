-- What the host does to a book.
use Rattle.std.proofs.Common.{◌≡◌, ℕ, Bool, true, false, cond, List, [], ◌∷◌, ◌++◌, map, length, refl, sym, ap, ◌∙◌, Option, Some, None}
use Rattle.std.specs.Prelude.{nat_le, is_some, Result, Ok, Err, IfErr}
use Rattle.tp_shared.proofs.Lower.{AllByRecursion, range_with_len, append-nil, length-map, Entry, HostIn, Confirm, WireEnd, t414, process, Act, Begin, Journal, happens, acted, is_trim, has_recorded_in, Refusal, JournalFull, StoreBroken, Memory, NothingToTake, SnapshotRunning, PortFull, input_acts, confirm_acts, confirm_entries, BookValue, agreed, next_in_book, world_of, after_inputs, after_confirm, with_confirmed, port_in, is_full_for_snapshot, Snapshot, after_begin, begin_refusal, else_if, IsAnswer, one_act, entries_among, HostAdded, HostDone, HostTurns, collected_recorded}
use Rattle.tp_shared.specs.BookActs.{Grown, HostActed}
use Rattle.tp_shared.specs.Entries.{TakesOf, IsTurnRefusal}
use Rattle.tp_shared.proofs.Untrimmed.{untrimmed, taken, host_turns}

-- ## Bytes handed in

inputs_kept : (port : ℕ) (bytes : List ℕ) → AllByRecursion (λ act. is_trim act ≡ false) (input_acts port bytes)
inputs_kept port [] = tt
inputs_kept port (x ∷ xs) = (refl, inputs_kept port xs)

inputs_listed : (port : ℕ) (bytes : List ℕ) → entries_among (input_acts port bytes) ≡ map (HostIn port) bytes
inputs_listed port [] = refl
inputs_listed port (x ∷ xs) = ap (λ es. HostIn port x ∷ es) (inputs_listed port xs)

-- they are the host's
inputs_own : (wires : List (Option WireEnd)) (count port : ℕ) (bytes : List ℕ) → AllByRecursion (λ e. process wires count e ≡ count) (entries_among (input_acts port bytes))
unfolding process
inputs_own wires count port [] = tt
inputs_own wires count port (x ∷ xs) = (refl, inputs_own wires count port xs)

confirm_own : (wires : List (Option WireEnd)) (count port upto : ℕ) → process wires count (Confirm port upto) ≡ count
unfolding process
confirm_own wires count port upto = refl

inputs_many : (port : ℕ) (bytes : List ℕ) → length bytes ≡ length (entries_among (input_acts port bytes))
inputs_many port bytes = sym (ap length (inputs_listed port bytes) ∙ length-map bytes (HostIn port))

pub hosted_input : (b new : BookValue) (port : ℕ) (bytes : List ℕ) → new ≡ after_inputs b port bytes → agreed new.state ≡ agreed b.state → acted t414 (world_of b) (input_acts port bytes) ≡ Some (world_of new)
    → HostActed (λ entries. entries ≡ map (HostIn port) bytes) b new
hosted_input b new port bytes is same act = record {
  grown = record {
    acts = input_acts port bytes;
    none = inputs_kept port bytes;
    did = act;
    are = inputs_listed port bytes;
    start = ap (λ x. x.state.start) is;
    entries_are = ap (λ x. x.state.entries) is ∙ ap (λ es. b.state.entries ++ es) (sym (inputs_listed port bytes));
    numbers = ap (λ x. x.numbers) is ∙ ap (λ count. b.numbers ++ range_with_len (next_in_book b) count) (inputs_many port bytes);
    history = ap (λ x. x.history) is ∙ ap (λ es. b.history ++ es) (sym (inputs_listed port bytes));
    base = ap (λ x. x.base) is;
    ready = ap (λ x. x.ready) is;
    room = ap (λ x. x.room) is;
    floor = ap (λ x. x.floor) is;
    form = ap (λ x. x.form) is;
    broken = ap (λ x. x.broken) is;
  };
  own = inputs_own b.state.start.wires (length b.state.start.nodes) port bytes;
  nodes = same;
  runs = ap (λ x. x.runs) is;
  recorded = λ process. ap (λ x. has_recorded_in x.state.snapshot process) is;
  frozen = ap (λ x. x.frozen) is;
}

-- ## Outputs confirmed

pub hosted_confirm : (b new : BookValue) (port upto : ℕ) → new ≡ after_confirm b port upto → agreed new.state ≡ agreed b.state → acted t414 (world_of b) (confirm_acts b port upto) ≡ Some (world_of new)
    → HostActed (λ entries. entries ≡ confirm_entries b port upto) b new
hosted_confirm b new port upto is same act = go (nat_le upto (port_in b port).out_base) is act
  where
    go : (before : Bool) → new ≡ cond before b (with_confirmed b port upto) → acted t414 (world_of b) (map Journal (cond before [] (Confirm port upto ∷ []))) ≡ Some (world_of new)
        → HostActed (λ entries. entries ≡ cond before [] (Confirm port upto ∷ [])) b new
    go true e act = record {
      grown = record {
        acts = [];
        none = tt;
        did = act;
        are = refl;
        start = ap (λ x. x.state.start) e;
        entries_are = ap (λ x. x.state.entries) e ∙ sym (append-nil b.state.entries);
        numbers = ap (λ x. x.numbers) e ∙ sym (append-nil b.numbers);
        history = ap (λ x. x.history) e ∙ sym (append-nil b.history);
        base = ap (λ x. x.base) e;
        ready = ap (λ x. x.ready) e;
        room = ap (λ x. x.room) e;
        floor = ap (λ x. x.floor) e;
        form = ap (λ x. x.form) e;
        broken = ap (λ x. x.broken) e;
      };
      own = tt;
      nodes = same;
      runs = ap (λ x. x.runs) e;
      recorded = λ process. ap (λ x. has_recorded_in x.state.snapshot process) e;
      frozen = ap (λ x. x.frozen) e;
    }
    go false e act = record {
      grown = record {
        acts = Journal (Confirm port upto) ∷ [];
        none = (refl, tt);
        did = act;
        are = refl;
        start = ap (λ x. x.state.start) e;
        entries_are = ap (λ x. x.state.entries) e;
        numbers = ap (λ x. x.numbers) e;
        history = ap (λ x. x.history) e;
        base = ap (λ x. x.base) e;
        ready = ap (λ x. x.ready) e;
        room = ap (λ x. x.room) e;
        floor = ap (λ x. x.floor) e;
        form = ap (λ x. x.form) e;
        broken = ap (λ x. x.broken) e;
      };
      own = (confirm_own b.state.start.wires (length b.state.start.nodes) port upto, tt);
      nodes = same;
      runs = ap (λ x. x.runs) e;
      recorded = λ process. ap (λ x. has_recorded_in x.state.snapshot process) e ∙ collected_recorded b.state.snapshot _ process _;
      frozen = ap (λ x. x.frozen) e;
    }

-- ## Turns

pub hosted_by : (Are : List Entry → Type 0) (acts : List Act) (b new : BookValue) → HostAdded acts b new → AllByRecursion (λ act. is_trim act ≡ false) acts → Are (entries_among acts) → HostActed Are b new
hosted_by Are acts b new A none are = record {
  grown = record {
    acts = acts;
    none = none;
    did = A.did;
    are = are;
    start = A.grew.start;
    entries_are = A.grew.entries_are;
    numbers = A.grew.numbers;
    history = A.grew.history;
    base = A.grew.base;
    ready = A.grew.ready;
    room = A.grew.room;
    floor = A.grew.floor;
    form = A.grew.form;
    broken = A.grew.broken;
  };
  own = A.own;
  nodes = A.nodes;
  runs = A.grew.runs;
  recorded = A.recorded;
  frozen = A.frozen;
}

pub hosted_turn : (r : Result ℕ Refusal) (b new : BookValue) → HostDone (HostTurns r) b new → HostActed (TakesOf b.state.start (length b.state.start.nodes) r) b new
hosted_turn (Ok takes) b new D =
    let turns = host_turns (Ok takes) b new D.acts D.did in
    hosted_by (TakesOf b.state.start (length b.state.start.nodes) (Ok takes)) D.acts b new D.added (untrimmed D.acts turns)
    (sym D.did.many, taken b.state.start (length b.state.start.nodes) D.acts turns D.added.own)
hosted_turn (Err e) b new D =
    let turns = host_turns (Err e) b new D.acts D.did in
    hosted_by (TakesOf b.state.start (length b.state.start.nodes) (Err e)) D.acts b new D.added (untrimmed D.acts turns) (taken b.state.start (length b.state.start.nodes) D.acts turns D.added.own)

refused_by : (e : Refusal) (b new : BookValue) (acts : List Act) → HostTurns (Err e) b acts new → IsTurnRefusal e
refused_by JournalFull b new acts D = tt
refused_by StoreBroken b new acts D = tt
refused_by Memory b new acts D = tt
refused_by NothingToTake b new acts D = absurd D
refused_by SnapshotRunning b new acts D = absurd D
refused_by PortFull b new acts D = absurd D

pub host_refused : (r : Result ℕ Refusal) (b new : BookValue) → HostDone (HostTurns r) b new → IfErr r IsTurnRefusal
host_refused (Ok takes) b new D = tt
host_refused (Err e) b new D = refused_by e b new D.acts D.did

-- ## A snapshot begins

-- a snapshot can begin if none runs
pub idle_begun : (b : BookValue) → IsAnswer {A = Unit {0}} (begin_refusal b) (Ok tt) → b.state.snapshot ≡ None
idle_begun b h = go b.state.snapshot b.broken (is_full_for_snapshot b.generation) h
  where
    go : (given : Option Snapshot) (broken full : Bool) → IsAnswer {A = Unit {0}} (else_if (else_if (else_if None (is_some given) SnapshotRunning) broken StoreBroken) full JournalFull) (Ok tt) → given ≡ None
    go None broken full h = refl
    go (Some snap) broken full h = absurd h

pub begun_agreed : (b new : BookValue) → new ≡ after_begin b → agreed new.state ≡ agreed b.state
unfolding agreed
begun_agreed b new is = ap (λ x. agreed x.state) is

pub begun_grown : (b new : BookValue) → new ≡ after_begin b → happens t414 (world_of b) Begin ≡ Some (world_of new) → Grown (λ entries. entries ≡ []) b new
begun_grown b new is act = record {
  acts = Begin ∷ [];
  none = (refl, tt);
  did = one_act (world_of b) (world_of new) Begin act;
  are = refl;
  start = ap (λ x. x.state.start) is;
  entries_are = ap (λ x. x.state.entries) is ∙ sym (append-nil b.state.entries);
  numbers = ap (λ x. x.numbers) is ∙ sym (append-nil b.numbers);
  history = ap (λ x. x.history) is ∙ sym (append-nil b.history);
  base = ap (λ x. x.base) is;
  ready = ap (λ x. x.ready) is;
  room = ap (λ x. x.room) is;
  floor = ap (λ x. x.floor) is;
  form = ap (λ x. x.form) is;
  broken = ap (λ x. x.broken) is;
}
