-- What the clauses of calls say of what was left, shown and handed in, in one form for all of them.
use Rattle.std.proofs.Common.{◌≡◌, ℕ, zero, suc, ◌+◌, ◌-◌, ◌<◌, ◌≤◌, ◌⊎◌, inl, inr, List, [], ◌∷◌, ◌++◌, length, take, drop, Some, Result, Ok, Err, sym, ap, ◌∙◌, arith}
use Rattle.std.specs.Prelude.{map, slice_get}
use Rattle.tp_law_processes.proofs.Lower.{AllByRecursion, take_all, accepted, Entry, HostIn, NodeState, t414, Network, MayBe, LeavesOnly, State, moment, device_areas, Opened, next_of, verdict, RecoversTo, Follows, read_alone, RunFault, OutletValue, outset_in, IsCalled, LeadsToOutputs, OutputValue, given_of, AreShown, ArePut, EachWith, Got, LeadsToBytes, PutPiece, port_or_fresh, bytes_in, bytes_in-handed}
use Rattle.tp_law_processes.specs.Processes.{ByCompaction, ByReading, ByRun, ByStream, Did, MayHand, Showing, answered, got_showings, journal_of, outlet_showings, piece_showings, set_out_at, showings, sink_showings}
use Rattle.tp_law_processes.proofs.Handing.{byte_there, none_handed, run_hands}

-- Bytes were shown while the device was in some state. They are outputs where some first entries lead, no fewer than the device had when it was
-- opened. Whatever a crash leaves from then on has each of these entries.
pub record IsShowing (start : Network NodeState) (journal : List Entry) (old new : State) (x : Showing) : Type 0 where
  pub opened : Opened
  pub reads : verdict old.now.bytes ≡ Ok opened
  pub number : ℕ
  pub behind : next_of opened ≤ number
  pub shows : LeadsToBytes start journal number x.port x.from x.bytes
  pub there : State
  pub at : moment there ≤ x.there
  pub since : LeavesOnly there new (RecoversTo t414 device_areas start journal number)

all_joined : (P : Showing → Type 0) (xs ys : List Showing) → AllByRecursion P xs → AllByRecursion P ys → AllByRecursion P (xs ++ ys)
all_joined P [] ys first then = then
all_joined P (x ∷ xs) ys first then = (first.0, all_joined P xs ys first.1 then)

-- ## Of a run

bytes_led : (start : Network NodeState) (journal : List Entry) (number port from : ℕ) (outputs : List ℕ) → LeadsToOutputs start journal number port from outputs → LeadsToBytes start journal number port from outputs
bytes_led start journal number port from outputs L =
    let base : (port_or_fresh L.state port).out_base ≡ from = L.base in
    let none : from - (port_or_fresh L.state port).out_base ≡ 0 = omega (arith, base) in
    let all : take (length outputs) outputs ≡ outputs = take_all (length outputs) outputs (omega arith) in
    let there = (port_or_fresh L.state port).outputs in
    let same : outputs ≡ there = sym L.are in
    let rest : drop (from - (port_or_fresh L.state port).out_base) there ≡ there = ap (λ n. drop n there) none in record {
      state = L.state;
      leads = L.leads;
      unconfirmed = omega (arith, base);
      are = sym all ∙ ap (take (length outputs)) (same ∙ sym rest);
    }

run_shows : (start : Network NodeState) (journal : List Entry) (port : ℕ) (was now : OutletValue) (result : Result ℕ RunFault) (old new : State)
    → (either : (now ≡ was) ⊎ IsCalled start journal port was now result old new)
    → AllByRecursion (IsShowing start journal old new) (outlet_showings start journal port was now result old new either)
run_shows start journal port was now result old new (inl silent) = tt
run_shows start journal port was now result old new (inr called) =
    let P = called.printed in (
      record {
        opened = P.opened;
        reads = P.reads;
        number = P.number;
        behind = P.behind;
        shows = bytes_led start journal P.number port (outset_in P.opened port).confirmed P.outputs P.shows;
        there = P.there;
        at = omega arith;
        since = P.since;
      },
      tt,
    )

-- ## Of a stream

pieces_show : (start : Network NodeState) (journal : List Entry) (opened : Opened) (old new : State) → verdict old.now.bytes ≡ Ok opened → (port from : ℕ) (mid : State) (ps : List PutPiece)
    → ArePut start journal (next_of opened) port from mid new ps → AllByRecursion (IsShowing start journal old new) (piece_showings port from ps)
pieces_show start journal opened old new reads port from mid [] each = tt
pieces_show start journal opened old new reads port from mid (p ∷ ps) each =
    let P = each.0 in (
      record { opened = opened; reads = reads; number = p.number; behind = P.behind; shows = P.shows; there = p.there; at = omega arith; since = P.since },
      pieces_show start journal opened old new reads port (from + length p.bytes) p.there ps each.1,
    )

got_show : (start : Network NodeState) (journal : List Entry) (opened : Opened) (from : OutputValue → ℕ) (old new : State) → verdict old.now.bytes ≡ Ok opened → (was now : List OutputValue)
    → (each : EachWith (λ a b. Got start journal (next_of opened) (from a) old new a b) was now)
    → AllByRecursion (IsShowing start journal old new) (got_showings start journal (next_of opened) from old new was now each)
got_show start journal opened from old new reads [] now each = tt
got_show start journal opened from old new reads (a ∷ was) [] each = tt
got_show start journal opened from old new reads (a ∷ was) (b ∷ now) each =
    let G = each.0 in
    all_joined (IsShowing start journal old new) (piece_showings a.port (from a) G.pieces) (got_showings start journal (next_of opened) from old new was now each.1)
    (pieces_show start journal opened old new reads a.port (from a) old G.pieces G.each) (got_show start journal opened from old new reads was now each.1)

stream_shows : (start : Network NodeState) (journal : List Entry) (was now : List OutputValue) (old new : State) → (either : (map given_of now ≡ map given_of was) ⊎ AreShown start journal was now old new)
    → AllByRecursion (IsShowing start journal old new) (sink_showings start journal was now old new either)
stream_shows start journal was now old new (inl same) = tt
stream_shows start journal was now old new (inr S) = got_show start journal S.opened (set_out_at S.opened) old new S.reads was now S.each

-- ## Of any call

pub record Facts (start : Network NodeState) (old new : State) (did : Did start old new) : Type 0 where
  pub leaves : LeavesOnly old new (λ left. MayBe old.now left ⊎ Follows start (journal_of did) 0 old.now.bytes left)
  pub stored : (left : List ℕ) → MayBe new.now left → (k : ℕ) → k < answered did → Follows start (journal_of did) (answered did) old.now.bytes left
  pub shown : AllByRecursion (IsShowing start (journal_of did) old new) (showings start old new did)

pub facts : (start : Network NodeState) (old new : State) (did : Did start old new) → Facts start old new did
facts start old new (ByRun job input was now (Ok next) clause) = record {
  leaves = clause.ran.leaves;
  stored = λ left may k below. clause.ran.stored left may;
  shown = run_shows start clause.ran.journal job.port was now (Ok next) old new clause.called;
}
facts start old new (ByRun job input was now (Err fault) clause) = record {
  leaves = clause.ran.leaves;
  stored = λ left may k below. absurd (omega (arith, below));
  shown = run_shows start clause.ran.journal job.port was now (Err fault) old new clause.called;
}
facts start old new (ByStream inputs (Ok ended) was now clause) = record {
  leaves = clause.streamed.leaves;
  stored = λ left may k below. clause.streamed.stored left may;
  shown = stream_shows start clause.streamed.journal was now old new clause.outputs;
}
facts start old new (ByStream inputs (Err fault) was now clause) = record {
  leaves = clause.streamed.leaves;
  stored = λ left may k below. absurd (omega (arith, below));
  shown = stream_shows start clause.streamed.journal was now old new clause.outputs;
}
facts start old new (ByCompaction (Ok done) clause) = record { leaves = clause.leaves; stored = λ left may k below. clause.stored left may; shown = tt }
facts start old new (ByCompaction (Err fault) clause) = record { leaves = clause.leaves; stored = λ left may k below. absurd (omega (arith, below)); shown = tt }
facts start old new (ByReading clause) = record { leaves = read_alone start [] old new clause; stored = λ left may k below. absurd (omega (arith, below)); shown = tt }

-- ## What any call hands in

none_read : (n k : ℕ) (e : Entry) → slice_get (drop n []) k ≡ Some e → ⊥
none_read zero k e there = cc
none_read (suc n) k e there = cc

-- how many bytes a port of a device that opened has accepted after these entries
abbrev pub came_to : Opened → ℕ → List Entry → ℕ
came_to o port es = accepted (port_or_fresh o.now port) + length (bytes_in port es)

-- each byte that entries since the opening hand in is one that the call may hand in
abbrev pub Hands : {start : Network NodeState} {old new : State} → Did start old new → Opened → Type 0
Hands did o =
    (k port byte : ℕ) → slice_get (drop (next_of o) (journal_of did)) k ≡ Some (HostIn port byte)
    → MayHand did port (came_to o port (take k (drop (next_of o) (journal_of did)))) byte

pub hands : (start : Network NodeState) (old new : State) (did : Did start old new) (o : Opened) → verdict old.now.bytes ≡ Ok o → Hands did o
hands start old new (ByRun job input was now result clause) o reads k port byte there =
    let H = clause.ran.handed o reads in
    let part = drop (next_of o) clause.ran.journal in
    run_hands start clause.ran.journal o job.port input was.taken now.taken H.entries H.hands part H.front k port byte there
hands start old new (ByStream inputs result was now clause) o reads k port byte there =
    let part = drop (next_of o) clause.streamed.journal in
    clause.fed o reads port (length (bytes_in port (take k part))) byte (byte_there port k byte part there)
hands start old new (ByCompaction result clause) o reads k port byte there =
    let part = drop (next_of o) clause.journal in
    none_handed port k byte part (sym (bytes_in-handed port part) ∙ ap (bytes_in port) (clause.untouched o reads)) there
hands start old new (ByReading clause) o reads k port byte there = none_read (next_of o) k (HostIn port byte) there
