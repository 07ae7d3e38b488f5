-- What a host may rely on. Entries of an acknowledged receipt, and the causes of output that is shown, are in the journal for good, and in
-- what any crash leaves.
use Rattle.std.proofs.Common.{◌≡◌, ℕ, ◌+◌, ◌<◌, ◌≤◌, false, List, [], ◌∷◌, ◌++◌, length, take, refl, sym, ap, subst, ◌∙◌, arith, append_assoc, append-nil}
use Rattle.tp_law_network.proofs.Lower.{AllByRecursion, take-append-le, take-take, Entry, Machine, Network, HasFourLinks, NeverMarks, Act, Begin, Record, Journal, Close, Trim, IsOpened, MayBe, Areas, AreasHold, next_number, World, Event, Acts, Copies, CopiesTail, Does, Breaks, Trims, Raises, Reads, Reopens, grown, Step, fresh, BeginsFormatted, Recovers, is_reopening, IsAcknowledged, IsShown}
use Rattle.tp_model.specs.Runs.{Run}
use Rattle.tp_law_network.proofs.Invariant.{Inv}
use Rattle.tp_law_network.proofs.Runs.{reads_now, run_keeps, formatted_run}
use Rattle.tp_law_network.proofs.Stay.{run_stays}

-- ## Without an opening the journal only grows

-- the second list goes on from the first
abbrev pub GoesOn : List Entry → List Entry → Type 0
GoesOn before later = (more : List Entry) × (later ≡ before ++ more)

goes_on_more : (xs ys zs : List Entry) → GoesOn xs ys → GoesOn ys zs → GoesOn xs zs
goes_on_more xs ys zs one more = (one.0 ++ more.0, more.1 ∙ ap (λ us. us ++ more.0) one.1 ∙ append_assoc xs one.0 more.0)

grown_on : (act : Act) (journal : List Entry) → GoesOn journal (grown act journal)
grown_on Begin journal = ([], sym (append-nil journal))
grown_on (Record i) journal = ([], sym (append-nil journal))
grown_on (Journal e) journal = (e ∷ [], refl)
grown_on (Close line) journal = ([], sym (append-nil journal))
grown_on Trim journal = ([], sym (append-nil journal))

module _ {Node : Type 0} (M : Machine Node) (A : Areas Node) where
  -- the world has this journal
  same_journal : (w v : World Node) (journal : List Entry) → v.journal ≡ journal → GoesOn w.journal journal → GoesOn w.journal v.journal
  same_journal w v journal is on = subst (GoesOn w.journal) (sym is) on

  step_goes_on : (w v : World Node) (event : Event Node) → is_reopening event ≡ false → Step M A w event v → GoesOn w.journal v.journal
  step_goes_on w v (Acts act) un s = same_journal w v (grown act w.journal) (ap (λ u. u.journal) s.3) (grown_on act w.journal)
  step_goes_on w v Copies un s = same_journal w v w.journal (ap (λ u. u.journal) s.1) ([], sym (append-nil w.journal))
  step_goes_on w v (CopiesTail cut nodes) un s = same_journal w v w.journal (ap (λ u. u.journal) s.2) ([], sym (append-nil w.journal))
  step_goes_on w v (Does call to) un s = same_journal w v w.journal (ap (λ u. u.journal) s.1) ([], sym (append-nil w.journal))
  step_goes_on w v (Breaks call to bytes) un s = same_journal w v w.journal (ap (λ u. u.journal) s.2) ([], sym (append-nil w.journal))
  step_goes_on w v (Trims copy upto cut nodes) un s = same_journal w v w.journal (ap (λ u. u.journal) s.2) ([], sym (append-nil w.journal))
  step_goes_on w v Raises un s = same_journal w v w.journal (ap (λ u. u.journal) s) ([], sym (append-nil w.journal))
  step_goes_on w v Reads un s = same_journal w v w.journal (ap (λ u. u.journal) s) ([], sym (append-nil w.journal))
  step_goes_on w v (Reopens bytes h now) un s = cc

  pub run_goes_on : (events : List (Event Node)) (w v : World Node) → AllByRecursion (λ e. is_reopening e ≡ false) events → Run M A w events v → GoesOn w.journal v.journal
  run_goes_on [] w v un run = subst (λ u. GoesOn w.journal u.journal) (sym run) ([], sym (append-nil w.journal))
  run_goes_on (event ∷ events) w v un run =
      goes_on_more w.journal run.0.journal v.journal (step_goes_on w run.0 event un.0 run.1) (run_goes_on events run.0 v un.1 run.2)

-- ## What was read of the mark is held

module _ {Node : Type 0} (M : Machine Node) (four : HasFourLinks M) (never : NeverMarks M) (A : Areas Node) (law : AreasHold M A) (start : Network Node) (opened : IsOpened M (fresh start)) where
  -- whatever a crash leaves has all below the mark, and below each mark that was
  pub mark_held : (w : World Node) → Inv M A start w → (bytes : List ℕ) → MayBe w.disk bytes → (r : Recovers M A start w bytes) → w.mark ≤ next_number r.held
  mark_held w I bytes may r =
      let R = reads_now M four never A law start opened w I bytes may in
      let same : R.held ≡ r.held = let both = sym R.is ∙ r.reads in cc in
      omega (arith, I.mark, R.stands.no_less, R.stands.count, ap next_number same)

  -- from a reading of the mark on, the entries below it stay, and are held
  pub reading_held : (w last : World Node) (rest : List (Event Node)) → Inv M A start w → Run M A w (Reads ∷ rest) last → (number : ℕ) → number ≤ w.mark
      → (bytes : List ℕ) → MayBe last.disk bytes → (r : Recovers M A start last bytes)
      → (number ≤ next_number r.held) × (take number last.journal ≡ take number w.journal)
  reading_held w last rest I run number low bytes may r =
      let S = run_stays M four never A law start opened (Reads ∷ rest) w last I run in
      let up = S.0 in
      let J = run_keeps M four never A law start opened (Reads ∷ rest) w last I run in
      let held = mark_held last J bytes may r in
      (omega arith, sym (take-take number w.mark last.journal low) ∙ ap (take number) S.1 ∙ take-take number w.mark w.journal low)

-- The entries of an acknowledged receipt are in what a crash leaves, and the journal has them as when it was made.
pub acknowledged : {Node : Type 0} (M : Machine Node) → HasFourLinks M → NeverMarks M → (A : Areas Node) → AreasHold M A → (start : Network Node) (before : List (Event Node)) (first w last : World Node)
    → BeginsFormatted M A start first → Run M A first before w → (number : ℕ) → number ≤ length w.journal → IsAcknowledged M A number w last
    → (bytes : List ℕ) → MayBe last.disk bytes → (r : Recovers M A start last bytes)
    → (number ≤ next_number r.held) × (take number last.journal ≡ take number w.journal)
acknowledged M four never A law start before first w last F run number there a bytes may r =
    let I = formatted_run M four never A law start before first w F run in
    let J = run_keeps M four never A law start F.opened a.before w a.reading I a.leads in
    let H = reading_held M four never A law start F.opened a.reading last a.rest J a.goes_on number a.enough bytes may r in
    let on = run_goes_on M A a.before w a.reading a.unopened a.leads in
    (H.0, H.1 ∙ ap (take number) on.1 ∙ take-append-le number w.journal on.0 there)

-- The entry by which shown output was taken, and all of lower number, are in what a crash leaves, and the journal has them
-- as when the output was shown.
pub shown : {Node : Type 0} (M : Machine Node) → HasFourLinks M → NeverMarks M → (A : Areas Node) → AreasHold M A → (start : Network Node) (first last : World Node)
    → BeginsFormatted M A start first → (number line port byte : ℕ) → (s : IsShown M A number line port byte first last)
    → (bytes : List ℕ) → MayBe last.disk bytes → (r : Recovers M A start last bytes)
    → (number < next_number r.held) × (take (number + 1) last.journal ≡ take (number + 1) s.reading.journal)
shown M four never A law start first last F number line port byte s bytes may r =
    let I = formatted_run M four never A law start s.before first s.reading F s.leads in
    let enough = s.enough in
    let H = reading_held M four never A law start F.opened s.reading last s.rest I s.goes_on (number + 1) (omega arith) bytes may r in
    let held = H.0 in
    (omega arith, H.1)
