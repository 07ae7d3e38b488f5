-- What the journal has below the mark stays: openings cut only what is above it.
use Rattle.std.proofs.Common.{◌≡◌, ℕ, ◌≤◌, List, [], ◌∷◌, length, take, refl, sym, ap, subst, ◌∙◌, arith, length-append, le_refl}
use Rattle.tp_law_network.proofs.Lower.{take-append-le, take-take, Entry, Machine, Network, HasFourLinks, NeverMarks, Act, Begin, Record, Journal, Close, Trim, IsOpened, Areas, AreasHold, next_number, World, Event, Acts, Copies, CopiesTail, Does, Breaks, Trims, Raises, ReadsMark, Reopens, grown, Step, fresh, BeginsFormatted}
use Rattle.tp_model.specs.Runs.{Run}
use Rattle.tp_law_network.proofs.Moments.{may_stand}
use Rattle.tp_law_network.proofs.Prefix.{Stands}
use Rattle.tp_law_network.proofs.Invariant.{Inv}
use Rattle.tp_law_network.proofs.Runs.{reads_now, step_keeps, formatted_run}

grown_stays : (act : Act) (journal : List Entry) (m : ℕ) → m ≤ length journal → take m (grown act journal) ≡ take m journal
grown_stays Begin journal m le = refl
grown_stays (Record i) journal m le = refl
grown_stays (Journal e) journal m le = take-append-le m journal (e ∷ []) le
grown_stays (Close line) journal m le = refl
grown_stays Trim journal m le = refl

-- the mark goes up, and what was below it stays
abbrev pub Stays : {Node : Type 0} → World Node → World Node → Type 0
Stays w v = (w.mark ≤ v.mark) × (take w.mark v.journal ≡ take w.mark w.journal)

module _ {Node : Type 0} (M : Machine Node) (four : HasFourLinks M) (never : NeverMarks M) (A : Areas Node) (law : AreasHold M A) (start : Network Node) (opened : IsOpened M (fresh start)) where
  -- the mark is no more than the journal has
  pub mark_there : (w : World Node) → Inv M A start w → w.mark ≤ length w.journal
  mark_there w I =
      let R = reads_now M four never A law start opened w I w.disk.bytes (may_stand w.disk) in
      omega (arith, I.mark, R.stands.no_less, ap length R.stands.parts, length-append R.stands.first R.stands.rest)

  pub step_stays : (w v : World Node) (event : Event Node) → Inv M A start w → Step M A w event v → Stays w v
  step_stays w v (Acts act) I s = subst (Stays w) (sym s.3) (le_refl w.mark, grown_stays act w.journal w.mark (mark_there w I))
  step_stays w v Copies I s = subst (Stays w) (sym s.1) (le_refl w.mark, refl)
  step_stays w v (CopiesTail cut nodes) I s = subst (Stays w) (sym s.2) (le_refl w.mark, refl)
  step_stays w v (Does call to) I s = subst (Stays w) (sym s.1) (le_refl w.mark, refl)
  step_stays w v (Breaks call to bytes) I s = subst (Stays w) (sym s.2) (le_refl w.mark, refl)
  step_stays w v (Trims copy upto cut nodes) I s = subst (Stays w) (sym s.2) (le_refl w.mark, refl)
  step_stays w v Raises I s = subst (Stays w) (sym s) (omega arith, refl)
  step_stays w v ReadsMark I s = subst (Stays w) (sym s) (le_refl w.mark, refl)
  step_stays w v (Reopens bytes h now) I s =
      let R = reads_now M four never A law start opened w I bytes s.0.may in
      let same : R.held ≡ h = let both = sym R.is ∙ s.0.reads in cc in
      let S = subst (Stands M start w.journal w.stored) same R.stands in
      let up : w.mark ≤ next_number h = omega (arith, I.mark, S.no_less, S.count) in
      subst (Stays w) (sym s.1) (up, take-take w.mark (next_number h) w.journal up)

  pub run_stays : (events : List (Event Node)) (w v : World Node) → Inv M A start w → Run M A w events v → Stays w v
  run_stays [] w v I run = subst (Stays w) (sym run) (le_refl w.mark, refl)
  run_stays (event ∷ events) w v I run =
      let one = step_stays w run.0 event I run.1 in
      let more = run_stays events run.0 v (step_keeps M four never A law start opened w run.0 event I run.1) run.2 in
      let up = one.0 in
      let rest = more.0 in (
        omega arith,
        sym (take-take w.mark run.0.mark v.journal up) ∙ ap (take w.mark) more.1 ∙ take-take w.mark run.0.mark run.0.journal up ∙ one.1,
      )

-- at any two moments of a run
pub stays : {Node : Type 0} (M : Machine Node) → HasFourLinks M → NeverMarks M → (A : Areas Node) → AreasHold M A → (start : Network Node) (before events : List (Event Node)) (first w last : World Node)
    → BeginsFormatted M A start first → Run M A first before w → Run M A w events last → (w.mark ≤ last.mark) × (take w.mark last.journal ≡ take w.mark w.journal)
stays M four never A law start before events first w last F earlier later =
    run_stays M four never A law start F.opened events w last (formatted_run M four never A law start before first w F earlier) later
