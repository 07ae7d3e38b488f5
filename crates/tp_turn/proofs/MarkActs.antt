-- What the acts of a whole turn are. When it is opened a node records and lines are closed at Markers. At its commit there is its entry, or
-- none. None of them is a trim.
use Rattle.std.proofs.Common.{◌≡◌, ℕ, ◌+◌, ◌*◌, zero, suc, Bool, true, false, cond, inl, inr, List, [], ◌∷◌, ◌++◌, map, refl, sym, ap, subst, ◌∙◌, Option, Some, None}
use Rattle.std.specs.Prelude.{◌&&◌}
use Rattle.tp_turn.proofs.Lower.{AllByRecursion, Entry, Received, Marker, back, is_first, on_line, Act, Begin, Record, Journal, Close, Trim, is_trim, turn_acts, turn_entries, all_append, has_recorded_in, is_asked, Refusal, BookValue}
use Rattle.tp_turn.specs.declared.opened.Opened.{Opened}
use Rattle.tp_turn.specs.Turns.{InOrder}
use Rattle.tp_turn.specs.Moments.{TurnMoment, entries_among}
use Rattle.tp_turn.specs.Whole.{close_acts, ClosesFront, Closes, EndsWhole, BreaksWhole}
use Rattle.tp_turn.specs.Opened.{opened_acts, opened_entries}
use Rattle.tp_turn.proofs.Adding.{entries_more}

-- ## At Markers

-- a node records, or a line is closed
abbrev pub IsMarkAct : Act → Type 0
IsMarkAct Begin = ⊥
IsMarkAct (Record node) = Unit {0}
IsMarkAct (Journal entry) = ⊥
IsMarkAct (Close line) = Unit {0}
IsMarkAct Trim = ⊥

abbrev pub AreMarkActs : List Act → Type 0
AreMarkActs = AllByRecursion IsMarkAct

marks_untrimmed : (acts : List Act) → AreMarkActs acts → AllByRecursion (λ act. is_trim act ≡ false) acts
marks_untrimmed [] all = tt
marks_untrimmed (Begin ∷ acts) all = absurd all.0
marks_untrimmed (Record node ∷ acts) all = (refl, marks_untrimmed acts all.1)
marks_untrimmed (Journal entry ∷ acts) all = absurd all.0
marks_untrimmed (Close line ∷ acts) all = (refl, marks_untrimmed acts all.1)
marks_untrimmed (Trim ∷ acts) all = absurd all.0

marks_listed : (acts : List Act) → AreMarkActs acts → entries_among acts ≡ []
marks_listed [] all = refl
marks_listed (Begin ∷ acts) all = absurd all.0
marks_listed (Record node ∷ acts) all = marks_listed acts all.1
marks_listed (Journal entry ∷ acts) all = absurd all.0
marks_listed (Close line ∷ acts) all = marks_listed acts all.1
marks_listed (Trim ∷ acts) all = absurd all.0

both_mark : (acts first second : List Act) → acts ≡ first ++ second → AreMarkActs first → AreMarkActs second → AreMarkActs acts
both_mark acts first second are one other = subst AreMarkActs (sym are) (all_append IsMarkAct first second one other)

record_marks : (number : ℕ) (asked : Bool) → AreMarkActs (cond asked (Record number ∷ []) [])
record_marks number true = (tt, tt)
record_marks number false = tt

close_marks : (line : ℕ) (closes : Bool) → AreMarkActs (cond closes (Close line ∷ []) [])
close_marks line true = (tt, tt)
close_marks line false = tt

front_marks : (b : BookValue) (number : ℕ) (o : Option ℕ) → AreMarkActs (close_acts b number o)
front_marks b number None = tt
front_marks b number (Some line) = close_marks line (is_first (on_line b.state.lines line) Marker && has_recorded_in b.state.snapshot number)

links_mark : (number count : ℕ) (s t : TurnMoment) (acts : List Act) → InOrder (λ link. ClosesFront number link) count s acts t → AreMarkActs acts
unfolding InOrder
links_mark number zero s t acts D = subst AreMarkActs (sym D.0) tt
links_mark number (suc count) s t acts D =
    both_mark acts D.first D.second D.are (links_mark number count s D.between D.first D.one_did)
    (subst AreMarkActs (sym D.other_did.are) (front_marks D.between.book number (back D.between.book.state.start (4 * number + count))))

closes_mark : (number : ℕ) (s t : TurnMoment) (acts : List Act) → Closes number s acts t → AreMarkActs acts
closes_mark number s t acts D =
    both_mark acts D.first D.second D.are (subst AreMarkActs (sym D.one_did.are) (record_marks number (is_asked s.book.state.snapshot number)))
    (links_mark number 4 D.between t D.second D.other_did)

pub closes_untrimmed : (number : ℕ) (s t : TurnMoment) (acts : List Act) → Closes number s acts t → AllByRecursion (λ act. is_trim act ≡ false) acts
closes_untrimmed number s t acts D = marks_untrimmed acts (closes_mark number s t acts D)

pub closes_listed : (number : ℕ) (s t : TurnMoment) (acts : List Act) → Closes number s acts t → entries_among acts ≡ []
closes_listed number s t acts D = marks_listed acts (closes_mark number s t acts D)

-- ## At the commit

journals_untrimmed : (es : List Entry) → AllByRecursion (λ act. is_trim act ≡ false) (map Journal es)
journals_untrimmed [] = tt
journals_untrimmed (e ∷ es) = (refl, journals_untrimmed es)

journals_listed : (es : List Entry) → entries_among (map Journal es) ≡ es
journals_listed [] = refl
journals_listed (e ∷ es) = ap (λ fs. e ∷ fs) (journals_listed es)

pub turn_untrimmed : (number : ℕ) (takes : List Received) (count : ℕ) → AllByRecursion (λ act. is_trim act ≡ false) (turn_acts number takes count)
turn_untrimmed number takes count = journals_untrimmed (turn_entries number takes count)

pub turn_listed : (number : ℕ) (takes : List Received) (count : ℕ) → entries_among (turn_acts number takes count) ≡ turn_entries number takes count
turn_listed number takes count = journals_listed (turn_entries number takes count)

pub opened_untrimmed : (number : ℕ) (opened : Opened) (count : ℕ) → AllByRecursion (λ act. is_trim act ≡ false) (opened_acts number opened count)
opened_untrimmed number opened count = journals_untrimmed (opened_entries number opened count)

pub opened_listed : (number : ℕ) (opened : Opened) (count : ℕ) → entries_among (opened_acts number opened count) ≡ opened_entries number opened count
opened_listed number opened count = journals_listed (opened_entries number opened count)

-- ## When a whole turn fails

-- what ends it is one entry of no steps, or none
ends_listed : (number : ℕ) (e : Refusal) (s t : TurnMoment) (acts : List Act) → EndsWhole number e s acts t → (takes : List Received) × (acts ≡ turn_acts number takes 0)
ends_listed number e s t acts (inl D) = ([], D.are)
ends_listed number e s t acts (inr D) = (D.takes, D.are)

pub breaks_whole_untrimmed : (number : ℕ) (e : Refusal) (s t : TurnMoment) (acts : List Act) → BreaksWhole number e s acts t → AllByRecursion (λ act. is_trim act ≡ false) acts
breaks_whole_untrimmed number e s t acts D =
    let E = ends_listed number e D.between t D.second D.other_did in
    subst (AllByRecursion (λ act. is_trim act ≡ false)) (sym D.are)
    (all_append (λ act. is_trim act ≡ false) D.first D.second (closes_untrimmed number s D.between D.first D.one_did)
    (subst (AllByRecursion (λ act. is_trim act ≡ false)) (sym E.1) (turn_untrimmed number E.0 0)))

pub breaks_whole_listed : (number : ℕ) (e : Refusal) (s t : TurnMoment) (acts : List Act) → BreaksWhole number e s acts t → (takes : List Received) × (entries_among acts ≡ turn_entries number takes 0)
breaks_whole_listed number e s t acts D =
    let E = ends_listed number e D.between t D.second D.other_did in (
      E.0,
      ap entries_among D.are ∙ entries_more D.first D.second ∙ ap (λ es. es ++ entries_among D.second) (closes_listed number s D.between D.first D.one_did) ∙ ap entries_among E.1
          ∙ turn_listed number E.0 0,
    )
