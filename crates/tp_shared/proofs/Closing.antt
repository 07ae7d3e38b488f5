-- Lines that are closed, even if other tokens come before the Marker, under the book's lock.
use Rattle.std.proofs.Common.{◌≡◌, ℕ, Bool, true, false, cond, zero, suc, List, [], ◌∷◌, ◌++◌, length, refl, sym, ap, subst, ◌∙◌, Some, slice_get}
use Rattle.tp_shared.proofs.Lower.{AllByRecursion, Entry, Act, Close, Record, is_trim, all_append, BookValue, is_closable, InOrder, Done, TurnMoment, entries_among, HostDone, ClosesOver, ClosesAll, entries_more, Records, is_asked}
use Rattle.tp_shared.specs.Agreement.{at_rest}
use Rattle.tp_shared.specs.BookActs.{NodeActed, HostActed}
use Rattle.tp_shared.proofs.Holding.{acted_free}
use Rattle.tp_shared.proofs.Hosting.{hosted_by}
use Rattle.tp_shared.proofs.Untrimmed.{AreTurnActs, untrimmed}

-- none of them is a trim, and none makes an entry
closes_one : (line : ℕ) (b : Bool) (acts : List Act) → acts ≡ cond b (Close line ∷ []) [] → AllByRecursion (λ act. is_trim act ≡ false) acts × (entries_among acts ≡ [])
closes_one line true acts e = subst (λ given. AllByRecursion (λ act. is_trim act ≡ false) given × (entries_among given ≡ [])) (sym e) ((refl, tt), refl)
closes_one line false acts e = subst (λ given. AllByRecursion (λ act. is_trim act ≡ false) given × (entries_among given ≡ [])) (sym e) (tt, refl)

closes_quiet : (count : ℕ) (s : BookValue) (acts : List Act) (t : BookValue) → InOrder ClosesOver count s acts t → AllByRecursion (λ act. is_trim act ≡ false) acts × (entries_among acts ≡ [])
unfolding InOrder
closes_quiet zero s acts t D = subst (λ given. AllByRecursion (λ act. is_trim act ≡ false) given × (entries_among given ≡ [])) (sym D.0) (tt, refl)
closes_quiet (suc count) s acts t D =
    let one = closes_quiet count s D.first D.between D.one_did in
    let other = closes_one count (is_closable D.between count) D.second D.other_did.are in
    subst (λ given. AllByRecursion (λ act. is_trim act ≡ false) given × (entries_among given ≡ [])) (sym D.are)
    (all_append (λ act. is_trim act ≡ false) D.first D.second one.0 other.0, entries_more D.first D.second ∙ ap (λ es. es ++ entries_among D.second) one.1 ∙ other.1)

pub hosted_closes : (b new : BookValue) → HostDone ClosesAll b new → HostActed (λ entries. entries ≡ []) b new
hosted_closes b new D =
    let quiet = closes_quiet (length b.state.lines) b D.acts new D.did in
    hosted_by (λ (entries : List Entry). entries ≡ []) D.acts b new D.added quiet.0 quiet.1

-- ## A node records

records_quiet : (number : ℕ) (asked : Bool) (acts : List Act) → acts ≡ cond asked (Record number ∷ []) [] → AreTurnActs acts × (entries_among acts ≡ [])
records_quiet number true acts e = subst (λ given. AreTurnActs given × (entries_among given ≡ [])) (sym e) ((tt, tt), refl)
records_quiet number false acts e = subst (λ given. AreTurnActs given × (entries_among given ≡ [])) (sym e) (tt, refl)

pub acted_records : (number : ℕ) (s t : TurnMoment) → slice_get s.book.runs number ≡ Some false → Done number (Records number) s t → NodeActed (λ entries. entries ≡ []) number (at_rest t.node) s.book t.book
acted_records number s t free D =
    let quiet = records_quiet number (is_asked s.book.state.snapshot number) D.acts D.did.are in
    acted_free (λ (entries : List Entry). entries ≡ []) number D.acts s.book t.book t.node.live D.added (untrimmed D.acts quiet.0) quiet.1 (at_rest t.node) refl free refl
