-- Turns, one more.
use Rattle.std.proofs.Common.{◌≡◌, ℕ, ◌+◌, Bool, true, false, refl, List, ◌∷◌, ◌++◌, [], length, length-append, sym, ap, subst, ◌∙◌, Option, Some, None, Result, Ok, Err}
use Rattle.std.specs.Prelude.{◌↔◌, if◌then◌else◌, MatchResult}
use Rattle.tp_run.proofs.Lower.{answer, Numbers, Answer, InHand, heed_after, is_broken, is_heeded, Handed, RefusedBy, Empty, JournalFull, StoreBroken, Memory, Heed, Unbroken, true≢false, Entry, NodeState, Network, Refused, Turned, TurnFault, Turn}
use Rattle.tp_work.specs.declared.heed.Heed.TheVariants.{Ended}
use Rattle.tp_run.specs.Worked.{Worked, idle, refused, turned}

-- a seat without an answer or a slip
pub none_yet : (network : Network NodeState) (quantum : ℕ) {asked : List Answer} {slips : List (ℕ × Entry)} → slips ≡ [] → asked ≡ [] → Worked network quantum (length asked) slips
none_yet network quantum {asked} none unasked = subst (Worked network quantum (length asked)) (sym none) (subst (λ answers. Worked network quantum (length answers) []) (sym unasked) idle)

one_more : (network : Network NodeState) (quantum turns : ℕ) (done : Result Turn TurnFault) (old new : List (ℕ × Entry)) → Worked network quantum turns old
    → MatchResult done (λ turn. Turned network quantum turn old new) (λ fault. Refused network fault old new) → Worked network quantum (turns + 1) new
one_more network quantum turns (Ok turn) old new worked made = turned turn turns old new worked made
one_more network quantum turns (Err fault) old new worked made = refused fault turns old new worked made

-- ## How many

answered : (queue : Numbers) (number : Option ℕ) (old new : List Answer) → Handed queue number old new → length new ≡ length old + 1
answered queue number old new is = ap length is ∙ length-append old (answer queue number ∷ [])

refused_once : (start : Network NodeState) (queue : Numbers) (fault : TurnFault) (asked has : List Answer) (old new : InHand) → RefusedBy start queue fault asked has old new → length has ≡ length asked + 1
refused_once start queue Empty asked has old new made = answered queue None asked has made.0
refused_once start queue JournalFull asked has old new made = answered queue (Some made.0) asked has made.1
refused_once start queue StoreBroken asked has old new made = answered queue (Some made.0) asked has made.1
refused_once start queue Memory asked has old new made = answered queue (Some made.0) asked has made.1

-- a turn is one answer of the ready queue
once : (start : Network NodeState) (queue : Numbers) (done : Result Turn TurnFault) (asked has : List Answer) (old new : InHand)
    → MatchResult done (λ turn. Handed queue (Some turn.process) asked has) (λ fault. RefusedBy start queue fault asked has old new) → length has ≡ length asked + 1
once start queue (Ok turn) asked has old new made = answered queue (Some turn.process) asked has made
once start queue (Err fault) asked has old new made = refused_once start queue fault asked has old new made

pub worked_on : (network : Network NodeState) (quantum : ℕ) (queue : Numbers) (done : Result Turn TurnFault) (asked has : List Answer) (old new : InHand) → Worked network quantum (length asked) old.slips
    → MatchResult done (λ turn. Turned network quantum turn old.slips new.slips) (λ fault. Refused network fault old.slips new.slips)
    → MatchResult done (λ turn. Handed queue (Some turn.process) asked has) (λ fault. RefusedBy network queue fault asked has old new) → Worked network quantum (length has) new.slips
worked_on network quantum queue done asked has old new worked made handed =
    subst (λ turns. Worked network quantum turns new.slips) (sym (once network queue done asked has old new handed)) (one_more network quantum (length asked) done old.slips new.slips worked made)

-- ## Whether it heeds that the store has failed

first_heed : (b : Bool) → is_heeded (if b then Ended else Unbroken) ≡ true
first_heed true = refl
first_heed false = refl

-- the first turn that was refused for it is the last
pub heeds_then : (done : Result Turn TurnFault) (old new : Heed) → old ≡ Unbroken → new ≡ heed_after done old → is_heeded new ≡ true
heeds_then done old new was is = ap is_heeded (is ∙ ap (heed_after done) was) ∙ first_heed (is_broken done)

stays : (done : Result Turn TurnFault) (goes_on : Bool) → (goes_on ≡ false) ↔ (done ≡ Err StoreBroken) → goes_on ≡ true → heed_after done Unbroken ≡ Unbroken
stays (Ok turn) goes_on ends on = refl
stays (Err Empty) goes_on ends on = refl
stays (Err JournalFull) goes_on ends on = refl
stays (Err StoreBroken) goes_on ends on = absurd (true≢false (sym on ∙ ends.1 refl))
stays (Err Memory) goes_on ends on = refl

-- after any other one the worker goes on
pub heeds_on : (done : Result Turn TurnFault) (goes_on : Bool) (old new : Heed) → old ≡ Unbroken → new ≡ heed_after done old → (goes_on ≡ false) ↔ (done ≡ Err StoreBroken) → goes_on ≡ true → new ≡ Unbroken
heeds_on done goes_on old new was is ends on = is ∙ ap (heed_after done) was ∙ stays done goes_on ends on
