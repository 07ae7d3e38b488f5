-- Holds of the book's lock in which the book is seen as it is found and as it is left.
use Rattle.std.proofs.Common.{◌≡◌, ◌<◌, ℕ, List, [], ◌∷◌, ◌++◌, ap, subst, sym, ◌∙◌, append_assoc}
use Rattle.tp_shared.proofs.Lower.{AllByRecursion, enumerate_from, Entry, NodeState, Network, BookValue}
use Rattle.tp_shared.specs.Gains.{Gained, HoldNoted}
use Rattle.tp_shared.specs.Holds.{WasHeld, IsBookOf, in_hand}
use Rattle.tp_shared.specs.Seals.{IsTied, Stage}

-- What is under the lock is tied to the book, as it is found and as it is left. So what was noted between is what the book got.
pub held_by : (Are : List Entry → Type 0) (start : Network NodeState) (first : ℕ) (found left : Stage) (was between seen : List BookValue) (old new : List (ℕ × Entry))
    → IsBookOf start found.book → between ≡ was ++ found.book ∷ [] → seen ≡ between ++ left.book ∷ [] → IsTied first found.all found.book → IsTied first left.all left.book
    → HoldNoted Are first found left old new → WasHeld start found.book left.book (in_hand was old) (in_hand seen new)
held_by Are start first found left was between seen old new of before behind tied after noted = record {
  of = of;
  seen = behind ∙ ap (λ books. books ++ left.book ∷ []) before ∙ append_assoc was (found.book ∷ []) (left.book ∷ []);
  entries = noted.entries;
  history = sym after.are ∙ noted.journal ∙ ap (λ entries. entries ++ noted.entries) tied.are;
  slips = noted.seat ∙ ap (λ n. old ++ enumerate_from n noted.entries) tied.next;
  below = subst (λ n. AllByRecursion (λ slip. slip.0 < n) old) tied.next noted.below;
}

-- and the seat gained it
pub gained_by : (Are : List Entry → Type 0) (first : ℕ) (found left : Stage) (old new : List (ℕ × Entry)) → HoldNoted Are first found left old new → Gained Are old new
gained_by Are first found left old new noted = record { next = _; entries = noted.entries; are = noted.are; seat = noted.seat; below = noted.below }
