-- Why a snapshot doesn't begin.
use Rattle.std.specs.Prelude.{◌≡◌, List, [], ◌∷◌, length, Result, IfOk, OnErr}
use Rattle.tp_flush.specs.Lower.{NodeState, Network, BookValue, after_begin, begin_refusal, IsAnswer, Refusal, JournalFull, StoreBroken, Memory, NothingToTake, SnapshotRunning, PortFull}

-- a reason of the book's, for the snapshot
abbrev pub IsBeginRefusal : Refusal → Type 0
IsBeginRefusal JournalFull = Unit {0}
IsBeginRefusal StoreBroken = Unit {0}
IsBeginRefusal Memory = Unit {0}
IsBeginRefusal NothingToTake = ⊥
IsBeginRefusal SnapshotRunning = Unit {0}
IsBeginRefusal PortFull = ⊥

-- A snapshot was to begin, with this answer, in a book that was found and left like this. It fails exactly for the first reason that is
-- true of the book that was found; that a snapshot runs comes first. The book is then left as it was. If there is no reason, it began, or
-- memory is out.
pub record SnapshotBegun (start : Network NodeState) (found left : BookValue) (answer : Result Unit Refusal) : Type 0 where
  pub nodes : length found.state.start.nodes ≡ length start.nodes
  pub ports : length found.state.ports ≡ length start.ports
  pub exact : IsAnswer (begin_refusal found) answer
  pub ok : IfOk answer (λ done. left ≡ after_begin found)
  pub err : OnErr answer (left ≡ found)

-- The book was seen as it was found and as it was left.
abbrev pub BegunIn : Network NodeState → List BookValue → Result Unit Refusal → Type 0
BegunIn start [] answer = ⊥
BegunIn start (found ∷ []) answer = ⊥
BegunIn start (found ∷ left ∷ []) answer = SnapshotBegun start found left answer
BegunIn start (found ∷ left ∷ other ∷ more) answer = ⊥
