-- What `compact` does and prints.
use Rattle.std.specs.Prelude.{◌≡◌, ℕ, List, [], ◌∷◌, ◌++◌, codes, Option, Result, Ok, IfOk, IsErr}
use Rattle.tp_program.specs.Lower.{AreTrue, Reading, decimal, Appends, Began, State, verdict, LeavesNothingNew, CompactAnswer, Compacted, GrewByOne, StaysUnopened, History, Compaction, CompactFault}

-- the line that is printed: the generation of the cut, the number of the next entry, and how many entries the journal takes
abbrev pub compaction_line : Compaction → List ℕ
compaction_line done =
    codes "generation " ++ (decimal done.generation ++ (codes " next " ++ (decimal done.next ++ (codes " room " ++ (decimal done.room ++ 10 ∷ [])))))

-- The device was compacted, and exactly the line about that was printed.
pub record PrintsDone (done : Result Compaction CompactFault) (was now : Option (List ℕ)) : Type 0 where
  pub given : Compaction
  pub is : done ≡ Ok given
  pub printed : Appends was now (compaction_line given)

-- A device was compacted, or wasn't for a reason that it gives, and the command ended with this status. This is what it left on the device and on
-- standard output.
pub record CompactedAs (history : History) (old new : State) (read : List Reading) (was now : Option (List ℕ)) (status : ℕ) : Type 0 where
  pub done : Result Compaction CompactFault
  pub kept : AreTrue read → Began history.formatted history.before old.now.bytes → Compacted history.formatted done old new
  pub grown : AreTrue read → IfOk done (GrewByOne (verdict old.now.bytes))
  pub unwritten : StaysUnopened done → LeavesNothingNew old new
  pub printed : status ≡ 0 → PrintsDone done was now
  pub silent : IsErr done → now ≡ was
  pub answer : AreTrue read → CompactAnswer (verdict old.now.bytes) done
