-- The premise on a device, after one call more.
use Rattle.std.proofs.Common.{◌≡◌, ℕ, Bool, true, Result, Ok, Err, OnOk, is_ok, List, [], ◌∷◌, ◌++◌, length, take, drop, subst}
use Rattle.tp_disk.specs.Lower.{AllByRecursion}
use Rattle.tp_disk.specs.Reads.{AreTrue, IsTrue, WereTrue, Reading, answered}

front_true : (before more : List Reading) → AreTrue (before ++ more) → AreTrue before
front_true [] more are = tt
front_true (first ∷ before) more are = (are.0, front_true before more are.1)

rest_true : (before more : List Reading) → AreTrue (before ++ more) → AreTrue more
rest_true [] more are = are
rest_true (first ∷ before) more are = rest_true before more are.1

pub all_true : (before more : List Reading) → AreTrue before → AreTrue more → AreTrue (before ++ more)
all_true [] more are rest = rest
all_true (first ∷ before) more are rest = (are.0, all_true before more are.1 rest)

-- no reading more
pub same_kept : (old new : List Reading) → new ≡ old → WereTrue old new
same_kept old new same are = subst AreTrue same are

-- a read more
pub read_kept : (ok : Bool) (at : ℕ) (came held : List ℕ) (old new : List Reading) → new ≡ old ++ answered ok at came held → WereTrue old new
read_kept ok at came held old new noted are = front_true old (answered ok at came held) (subst AreTrue noted are)

-- gave what the model held
pub read_true : (at count : ℕ) (came held : List ℕ) (old new : List Reading) → length came ≡ count → new ≡ old ++ answered true at came held → AreTrue new
    → came ≡ take count (drop at held)
read_true at count came held old new sized noted are =
    subst (λ n. came ≡ take n (drop at held)) sized (rest_true old (answered true at came held) (subst AreTrue noted are)).0

-- gave it if it was answered
pub read_gave : {E : Type 0} (r : Result Unit E) (at count : ℕ) (came held : List ℕ) (old new : List Reading) → length came ≡ count
    → new ≡ old ++ answered (is_ok r) at came held → AreTrue new → OnOk r (came ≡ take count (drop at held))
read_gave (Ok u) at count came held old new sized noted are = read_true at count came held old new sized noted are
read_gave (Err e) at count came held old new sized noted are = tt
