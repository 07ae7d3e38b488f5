-- What a crash may leave since a reading began: only what one before it could.
use Rattle.std.proofs.Common.{◌≡◌, OnOk, OnErr, inr}
use Rattle.std.specs.Prelude.{Result}
use Rattle.tp_recover.proofs.Lower.{MayBe, Read, Sync, done, State, MomentPassed, Fails, started, and_then, weaker, call_leaves}
use Rattle.tp_recover.specs.Reading.{LeavesNothingNew}

-- no call yet
pub none_leaves : (s : State) → LeavesNothingNew s s
none_leaves s = started s (MayBe s.now) (λ left may. may)

-- one reading after another
pub then_leaves : (s t u : State) → LeavesNothingNew s t → LeavesNothingNew t u → LeavesNothingNew s u
then_leaves s t u one two =
    and_then s t u (MayBe s.now) one (weaker t u (MayBe t.now) (MayBe s.now) (λ left may. one.each left (inr may)) two)

-- a read, done or failed
pub read_leaves : {E : Type 0} (r : Result Unit E) (s t : State) → MomentPassed s t → OnOk r (t.now ≡ done Read s.now) → OnErr r (Fails Read s t) → LeavesNothingNew s t
read_leaves r s t goes was failed = call_leaves r Read s t tt goes was failed

-- and so a sync
pub sync_leaves : {E : Type 0} (r : Result Unit E) (s t : State) → MomentPassed s t → OnOk r (t.now ≡ done Sync s.now) → OnErr r (Fails Sync s t) → LeavesNothingNew s t
sync_leaves r s t goes was failed = call_leaves r Sync s t tt goes was failed
