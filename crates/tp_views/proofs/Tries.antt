-- Tries to open a device that may be written meanwhile: what they leave.
use Rattle.std.specs.Prelude.{true, List, Result, Ok, Err}
use Rattle.std.proofs.Common.{◌≡◌, ℕ, ◌<◌, ◌≤◌, ap, ◌∙◌, arith}
use Rattle.tp_views.proofs.Lower.{AreTrue, WereTrue, Reading, Moment, Sync, done, Counts, State, LeavesAlone, LeavesNothingNew, has_read, Unopened, Fault, Memory, ReadFailed}
use Rattle.tp_views.specs.Opens.{IsUnwritten}

-- ## One try

-- if as many calls have failed as before, this is the moment now
pub record Leaves (f g : ℕ) (m n : Moment) : Type 0 where
  pub more : f ≤ g
  pub same : g ≡ f → n ≡ m

-- a reading that fails is counted, and one that doesn't leaves the device alone
pub alone : {A : Type 0} (r : Result A Unopened) (s t f g : ℕ) (m n : Moment) → Counts (has_read r) s t f g → LeavesAlone r m n → Leaves f g m n
alone (Ok x) s t f g m n counts left = record { more = omega (arith, counts.failures); same = λ same. left }
alone (Err (Fault fault)) s t f g m n counts left = record { more = omega (arith, counts.failures); same = λ same. left }
alone (Err Memory) s t f g m n counts left = record { more = omega (arith, counts.failures); same = λ same. left }
alone (Err ReadFailed) s t f g m n counts left = record { more = omega (arith, counts.failures); same = λ same. absurd (omega (arith, counts.failures, same)) }

-- a look, and a reading that syncs first
pub looked_once : (f g h : ℕ) (m n o : Moment) → Leaves f g m n → Leaves g h (done Sync n) o → IsUnwritten f h m o
looked_once f g h m n o look read same =
    let first : g ≡ f = omega (arith, look.more, read.more, same) in
    let second : h ≡ g = omega (arith, look.more, read.more, same) in
    read.same second ∙ ap (done Sync) (look.same first)

-- and another look
pub looked_twice : (f g h i : ℕ) (m n o p : Moment) → Leaves f g m n → Leaves g h (done Sync n) o → Leaves h i o p → IsUnwritten f i m p
looked_twice f g h i m n o p look read again same =
    let first : h ≡ f = omega (arith, look.more, read.more, again.more, same) in
    let second : i ≡ h = omega (arith, look.more, read.more, again.more, same) in
    again.same second ∙ looked_once f g h m n o look read first

-- ## Several

-- `left` of `most` tries are left. If the reads are true, none was made, since the first one answers.
pub record Tries (most left old_size size old_failures failures : ℕ) (old now : State) (before reads : List Reading) : Type 0 where
  pub few : left ≤ most
  pub counts : Counts true old_size size old_failures failures
  pub premise : WereTrue before reads
  pub leaves : LeavesNothingNew old now
  pub begun : left ≡ most → now ≡ old
  pub kept : left < most → now.now ≡ done Sync old.now
  pub first : AreTrue reads → left ≡ most
