use Rattle.std.proofs.Common.{◌≡◌, ap, refl, subst, sym, List, ℕ, Option, Some, Ok, Err, Result}
use Rattle.std.specs.Prelude.{None, IfNone, IfOk, IfSome, IsSome, IsSomeAnd}
use Rattle.tp_program.proofs.Lower.{AreTrue, AskedLast, Copied, CopyAnswer, HasStayed, IsCopy, area_kept, Moment, Opened, State, verdict, then_leaves}
use Rattle.tp_program.specs.Backups.{FoundAsOpened, IsBackup}
use Rattle.tp_program.proofs.Stayed.{opened_stays}
use Rattle.tp_program.proofs.backing_up.copy_once.Goals as goal

-- a copy of what was opened is one of the device
backed_up : (o : Opened) (source mid : List ℕ) (old new : Moment) (r : Result (Option Copied) ℕ) → verdict source ≡ Ok o → mid ≡ source → IfOk r (CopyAnswer (area_kept o) mid old new)
    → IfOk r (λ found. IsSomeAnd found (λ (c : Copied). IsBackup source old.bytes new c.next))
backed_up o source mid old new (Ok (Some c)) is same answers = record {
  opened = o;
  is = is;
  copied = subst (λ (bytes : List ℕ). IsCopy (area_kept o) bytes old.bytes new c.next) same answers;
}
backed_up o source mid old new (Ok None) is same answers = absurd (answers.0 (subst (λ (bytes : List ℕ). HasStayed (area_kept o) bytes) (sym same) (opened_stays source o is)))
backed_up o source mid old new (Err status) is same answers = tt

-- the area that was asked for is the one that was opened
found_so : (premise : Type 0) (o : Opened) (source : List ℕ) (left : State) (r : Result (Option Copied) ℕ) → (premise → verdict source ≡ Ok o)
    → IfOk r (λ found. IfSome found (λ (c : Copied). AskedLast (area_kept o) left c.asked)) → IfOk r (λ found. IfSome found (λ (c : Copied). FoundAsOpened premise source left c.asked))
found_so premise o source left (Ok (Some c)) is last = record { opened = o; is = is; last = last }
found_so premise o source left (Ok None) is last = tt
found_so premise o source left (Err status) is last = tt

-- under the premise the area that was opened is there still
some_found : (o : Opened) (source mid : List ℕ) (r : Result (Option Copied) ℕ) → verdict source ≡ Ok o → mid ≡ source
    → IfOk r (λ found. IfNone found (HasStayed (area_kept o) mid → ⊥)) → IfOk r IsSome
some_found o source mid (Ok (Some c)) is same stayed = refl
some_found o source mid (Ok None) is same stayed = absurd (stayed (subst (λ (bytes : List ℕ). HasStayed (area_kept o) bytes) (sym same) (opened_stays source o is)))
some_found o source mid (Err status) is same stayed = tt

pub returns-in-Ok-clause-copied : goal.returns-in-Ok-clause-copied
returns-in-Ok-clause-copied g c k l =
    backed_up c.in-Ok.opened (g.D.Disk.state c.args.source.now).now.bytes (g.D.Disk.state c.open.new.disk).now.bytes (g.K.Disk.state c.args.copy.now).now
    (g.K.Disk.state c.copy_or_refuse.new.copy).now c.copy_or_refuse.result (c.in-Ok.ensures.is (c.copy_or_refuse.ensures.premise k))
    (ap (λ (m : Moment). m.bytes) c.in-Ok.ensures.kept) (c.copy_or_refuse.ensures.is k l)

pub returns-in-Ok-clause-some : goal.returns-in-Ok-clause-some
returns-in-Ok-clause-some g c k =
    some_found c.in-Ok.opened (g.D.Disk.state c.args.source.now).now.bytes (g.D.Disk.state c.open.new.disk).now.bytes c.copy_or_refuse.result
    (c.in-Ok.ensures.is (c.copy_or_refuse.ensures.premise k)) (ap (λ (m : Moment). m.bytes) c.in-Ok.ensures.kept) (c.copy_or_refuse.ensures.stayed k)

pub returns-in-Ok-clause-asked : goal.returns-in-Ok-clause-asked
returns-in-Ok-clause-asked g c =
    found_so (AreTrue (g.D.Disk.reads c.copy_or_refuse.new.source)) c.in-Ok.opened (g.D.Disk.state c.args.source.now).now.bytes
    (g.D.Disk.state c.copy_or_refuse.new.source) c.copy_or_refuse.result (λ k. c.in-Ok.ensures.is (c.copy_or_refuse.ensures.premise k))
    c.copy_or_refuse.ensures.asked

pub returns-in-Ok-clause-leaves : goal.returns-in-Ok-clause-leaves
returns-in-Ok-clause-leaves g c =
    then_leaves (g.D.Disk.state c.args.source.now) (g.D.Disk.state c.open.new.disk) (g.D.Disk.state c.copy_or_refuse.new.source) c.open.ensures.leaves
    c.copy_or_refuse.ensures.leaves
