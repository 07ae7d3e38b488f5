use Rattle.tp_views.proofs.Lower.{Sync, done, then_leaves}
use Rattle.tp_views.proofs.Tries.{alone, looked_once, looked_twice}
use Rattle.tp_views.proofs.waits.steady_waits.tell_once.Goals as goal

pub returns-in-Ok-2-clause-leaves : goal.returns-in-Ok-2-clause-leaves
returns-in-Ok-2-clause-leaves g c = then_leaves _ _ _ (then_leaves _ _ _ c.look.ensures.leaves c.tell.ensures.leaves) c.look-2.ensures.leaves

pub returns-in-Err-clause-leaves : goal.returns-in-Err-clause-leaves
returns-in-Err-clause-leaves g c = then_leaves _ _ _ (then_leaves _ _ _ c.look.ensures.leaves c.tell.ensures.leaves) c.look-2.ensures.leaves

pub returns-in-Ok-look-clause-leaves : goal.returns-in-Ok-look-clause-leaves
returns-in-Ok-look-clause-leaves g c = then_leaves _ _ _ (then_leaves _ _ _ c.look.ensures.leaves c.tell.ensures.leaves) c.look-2.ensures.leaves

pub returns-in-Err-ReadFailed-clause-leaves : goal.returns-in-Err-ReadFailed-clause-leaves
returns-in-Err-ReadFailed-clause-leaves g c = then_leaves _ _ _ c.look.ensures.leaves c.tell.ensures.leaves

pub returns-in-Ok-2-clause-kept : goal.returns-in-Ok-2-clause-kept
returns-in-Ok-2-clause-kept g c =
    let m = (g.D.Disk.state c.args.disk.now).now in
    let n = (g.D.Disk.state c.look.new.disk).now in
    let o = (g.D.Disk.state c.tell.new.disk).now in
    let p = (g.D.Disk.state c.look-2.new.disk).now in
    looked_twice _ _ _ _ m n o p (alone c.look.result _ _ _ _ m n c.look.ensures.counts c.look.ensures.kept) (alone c.tell.result _ _ _ _ (done Sync n) o c.tell.ensures.counts c.tell.ensures.kept)
    (alone c.look-2.result _ _ _ _ o p c.look-2.ensures.counts c.look-2.ensures.kept)

pub returns-in-Err-clause-kept : goal.returns-in-Err-clause-kept
returns-in-Err-clause-kept g c =
    let m = (g.D.Disk.state c.args.disk.now).now in
    let n = (g.D.Disk.state c.look.new.disk).now in
    let o = (g.D.Disk.state c.tell.new.disk).now in
    let p = (g.D.Disk.state c.look-2.new.disk).now in
    looked_twice _ _ _ _ m n o p (alone c.look.result _ _ _ _ m n c.look.ensures.counts c.look.ensures.kept) (alone c.tell.result _ _ _ _ (done Sync n) o c.tell.ensures.counts c.tell.ensures.kept)
    (alone c.look-2.result _ _ _ _ o p c.look-2.ensures.counts c.look-2.ensures.kept)

pub returns-in-Ok-look-clause-kept : goal.returns-in-Ok-look-clause-kept
returns-in-Ok-look-clause-kept g c =
    let m = (g.D.Disk.state c.args.disk.now).now in
    let n = (g.D.Disk.state c.look.new.disk).now in
    let o = (g.D.Disk.state c.tell.new.disk).now in
    let p = (g.D.Disk.state c.look-2.new.disk).now in
    looked_twice _ _ _ _ m n o p (alone c.look.result _ _ _ _ m n c.look.ensures.counts c.look.ensures.kept) (alone c.tell.result _ _ _ _ (done Sync n) o c.tell.ensures.counts c.tell.ensures.kept)
    (alone c.look-2.result _ _ _ _ o p c.look-2.ensures.counts c.look-2.ensures.kept)

pub returns-in-Err-ReadFailed-clause-kept : goal.returns-in-Err-ReadFailed-clause-kept
returns-in-Err-ReadFailed-clause-kept g c =
    let m = (g.D.Disk.state c.args.disk.now).now in
    let n = (g.D.Disk.state c.look.new.disk).now in
    let o = (g.D.Disk.state c.tell.new.disk).now in
    looked_once _ _ _ m n o (alone c.look.result _ _ _ _ m n c.look.ensures.counts c.look.ensures.kept) (alone c.tell.result _ _ _ _ (done Sync n) o c.tell.ensures.counts c.tell.ensures.kept)
