use Rattle.std.proofs.Common.{◌∙◌, refl, sym, subst, arith}
use Rattle.tp_recover.proofs.Lower.{Head, Wide, head_of-cut_off, head_of-read}
use Rattle.tp_recover.specs.Reading.{ReadAnswer}
use Rattle.tp_recover.proofs.Leaving.{none_leaves}
use Rattle.tp_recover.proofs.Passing.{found_is, still_counts, still_kept}
use Rattle.tp_recover.proofs.area.head.read_wide.Goals as goal

pub returns-then-len-clause-is : goal.returns-then-len-clause-is
returns-then-len-clause-is g c k said =
    let xs = (g.D.Disk.state c.args.disk.now).now.bytes in
    let whole = g.met.D.Disk.whole c.args.disk.now in
    head_of-cut_off Wide xs _ (omega (arith, whole, c.requires.size, c.requires.some)) refl said (omega (arith, whole, c.requires.size))

pub returns-then-len-clause-leaves : goal.returns-then-len-clause-leaves
returns-then-len-clause-leaves g c = none_leaves (g.D.Disk.state c.args.disk.now)

pub returns-clause-counts : goal.returns-clause-counts
returns-clause-counts g c = still_counts c.decoded.result _ _ _ _ c.decoded.ensures.read c.in_ok-bytes.ensures.counts

pub returns-clause-kept : goal.returns-clause-kept
returns-clause-kept g c = still_kept c.decoded.result _ _ c.in_ok-bytes.ensures.kept

pub returns-clause-is : goal.returns-clause-is
returns-clause-is g c k said =
    let xs = (g.D.Disk.state c.args.disk.now).now.bytes in
    let whole = g.met.D.Disk.whole c.args.disk.now in
    let read = head_of-read Wide xs _ c.in_ok-bytes.bytes c.args.len (whole ∙ c.requires.size) (omega arith) refl said (sym (found_is _ _ (c.in_ok-bytes.ensures.bytes k))) in
    subst (λ given. ReadAnswer (λ (head : Head). head) given c.decoded.result) (sym read) c.decoded.ensures.is
