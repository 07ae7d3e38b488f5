use Rattle.std.proofs.Common.{◌≡◌, ◌∙◌, ap, sym, subst, arith, length, take, Ok}
use Rattle.tp_recover.proofs.Lower.{AreTrue, Head, head_of, Narrow, Wide, NARROW_HEAD_BYTES, Moment, head_of-faulty, head_of-read, head_of-short, version_in}
use Rattle.tp_recover.specs.Reading.{ReadAnswer}
use Rattle.tp_recover.proofs.Passing.{found_is, told_fault}
use Rattle.tp_recover.proofs.Leaving.{none_leaves}
use Rattle.tp_recover.proofs.area.head.read_head.Goals as goal
use Rattle.tp_recover.proofs.area.head.read_head.Goals.{in-Ok-Narrow, in-Ok-Wide, in-Err}

pub returns-then-len-clause-is : goal.returns-then-len-clause-is
returns-then-len-clause-is g c k =
    head_of-short (g.D.Disk.state c.args.disk.now).now.bytes (omega (arith, g.met.D.Disk.whole c.args.disk.now))

pub returns-clause-is : goal.returns-clause-is
returns-clause-is g c k =
    let xs = (g.D.Disk.state c.args.disk.now).now.bytes in
    let size : length xs ≡ c.size-len.result = g.met.D.Disk.whole c.args.disk.now ∙ sym c.size-len.ensures in
    let long = c.if-len.false in
    let before : AreTrue (g.D.Disk.reads c.read_array.new.disk) = elim c.match-head_version.branch [
      | in-Ok-Narrow w ↦ subst (λ d. AreTrue (g.D.Disk.reads d)) w.disk-is k
      | in-Ok-Wide w ↦ w.read_wide.ensures.premise (subst (λ d. AreTrue (g.D.Disk.reads d)) w.disk-is k)
      | in-Err w ↦ subst (λ d. AreTrue (g.D.Disk.reads d)) w.disk-is k
    ] in
    let front : c.in_ok-bytes.bytes ≡ take NARROW_HEAD_BYTES xs = sym (found_is _ _ (c.in_ok-bytes.ensures.bytes before)) in
    let same = c.in_ok-bytes.ensures.kept in
    elim c.match-head_version.branch [
      | in-Ok-Narrow w ↦
          subst (ReadAnswer (λ (head : Head). head) (head_of xs)) (sym w.result-is)
          (subst (λ given. ReadAnswer (λ (head : Head). head) given w.decoded.result)
          (sym (head_of-read Narrow xs _ c.in_ok-bytes.bytes c.size-len.result size (omega (arith, long)) front (sym c.head_version.ensures ∙ w.in-Ok-Narrow.is ∙ ap Ok w.in-Ok-Narrow.field-0-is) front)) w.decoded.ensures.is)
      | in-Ok-Wide w ↦
          subst (ReadAnswer (λ (head : Head). head) (head_of xs)) (sym w.result-is)
          (subst (λ (m : Moment). version_in (take NARROW_HEAD_BYTES m.bytes) ≡ Ok Wide → ReadAnswer (λ (head : Head). head) (head_of m.bytes) w.read_wide.result) same
          (w.read_wide.ensures.is (subst (λ d. AreTrue (g.D.Disk.reads d)) w.disk-is k)) (ap version_in (sym front) ∙ sym c.head_version.ensures ∙ w.in-Ok-Wide.is ∙ ap Ok w.in-Ok-Wide.field-0-is))
      | in-Err w ↦
          told_fault (λ head. head) (head_of xs) _ _
          (head_of-faulty xs c.in_ok-bytes.bytes _ (omega (arith, size, long)) front (sym c.head_version.ensures ∙ w.in-Err.is)) w.result-is
    ]

pub returns-then-len-clause-leaves : goal.returns-then-len-clause-leaves
returns-then-len-clause-leaves g c = none_leaves (g.D.Disk.state c.args.disk.now)
