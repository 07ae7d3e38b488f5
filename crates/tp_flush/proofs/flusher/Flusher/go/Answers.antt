use Rattle.std.proofs.Common.{Bool, List, [], ap, length, inl, subst, sym, ◌∙◌, arith, rules}
use Rattle.tp_shared.specs.Frozen.{keeps_pages}
use Rattle.tp_flush.proofs.Imaging.{imaged_between}
use Rattle.tp_flush.proofs.Reasons.{why_still}
use Rattle.tp_flush.specs.CopiedIn.{CopiedIn}
use Rattle.tp_flush.specs.Flushing.{FlushedOn}
use Rattle.tp_flush.specs.Ends.{WaitsBehind}
use Rattle.tp_flush.proofs.Endings.{looked_waits, stored_ended, waits_then}
use Rattle.tp_flush.proofs.Goings.{behind_ended, done_generation, done_rested, goes_looked, goes_then, raised_behind, went_on_mark}
use Rattle.tp_flush.specs.Known.{Began}
use Rattle.tp_flush.proofs.Rooms.{checkpoint_not_full, not_full_on}
use Rattle.tp_flush.proofs.flusher.Flusher.go.Given as given
use Rattle.tp_flush.proofs.flusher.Flusher.go.Goals as goal

-- ## Memory was out

pub returns-in_default-clause-goes : goal.returns-in_default-clause-goes
returns-in_default-clause-goes g c =
    goes_looked g.J.Naming.formatted g.J.Naming.before c.args.self.now c.copy_under.new.self c.known.ensures.disk c.copy_under.ensures.looked

pub returns-in_default-clause-ended : goal.returns-in_default-clause-ended
returns-in_default-clause-ended g c =
    let L = c.copy_under.ensures.looked in
    inl (looked_waits c.args.self.now c.copy_under.new.self c.requires.rests L c.copy_under.ensures.mark, L)

-- ## The store answered a fault

pub returns-in_err-append_all-clause-goes : goal.returns-in_err-append_all-clause-goes
returns-in_err-append_all-clause-goes g c =
    goes_then g.J.Naming.formatted g.J.Naming.before c.args.self.now c.copy_under.new.self c.append_all.new.self
    (goes_looked g.J.Naming.formatted g.J.Naming.before c.args.self.now c.copy_under.new.self c.known.ensures.disk c.copy_under.ensures.looked)
    (record { premise = c.append_all.ensures.premise; walks = c.append_all.ensures.walks; process = c.append_all.ensures.process })

pub returns-in_err-append_all-clause-ended : goal.returns-in_err-append_all-clause-ended
returns-in_err-append_all-clause-ended g c =
    stored_ended c.from_residual.result c.in_err-append_all.field-0.0 (search rules) _ c.args.self.now c.copy_under.new.self c.append_all.new.self
    (looked_waits c.args.self.now c.copy_under.new.self c.requires.rests c.copy_under.ensures.looked c.copy_under.ensures.mark) c.in_err-append_all.ensures.stored

pub returns-in_err-append_all-clause-room : goal.returns-in_err-append_all-clause-room
returns-in_err-append_all-clause-room g c k began =
    not_full_on (Unit {0}) c.from_residual.result c.in_err-append_all.field-0.0 (search rules) (c.in_err-append_all.ensures.room k (subst (Began g.J.Naming.formatted g.J.Naming.before) (sym c.copy_under.ensures.looked.opened) began))

-- ## The mark was raised, and a call failed after it

raised_failed : (g : given.Over) (c : goal.After-drop-backlog-in_err-done g) → WaitsBehind c.args.self.now c.raise.new.self
raised_failed g c =
    let S = c.in_ok-append_all.ensures.stored in
    let R = c.raise.ensures in
    raised_behind c.args.self.now c.append_all.new.self c.raise.new.self
    (waits_then c.args.self.now c.copy_under.new.self c.append_all.new.self (looked_waits c.args.self.now c.copy_under.new.self c.requires.rests c.copy_under.ensures.looked c.copy_under.ensures.mark) S.0)
    R.looked (omega (arith, R.up, R.mark)) (omega (arith, R.reaches, R.mark))

went_on_failed : (g : given.Over) (c : goal.After-drop-backlog-in_err-done g) → FlushedOn g.J.Naming.formatted g.J.Naming.before c.args.self.now c.raise.new.self
went_on_failed g c =
    goes_then g.J.Naming.formatted g.J.Naming.before c.args.self.now c.append_all.new.self c.raise.new.self
    (goes_then g.J.Naming.formatted g.J.Naming.before c.args.self.now c.copy_under.new.self c.append_all.new.self
    (goes_looked g.J.Naming.formatted g.J.Naming.before c.args.self.now c.copy_under.new.self c.known.ensures.disk c.copy_under.ensures.looked)
    (record { premise = c.append_all.ensures.premise; walks = c.append_all.ensures.walks; process = c.append_all.ensures.process }))
    c.raise.ensures.goes

pub returns-in_err-done-clause-goes : goal.returns-in_err-done-clause-goes
returns-in_err-done-clause-goes g c =
    goes_then g.J.Naming.formatted g.J.Naming.before c.args.self.now c.raise.new.self c.checkpoint.new.self (went_on_failed g c) c.checkpoint.ensures.goes

pub returns-in_err-done-clause-ended : goal.returns-in_err-done-clause-ended
returns-in_err-done-clause-ended g c =
    behind_ended c.from_residual-in_err-done.result c.in_err-done.field-0.0 (search rules) c.args.self.now c.raise.new.self c.checkpoint.new.self (raised_failed g c) c.in_err-done.ensures.checkpointed

pub returns-in_err-done-clause-room : goal.returns-in_err-done-clause-room
returns-in_err-done-clause-room g c k began =
    checkpoint_not_full c.from_residual-in_err-done.result c.in_err-done.field-0.0 (search rules) c.raise.new.self c.checkpoint.new.self c.in_err-done.ensures.checkpointed

-- ## All was done

raised : (g : given.Over) (c : goal.After-drop-backlog-2 g) → WaitsBehind c.args.self.now c.raise.new.self
raised g c =
    let S = c.in_ok-append_all.ensures.stored in
    let R = c.raise.ensures in
    raised_behind c.args.self.now c.append_all.new.self c.raise.new.self
    (waits_then c.args.self.now c.copy_under.new.self c.append_all.new.self (looked_waits c.args.self.now c.copy_under.new.self c.requires.rests c.copy_under.ensures.looked c.copy_under.ensures.mark) S.0)
    R.looked (omega (arith, R.up, R.mark)) (omega (arith, R.reaches, R.mark))

went_on : (g : given.Over) (c : goal.After-drop-backlog-2 g) → FlushedOn g.J.Naming.formatted g.J.Naming.before c.args.self.now c.raise.new.self
went_on g c =
    goes_then g.J.Naming.formatted g.J.Naming.before c.args.self.now c.append_all.new.self c.raise.new.self
    (goes_then g.J.Naming.formatted g.J.Naming.before c.args.self.now c.copy_under.new.self c.append_all.new.self
    (goes_looked g.J.Naming.formatted g.J.Naming.before c.args.self.now c.copy_under.new.self c.known.ensures.disk c.copy_under.ensures.looked)
    (record { premise = c.append_all.ensures.premise; walks = c.append_all.ensures.walks; process = c.append_all.ensures.process }))
    c.raise.ensures.goes

pub returns-clause-goes : goal.returns-clause-goes
returns-clause-goes g c =
    goes_then g.J.Naming.formatted g.J.Naming.before c.args.self.now c.checkpoint.new.self c.raise-mark.new.self
    (goes_then g.J.Naming.formatted g.J.Naming.before c.args.self.now c.raise.new.self c.checkpoint.new.self (went_on g c) c.checkpoint.ensures.goes) c.raise-mark.ensures.goes

pub returns-clause-ended : goal.returns-clause-ended
returns-clause-ended g c =
    done_rested c.in_ok-done.done.switched c.args.self.now c.raise.new.self c.checkpoint.new.self c.raise-mark.new.self (raised g c) c.in_ok-done.ensures.checkpointed c.raise-mark.ensures.looked

pub returns-clause-switched : goal.returns-clause-switched
returns-clause-switched g c =
    done_generation c.in_ok-done.done.switched c.args.self.now c.raise.new.self c.checkpoint.new.self c.raise-mark.new.self (raised g c) c.in_ok-done.ensures.checkpointed c.raise-mark.ensures.looked

pub returns-clause-mark : goal.returns-clause-mark
returns-clause-mark g c =
    let S = c.in_ok-append_all.ensures.stored in
    let C = c.in-Ok.ensures.copied in
    (c.raise-mark.ensures.mark, omega (arith, C.reaches, S.1, c.raise.ensures.reaches, c.raise.ensures.mark, went_on_mark c.in_ok-done.done.switched c.raise.new.self c.checkpoint.new.self c.in_ok-done.ensures.checkpointed, c.raise-mark.ensures.up))

pub returns-clause-copied : goal.returns-clause-copied
returns-clause-copied g c = subst (λ before. CopiedIn c.in-Ok.copied.upto before c.copy_under.new.seen) c.new-seen.ensures c.in-Ok.ensures.seen

pub returns-clause-imaged : goal.returns-clause-imaged
returns-clause-imaged g c stays =
    imaged_between (length g.J.Naming.start.nodes) c.in_ok-done.done.images _ [] c.checkpoint.new.looked c.args.self.now c.raise.new.self c.checkpoint.new.self c.raise-mark.new.self
    (c.in_ok-done.ensures.imaged stays) c.new-looked.ensures
    (c.raise.ensures.looked.progress ∙ c.append_all.ensures.progress ∙ c.copy_under.ensures.looked.progress)
    c.raise-mark.ensures.looked.progress c.raise-mark.ensures.looked.topology

pub returns-clause-unswitched : goal.returns-clause-unswitched
returns-clause-unswitched g c stays =
    let L = c.raise-mark.ensures.looked in
    why_still c.in_ok-done.done.unswitched c.in_ok-done.done.images c.checkpoint.new.self c.raise-mark.new.self L.topology L.progress L.place c.raise-mark.ensures.net.0 c.raise-mark.ensures.net.1 (c.in_ok-done.ensures.unswitched stays)

pub returns-clause-gone : goal.returns-clause-gone
returns-clause-gone g c done i = ap (λ (frozen : List Bool). keeps_pages frozen i) c.raise-mark.ensures.net.1 ∙ c.in_ok-done.ensures.gone done i
