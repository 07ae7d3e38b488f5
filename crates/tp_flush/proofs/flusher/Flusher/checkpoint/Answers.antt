use Rattle.std.proofs.Common.{rules, refl, sym, ap, true, length, Ok, Err}
use Rattle.tp_flush.proofs.Lower.{true≢false, Topology}
use Rattle.tp_flush.specs.declared.progress.Progress.{Progress}
use Rattle.tp_flush.specs.declared.imaged.Images.{Images}
use Rattle.tp_flush.specs.Ends.{switched_of}
use Rattle.tp_flush.proofs.Goings.{checkpointed_before, checkpointed_behind, checkpointed_on, goes_then, went_still, went_then}
use Rattle.tp_flush.proofs.Imaging.{imaged_as}
use Rattle.tp_flush.proofs.flusher.Flusher.checkpoint.Goals as goal

pub returns-in_err-clear-clause-checkpointed : goal.returns-in_err-clear-clause-checkpointed
returns-in_err-clear-clause-checkpointed g c =
    checkpointed_before (Unit {0}) (switched_of c.from_residual.result) c.in_err-clear.field-0.0 (ap switched_of {y = Err c.in_err-clear.field-0.0} (search rules)) c.args.self.now c.args.self.now c.clear.new.self (went_still c.args.self.now c.requires.rests) c.in_err-clear.ensures.tried

pub returns-in_err-images-clause-checkpointed : goal.returns-in_err-images-clause-checkpointed
returns-in_err-images-clause-checkpointed g c =
    checkpointed_before Images (switched_of c.from_residual-in_err-images.result) c.in_err-images.field-0.0 (ap switched_of {y = Err c.in_err-images.field-0.0} (search rules)) c.args.self.now c.clear.new.self c.copy_images.new.self c.in_ok-clear.ensures.tried c.in_err-images.ensures.tried

pub returns-in_err-images-clause-goes : goal.returns-in_err-images-clause-goes
returns-in_err-images-clause-goes g c =
    goes_then g.J.Naming.formatted g.J.Naming.before c.args.self.now c.clear.new.self c.copy_images.new.self c.clear.ensures.goes c.copy_images.ensures.goes

pub switch-requires : goal.switch-requires
switch-requires g c = record { rests = c.in_ok-images.ensures.tried.waits.rested.rests; cleared = c.in_ok-images.ensures.tried.cleared c.clear.ensures.cleared }

pub returns-in_err-switched-clause-checkpointed : goal.returns-in_err-switched-clause-checkpointed
returns-in_err-switched-clause-checkpointed g c =
    checkpointed_behind (switched_of c.from_residual-in_err-switched.result) c.in_err-switched.field-0.0 (ap switched_of {y = Err c.in_err-switched.field-0.0} (search rules)) c.args.self.now c.copy_images.new.self c.switch.new.self
    (went_then c.args.self.now c.clear.new.self c.copy_images.new.self c.in_ok-clear.ensures.tried c.in_ok-images.ensures.tried) c.in_err-switched.ensures.checkpointed

pub returns-in_err-switched-clause-goes : goal.returns-in_err-switched-clause-goes
returns-in_err-switched-clause-goes g c =
    goes_then g.J.Naming.formatted g.J.Naming.before c.args.self.now c.copy_images.new.self c.switch.new.self
    (goes_then g.J.Naming.formatted g.J.Naming.before c.args.self.now c.clear.new.self c.copy_images.new.self c.clear.ensures.goes c.copy_images.ensures.goes) c.switch.ensures.goes

pub returns-clause-checkpointed : goal.returns-clause-checkpointed
returns-clause-checkpointed g c =
    checkpointed_on (Ok c.in_ok-switched.switched.done) c.args.self.now c.copy_images.new.self c.switch.new.self
    (went_then c.args.self.now c.clear.new.self c.copy_images.new.self c.in_ok-clear.ensures.tried c.in_ok-images.ensures.tried) c.in_ok-switched.ensures.checkpointed

pub returns-clause-goes : goal.returns-clause-goes
returns-clause-goes g c =
    goes_then g.J.Naming.formatted g.J.Naming.before c.args.self.now c.copy_images.new.self c.switch.new.self
    (goes_then g.J.Naming.formatted g.J.Naming.before c.args.self.now c.clear.new.self c.copy_images.new.self c.clear.ensures.goes c.copy_images.ensures.goes) c.switch.ensures.goes

pub returns-in_default-clause-imaged : goal.returns-in_default-clause-imaged
returns-in_default-clause-imaged g c stays =
    let L = c.in_default.ensures in
    record { found = L.found; shown = L.shown; did = L.is }

pub returns-clause-imaged : goal.returns-clause-imaged
returns-clause-imaged g c stays =
    let L = c.in-Some.ensures in
    let same = c.in_ok-switched.ensures.waits stays in
    record {
      found = L.found;
      shown = L.shown;
      did = imaged_as true _ _ _ (length g.J.Naming.start.nodes) (length c.copy_images.new.self.topology.pages) (length c.switch.new.self.topology.pages)
          c.clear.new.self.progress c.copy_images.new.self.progress c.args.self.now.progress c.switch.new.self.progress
          (sym L.is.0) L.is.1 (ap (λ (t : Topology). length t.pages) (sym c.switch.ensures.goes.process.topology)) c.clear.ensures.out (ap (λ (p : Progress). p.out) (sym same)) c.in_ok-images.images c.in_ok-images.ensures.imaged;
    }

pub returns-in_default-clause-unswitched : goal.returns-in_default-clause-unswitched
returns-in_default-clause-unswitched g c stays = refl

pub returns-clause-unswitched : goal.returns-clause-unswitched
returns-clause-unswitched g c stays = c.in_ok-switched.ensures.unswitched stays c.in_ok-images.images

pub returns-in_default-clause-gone : goal.returns-in_default-clause-gone
returns-in_default-clause-gone g c done = absurd (true≢false (sym done))

pub returns-clause-gone : goal.returns-clause-gone
returns-clause-gone g c done = c.in_ok-switched.ensures.gone done
