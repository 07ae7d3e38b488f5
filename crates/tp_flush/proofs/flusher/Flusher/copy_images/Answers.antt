use Rattle.std.proofs.Common.{◌≡◌, inl, inr, ℕ, true, false, get_or, rules, refl, sym, subst, arith}
use Rattle.std.proofs.lemmas.Bool.{cases_lt}
use Rattle.tp_flush.specs.Progress.{is_out}
use Rattle.tp_flush.proofs.Goings.{goes_still, goes_then, tried_then, went_still, went_then}
use Rattle.tp_flush.proofs.Imaging.{imaged_on, stay_then}
use Rattle.tp_flush.proofs.flusher.Flusher.copy_images.Goals as goal

pub loop-node-init : goal.loop-node-init
loop-node-init g c = record {
  went = went_still c.args.self.now c.requires.rests;
  goes = goes_still g.J.Naming.formatted g.J.Naming.before c.args.self.now c.known.ensures.disk;
  place = refl;
  stay = λ i out. out;
  out = λ i low. absurd (omega (arith, low));
}

pub loop-node-preserved : goal.loop-node-preserved
loop-node-preserved g c =
    let I = c.loop-node.invariant in
    let now = c.copy_node.new.self in
    let E = c.in_ok-done.ensures in
    record {
      went = went_then c.args.self.now c.loop-node.self now I.went E.tried;
      goes = goes_then g.J.Naming.formatted g.J.Naming.before c.args.self.now c.loop-node.self now I.goes c.copy_node.ensures.goes;
      place = c.image_behind-image.ensures;
      stay = stay_then c.args.self.now.progress c.loop-node.self.progress now.progress I.stay c.copy_node.ensures.stay;
      out = λ i low here. elim (cases_lt i c.loop-node.node) [
        | inl before ↦ c.copy_node.ensures.stay i (I.out i before here)
        | inr from ↦
            let same : c.loop-node.node ≡ i = omega (arith, low, from) in
            subst (λ (j : ℕ). is_out now.progress j ≡ true) same
            (imaged_on c.in_ok-done.done (get_or c.args.look.now.recorded c.loop-node.node false) c.loop-node.node c.loop-node.self.progress now.progress E.imaged c.in-Ok.ensures.goes_on
            (subst (λ (j : ℕ). get_or c.args.look.now.recorded j false ≡ true) (sym same) here))
      ];
    }

pub copy_node-requires-clause-rests : goal.copy_node-requires-clause-rests
copy_node-requires-clause-rests g c = c.loop-node.invariant.went.waits.rested.rests

pub copy_node-requires-clause-cleared : goal.copy_node-requires-clause-cleared
copy_node-requires-clause-cleared g c = c.loop-node.invariant.went.cleared c.requires.cleared

pub copy_node-requires-clause-image : goal.copy_node-requires-clause-image
copy_node-requires-clause-image g c = c.loop-node.invariant.place

pub returns-in_err-done-clause-tried : goal.returns-in_err-done-clause-tried
returns-in_err-done-clause-tried g c =
    tried_then (Unit {0}) c.from_residual.result c.in_err-done.field-0.0 (search rules) c.args.self.now c.loop-node.self c.copy_node.new.self c.loop-node.invariant.went c.in_err-done.ensures.tried

pub returns-in_err-done-clause-goes : goal.returns-in_err-done-clause-goes
returns-in_err-done-clause-goes g c =
    goes_then g.J.Naming.formatted g.J.Naming.before c.args.self.now c.loop-node.self c.copy_node.new.self c.loop-node.invariant.goes c.copy_node.ensures.goes

pub returns-clause-tried : goal.returns-clause-tried
returns-clause-tried g c = c.loop-node.invariant.went

pub returns-clause-goes : goal.returns-clause-goes
returns-clause-goes g c = c.loop-node.invariant.goes

-- ## The copying ends with a node

pub returns-in-Err-clause-goes : goal.returns-in-Err-clause-goes
returns-in-Err-clause-goes g c =
    goes_then g.J.Naming.formatted g.J.Naming.before c.args.self.now c.loop-node.self c.copy_node.new.self c.loop-node.invariant.goes c.copy_node.ensures.goes
