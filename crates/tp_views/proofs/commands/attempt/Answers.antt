use Rattle.std.proofs.Common.{◌≡◌, ℕ, List, Option, Some, None, refl, sym, ap, subst, Result, Ok, Err, OnOk}
use Rattle.std.specs.Prelude.{Vec, IfErr, is_some}
use Rattle.tp_views.proofs.Lower.{Global, Appends, NodeState, OutputAs, fresh_image, TryFault, BadImage}
use Rattle.tp_turn.specs.declared.image.TryFault.TheVariants.{Memory}
use Rattle.tp_views.specs.declared.refusal.Refusal.{Refusal}
use Rattle.tp_views.specs.declared.refusal.Refusal.TheVariants.{DeviceFailed, Trial}
use Rattle.tp_views.specs.declared.commands.TheConstants.{TRY_QUANTUM}
use Rattle.tp_views.specs.Attempt.{TryAnswer}
use Rattle.tp_views.proofs.commands.attempt.Goals as goal

-- what was tried is shown, or the write failed
shown : (image : List ℕ) (turns : ℕ) (was now : Option (List ℕ)) (output : Vec ℕ Global) (o : Option NodeState) (r : Result (Unit {0}) Refusal) → fresh_image image ≡ o → OutputAs o turns TRY_QUANTUM (Ok output)
    → OnOk r (Appends was now output.items) → IfErr r (λ e. e ≡ DeviceFailed) → TryAnswer image turns was now r
shown image turns was now output None r is done written refused = absurd done
shown image turns was now output (Some node) (Ok x) is done written refused = record { node = node; is = is; output = output.items; tried = done; shown = written }
shown image turns was now output (Some node) (Err e) is done written refused = subst (λ x. TryAnswer image turns was now (Err x)) (sym refused) (ap is_some is)

pub returns-in-Ok : goal.returns-in-Ok
returns-in-Ok g c =
    shown c.args.image.now c.args.turns (g.O.Write.contents c.args.out.now) (g.O.Write.contents c.put.new.out) c.in-Ok.output (fresh_image c.args.image.now) c.put.result refl c.in-Ok.ensures
    (rw (← c.as_slice.ensures.value) c.put.ensures.written) c.put.ensures.refused

-- nothing was tried, and nothing written
untried : (image : List ℕ) (turns : ℕ) (was : Option (List ℕ)) (fault : TryFault) (o : Option NodeState) → fresh_image image ≡ o → OutputAs o turns TRY_QUANTUM (Err fault)
    → TryAnswer image turns was was (Err (Trial fault))
untried image turns was BadImage None is tried = (is, refl)
untried image turns was BadImage (Some node) is tried = absurd tried
untried image turns was Memory None is tried = absurd tried
untried image turns was Memory (Some node) is tried = (ap is_some is, refl)

pub returns-in-Err : goal.returns-in-Err
returns-in-Err g c = untried c.args.image.now c.args.turns (g.O.Write.contents c.args.out.now) c.in-Err.fault (fresh_image c.args.image.now) refl c.in-Err.ensures
