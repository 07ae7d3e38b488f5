use Rattle.std.proofs.Common.{◌≡◌, ◌∙◌, Bool, List, Some, slice_get, refl, sym, ap, subst}
use Rattle.std.specs.Prelude.{is_some}
use Rattle.tp_shared.proofs.Lower.{length-set, slice_get_within, IsFrozenAs, agreed, world_of}
use Rattle.tp_shared.specs.Agreement.{Agreement}
use Rattle.tp_shared.specs.Frozen.{keeps_pages}
use Rattle.tp_shared.specs.Seals.{Stage}
use Rattle.tp_shared.specs.declared.nodes.seal.NodeSeal.{NodeSeal}
use Rattle.tp_shared.proofs.Frozen.{kept_frozen}
use Rattle.tp_shared.proofs.Gone.{frozen_again, gone_set, kept_at}
use Rattle.tp_shared.proofs.Resealing.{sealed_again}
use Rattle.tp_shared.proofs.Thawing.{thaws_set, thawed_at}
use Rattle.tp_shared.proofs.Keeping.{seal_at, sealed_anew}
use Rattle.tp_shared.proofs.book.locked.Locked.audit_frozen.Goals as goal

pub agree-requires : goal.agree-requires
agree-requires g c =
    let inv = c.self.invariant in
    let here = c.index_mut-here.result.now in
    let at = seal_at inv c.args.number here c.requires.there c.index_mut-here.ensures.value in
    (inv.sealed c.args.number here at).named ∙ sym c.requires.named

pub invariant_of-self : goal.invariant_of-self
invariant_of-self g c =
    let inv = c.self.invariant in
    let seals = c.self.inside.seals.items in
    let here = c.index_mut-here.result.now in
    let at = seal_at inv c.args.number here c.requires.there c.index_mut-here.ensures.value in
    sealed_anew inv (length-set seals c.args.number _)
    (sealed_again g.J.Naming.node seals c.self.inside.book c.args.number here (record { frozen = here.frozen; seal = c.agree.new.seal }) inv.sealed at c.agree.ensures.names.0 c.agree.ensures.values.0 refl)
    (thaws_set c.self.inside.told.value seals c.args.number (record { frozen = here.frozen; seal = c.agree.new.seal }) inv.thawed (λ thawed. thawed_at c.self.inside.told.value seals c.args.number here thawed at))
    (gone_set (world_of c.self.inside.book) seals c.args.number here (record { frozen = here.frozen; seal = c.agree.new.seal }) at (λ n F none. none))

pub returns-clause-same : goal.returns-clause-same
returns-clause-same g c =
    let seals = c.self.inside.seals.items in
    let here = c.index_mut-here.result.now in
    let at = seal_at c.self.invariant c.args.number here c.requires.there c.index_mut-here.ensures.value in
    let now : NodeSeal = record { frozen = here.frozen; seal = c.agree.new.seal } in
    let stage : List Bool → Stage = λ fs. record { book = c.self.inside.book; all = c.self.inside.roll.items; numbered_from = c.self.inside.told.value.numbered_from; frozen = fs } in
    ap stage (frozen_again seals c.args.number here now at refl) ∙ c.self.view_is

pub returns-clause-kept : goal.returns-clause-kept
returns-clause-kept g c =
    let seals = c.self.inside.seals.items in
    let here = c.index_mut-here.result.now in
    let at = seal_at c.self.invariant c.args.number here c.requires.there c.index_mut-here.ensures.value in
    let S = c.self.invariant.sealed c.args.number here at in
    let shown = ap (λ x. x.state) c.agree.ensures.agreed ∙ c.requires.shows.shown in
    subst (λ (stage : Stage). keeps_pages stage.frozen c.args.number ≡ is_some c.args.place.now.node.frozen) c.self.view_is
    (kept_at seals c.args.number here at ∙ S.flag ∙ ap (λ (x : Agreement). is_some x.frozen) shown)

pub returns-clause-there : goal.returns-clause-there
returns-clause-there g c =
    let here = c.index_mut-here.result.now in
    let at = seal_at c.self.invariant c.args.number here c.requires.there c.index_mut-here.ensures.value in
    let S = c.self.invariant.sealed c.args.number here at in
    let shown = ap (λ x. x.state) c.agree.ensures.agreed ∙ c.requires.shows.shown in
    subst (λ (stage : Stage). slice_get (world_of stage.book).live.nodes c.args.number ≡ Some c.args.place.now.node.live) c.self.view_is
    (S.node ∙ ap (λ (x : Agreement). Some x.node) shown)

pub returns-clause-frozen : goal.returns-clause-frozen
returns-clause-frozen g c node frozen =
    let inv = c.self.invariant in
    let b = c.self.inside.book in
    let here = c.index_mut-here.result.now in
    let at = seal_at inv c.args.number here c.requires.there c.index_mut-here.ensures.value in
    let S = inv.sealed c.args.number here at in
    let is = ap (λ (x : Agreement). x.frozen) (ap (λ x. x.state) c.agree.ensures.agreed ∙ c.requires.shows.shown) ∙ frozen in
    subst (λ (stage : Stage). IsFrozenAs (world_of stage.book) c.args.number node) c.self.view_is
    (kept_frozen b c.args.number node c.known.ensures.holds (slice_get_within (agreed b.state) c.args.number here.seal.value.state.node S.node) (S.recorded (ap is_some is)) (λ there t. S.kept node there is t))
