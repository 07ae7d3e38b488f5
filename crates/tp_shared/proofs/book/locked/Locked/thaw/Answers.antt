use Rattle.std.proofs.Common.{◌∙◌, Bool, false, List, set, refl, sym, ap, subst, None}
use Rattle.tp_shared.proofs.Lower.{length-set, world_of}
use Rattle.tp_shared.specs.Agreement.{Agreement}
use Rattle.tp_shared.specs.Seals.{IsSealOf, Stage}
use Rattle.tp_shared.specs.declared.nodes.seal.NodeSeal.{NodeSeal}
use Rattle.tp_shared.proofs.Gone.{frozen_set, gone_set}
use Rattle.tp_shared.proofs.Resealing.{sealed_set, thawed_seal}
use Rattle.tp_shared.proofs.Thawing.{thaws_set}
use Rattle.tp_shared.proofs.Keeping.{seal_at, sealed_anew}
use Rattle.tp_shared.proofs.book.locked.Locked.thaw.Goals as goal

pub agree-requires : goal.agree-requires
agree-requires g c =
    let inv = c.self.invariant in
    let here = c.index_mut-here.result.now in
    let at = seal_at inv c.args.number here c.requires.there c.index_mut-here.ensures.value in
    (inv.sealed c.args.number here at).named ∙ sym c.requires.named

pub turn-requires : goal.turn-requires
turn-requires g c =
    let inv = c.self.invariant in
    let here = c.index_mut-here.result.now in
    let at = seal_at inv c.args.number here c.requires.there c.index_mut-here.ensures.value in
    c.agree.ensures.names.0 ∙ (inv.sealed c.args.number here at).named ∙ sym c.requires.named ∙ sym c.agree.ensures.names.1

pub invariant_of-self : goal.invariant_of-self
invariant_of-self g c =
    let inv = c.self.invariant in
    let b = c.self.inside.book in
    let seals = c.self.inside.seals.items in
    let here = c.index_mut-here.result.now in
    let at = seal_at inv c.args.number here c.requires.there c.index_mut-here.ensures.value in
    let shown = ap (λ x. x.state) c.agree.ensures.agreed ∙ c.requires.shown in
    let live = c.args.node.now.live in
    let S = thawed_seal (g.J.Naming.node c.args.number) here.seal.name here.seal.value.state here.frozen b c.args.number (inv.sealed c.args.number here at) in
    let now = ap (λ x. x.state) c.turn.ensures.seal ∙ c.free-now.ensures ∙ ap (λ f. record { node = live; frozen = f; reserved = false; takes = None }) c.requires.thawed in
    let is = ap (λ (a : Agreement). record { node = a.node; frozen = None; reserved = a.reserved; takes = a.takes }) shown in
    sealed_anew inv (length-set seals c.args.number _)
    (sealed_set g.J.Naming.node seals b c.args.number here (record { frozen = false; seal = c.turn.new.seal }) inv.sealed at
    (subst (λ name. IsSealOf (g.J.Naming.node c.args.number) c.turn.new.seal.value.state false name b c.args.number) (sym (c.turn.ensures.names.0 ∙ c.agree.ensures.names.0))
    (subst (λ a. IsSealOf (g.J.Naming.node c.args.number) a false here.seal.name b c.args.number) (is ∙ sym now) S)))
    (thaws_set c.self.inside.told.value seals c.args.number (record { frozen = false; seal = c.turn.new.seal }) inv.thawed (λ thawed. refl))
    (gone_set (world_of b) seals c.args.number here (record { frozen = false; seal = c.turn.new.seal }) at (λ n F none. refl))

pub returns-clause-gone : goal.returns-clause-gone
returns-clause-gone g c =
    let seals = c.self.inside.seals.items in
    let now : NodeSeal = record { frozen = false; seal = c.turn.new.seal } in
    let stage : List Bool → Stage = λ fs. record { book = c.self.inside.book; all = c.self.inside.roll.items; numbered_from = c.self.inside.told.value.numbered_from; frozen = fs } in
    ap stage (frozen_set seals c.args.number now)
    ∙ ap (λ (s : Stage). record s { frozen = set s.frozen c.args.number false }) c.self.view_is
