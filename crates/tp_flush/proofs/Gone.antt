-- Nodes whose images are out, and that have no kept pages.
use Rattle.std.proofs.Common.{◌≡◌, inl, inr, ℕ, Bool, true, false, List, sym, subst, ◌∙◌, get_or-set_other}
use Rattle.tp_flush.proofs.Lower.{true≢false, eqb_tells, IsFrozenAs, NodeState, World, MarkedNetwork, IsFirst, ToldSince, Told}
use Rattle.tp_flush.specs.Copying.{IsGone}
use Rattle.tp_flush.specs.Flushing.{AreGone}
use Rattle.tp_flush.specs.Progress.{not_begun, with_out}
use Rattle.tp_flush.specs.declared.progress.Progress.{Progress}
use Rattle.tp_flush.proofs.Closed.{frozen_told, none_out}

-- the flusher was told of the book
pub gone_told : (w : World NodeState) (old now : Told) (p : Progress) → IsFirst old w → ToldSince old now → AreGone w.net old.frozen p → AreGone now.net now.frozen p
gone_told w old now p first since A i out =
    let G = A i out in
    let node = G.recorded.0 in
    record {
      recorded = (node, frozen_told w old now first since i node G.recorded.1);
      none = since.gone i node (subst (λ n. IsFrozenAs n i node) (sym first.net) G.recorded.1) G.none;
    }

-- one image more is out
pub gone_more : (net : MarkedNetwork NodeState) (frozen : List Bool) (p : Progress) (node : ℕ) → AreGone net frozen p → IsGone net frozen node → AreGone net frozen (with_out p node)
gone_more net frozen p node A G i out = elim (eqb_tells i node) [
  | inl same ↦ subst (λ (j : ℕ). IsGone net frozen j) (sym same.1) G
  | inr other ↦ A i (sym (get_or-set_other p.out node i true false other.1) ∙ out)
]

-- none is
pub gone_none : (net : MarkedNetwork NodeState) (frozen : List Bool) (p : Progress) → p ≡ not_begun → AreGone net frozen p
gone_none net frozen p is i out = absurd (true≢false (sym out ∙ none_out p is i))
