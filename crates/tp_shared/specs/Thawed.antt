-- Once no node's pages are kept any more.
use Rattle.std.specs.Prelude.{◌≡◌, true, false, List}
use Rattle.tp_shared.specs.Lower.{AllByRecursion, NodeState, t414, WholeCut, HasCut, CutInvariant}
use Rattle.tp_shared.specs.declared.nodes.seal.NodeSeal.{NodeSeal}
use Rattle.tp_shared.specs.declared.flusher.told.Told.{Told}

-- A cut was told to be whole, and no node's pages are kept since.
pub record HasThawed (told : Told) (seals : List NodeSeal) : Type 0 where
  pub cut : WholeCut
  pub nodes : List NodeState
  pub has : HasCut told.net cut nodes
  pub holds : CutInvariant t414 told.net
  pub none : AllByRecursion (λ s. s.frozen ≡ false) seals

-- if it was told that a cut is whole and no page is kept, this is true
abbrev pub ThawedAsTold : Told → List NodeSeal → Type 0
ThawedAsTold told seals = told.thawed ≡ true → HasThawed told seals
