-- A whole cut stays until the trim, through any acts.
use Rattle.std.proofs.Common.{◌≡◌, List, [], ◌∷◌, false, subst, Some}
use Rattle.tp_law_network.proofs.Lower.{AllByRecursion, Machine, HasFourLinks, NeverMarks, MarkedNetwork, WholeCut, Act, happens, acted, IsOpened, is_trim, HasCut}
use Rattle.tp_law_network.proofs.Partial.{bind_some}
use Rattle.tp_law_network.specs.Invariant.{CutInvariant}
use Rattle.tp_law_network.proofs.Happens.{happens_holds, acted_holds, opened_holds}
use Rattle.tp_law_network.proofs.Stays.{cut_stays}

module _ {Node : Type 0} (M : Machine Node) (four : HasFourLinks M) (never : NeverMarks M) (cut : WholeCut) (nodes : List Node) where
  cut_stays_through : (v u : MarkedNetwork Node) → CutInvariant M v → HasCut v cut nodes → (more : List Act) → AllByRecursion (λ act. is_trim act ≡ false) more → acted M v more ≡ Some u → HasCut u cut nodes
  unfolding acted
  cut_stays_through v u H C [] none e = let same : v ≡ u = cc in subst (λ x. HasCut x cut nodes) same C
  cut_stays_through v u H C (act ∷ more) none e =
      let F = bind_some (happens M v act) (λ x. acted M x more) u e in
      cut_stays_through F.0 u (happens_holds M four never v F.0 act H F.1) (cut_stays M four v F.0 act none.0 H F.1 cut nodes C) more none.1 F.2

  pub stays_until : (w v u : MarkedNetwork Node) → IsOpened M w → (acts : List Act) → acted M w acts ≡ Some v → HasCut v cut nodes
      → (more : List Act) → AllByRecursion (λ act. is_trim act ≡ false) more → acted M v more ≡ Some u → HasCut u cut nodes
  stays_until w v u O acts run C = cut_stays_through v u (acted_holds M four never w v acts (opened_holds M w O) run) C
