-- A whole cut under the book's lock.
use Rattle.std.proofs.Common.{◌≡◌, ℕ, true, false, List, [], ◌∷◌, ap, subst, ◌∙◌, Some}
use Rattle.tp_shared.proofs.Lower.{AllByRecursion, NodeState, t414, MarkedNetwork, WholeCut, Act, happens, acted, is_trim, HasCut, has_four_links, never_marks, bind_some, CutInvariant, happens_holds, cut_stays, whole_parts, parts_recorded, has_recorded_in}

module _ (cut : WholeCut) (nodes : List NodeState) where
  -- a whole cut stays through acts
  pub stays_whole : (v u : MarkedNetwork NodeState) → CutInvariant t414 v → HasCut v cut nodes → (more : List Act) → AllByRecursion (λ act. is_trim act ≡ false) more → acted t414 v more ≡ Some u → HasCut u cut nodes
  unfolding acted
  stays_whole v u H C [] none e = let same : v ≡ u = cc in subst (λ x. HasCut x cut nodes) same C
  stays_whole v u H C (act ∷ more) none e =
      let F = bind_some (happens t414 v act) (λ x. acted t414 x more) u e in
      stays_whole F.0 u (happens_holds t414 has_four_links never_marks v F.0 act H F.1) (cut_stays t414 has_four_links v F.0 act none.0 H F.1 cut nodes C) more none.1 F.2

-- all have recorded in it
pub whole_recorded : (w : MarkedNetwork NodeState) (cut : WholeCut) (nodes : List NodeState) → HasCut w cut nodes → (p : ℕ) → has_recorded_in w.snapshot p ≡ true
whole_recorded w cut nodes has p =
    let P = whole_parts w cut has.is in
    ap (λ given. has_recorded_in given p) P.runs ∙ parts_recorded w cut P p
