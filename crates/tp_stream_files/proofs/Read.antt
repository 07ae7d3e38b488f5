-- Bytes that were read.
use Rattle.std.proofs.Common.{◌≡◌, ◌≤◌, ℕ, List, length, take, Option, Some, None, refl, sym, subst, ◌∙◌}
use Rattle.tp_stream_files.specs.Inputs.{AreFrom, EndsThere, IsBehind}

-- none
pub none_from : (input : Option (List ℕ)) (at : ℕ) (out : List ℕ) → AreFrom input at (take 0 out)
none_from None at out = tt
none_from (Some all) at out = refl

-- ## The end of an input

-- the position of an end stays the end as long as the input stays as it was
pub ends_still : (ended : Option ℕ) (old new : Option (List ℕ)) → new ≡ old → EndsThere ended old → EndsThere ended new
ends_still ended old new same end at all is known = end at all is (sym same ∙ known)

behind_known : (at : ℕ) (input : Option (List ℕ)) (all : List ℕ) → input ≡ Some all → IsBehind at input → length all ≤ at
behind_known at input all known behind = subst (IsBehind at) known behind

pub ends_here : (at : ℕ) (old new : Option (List ℕ)) → new ≡ old → IsBehind at old → EndsThere (Some at) new
ends_here at old new same behind there all is known = subst (λ n. length all ≤ n) (same_place at there is) (behind_known at old all (sym same ∙ known) behind)
  where
    same_place : (x y : ℕ) → Some x ≡ Some y → x ≡ y
    same_place x y e = cc
