-- A seal and a key of one name show one value, and turn together. Assumes `Logic`.
use Rattle.std.proofs.Common.{◌≡◌, ℕ, [], ◌∷◌, sym, subst}
use Rattle.tp_ready.proofs.Lower.{SProp, ent, sep, guard, Coded}
use seplogic.Ra.Ura.{Ura}
use types.Logic.{Logic, sem}
use types.Kit.{‵, ◌$◌, ◌∵◌, !, qed, move, check, updating, now, done}
use types.Tokens.{name_agree, name_set}
use Rattle.tp_ready.specs.Owned.{seal_owns, key_owns}

module _ {M : Type 1} {𝓤 : Ura M} (𝓛 : Logic 𝓤) {V : Type 0} (coded : Coded V) where
  abbrev Twin : (name name' : ℕ) → V → V → SProp 𝓤
  Twin name name' x y = sep 𝓤 (sem 𝓛 (seal_owns coded.code name x)) (sem 𝓛 (key_owns coded.code name' y))

  turned : (name : ℕ) (x y z : V) → ent 𝓤 (Twin name name x y) (𝓛.H.⇛ (guard 𝓤 (x ≡ y) (Twin name name z z)))
  turned name x y z = qed 𝓛 (‵ (seal_owns coded.code name x) ∷ ‵ (key_owns coded.code name y) ∷ []) ∵ updating ! $ move ! (1 ∷ 0 ∷ []) $ name_agree ! coded (λ same. name_set ! tt (coded.code z) $ now ! $ check ! (sym same) $ move ! (1 ∷ 0 ∷ []) $ done !)

  -- both showed one value, and show another
  pub turns : (name name' : ℕ) (x y z : V) → name ≡ name' → ent 𝓤 (Twin name name' x y) (𝓛.H.⇛ (guard 𝓤 (x ≡ y) (Twin name name' z z)))
  turns name name' x y z one = subst (λ n. ent 𝓤 (Twin name n x y) (𝓛.H.⇛ (guard 𝓤 (x ≡ y) (Twin name n z z)))) one (turned name x y z)
