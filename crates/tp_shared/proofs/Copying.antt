-- What is copied of a whole cut.
use Rattle.std.proofs.Common.{◌≡◌, ℕ, ◌+◌, Bool, true, false, not, List, [], ◌∷◌, ◌++◌, take, refl, sym, ap, ◌∙◌, Option, Some, None, slice_get}
use Rattle.std.specs.Prelude.{◌&&◌, Result, Ok, Err, IfOk, IfSome, is_some}
use Rattle.tp_shared.proofs.Lower.{AllByRecursion, list_all, and_parts, take_more, get_or_from_slice_get, slice_get_within, no_act}
use Rattle.tp_shared.specs.CopiedTail.{has_copy}
use Rattle.tp_shared.specs.Told.{ToldSince}
use Rattle.tp_shared.specs.declared.nodes.seal.NodeSeal.{NodeSeal}
use Rattle.tp_shared.specs.declared.flusher.told.Told.{Told}

pub take_some : {A : Type 0} (xs : List A) (i : ℕ) (x : A) → slice_get xs i ≡ Some x → take (i + 1) xs ≡ take i xs ++ x ∷ []
take_some xs i x e = take_more xs i x (slice_get_within xs i x e) ∙ ap (λ y. take i xs ++ y ∷ []) (get_or_from_slice_get xs i x x e)

-- what is true if two facts are
pub if_both : {A E : Type 0} (P Q R : A → Type 0) (r : Result A E) → ((x : A) → P x → Q x → R x) → IfOk r P → IfOk r Q → IfOk r R
if_both P Q R (Ok x) both p q = both x p q
if_both P Q R (Err e) both p q = tt

-- there is a copy, and no node's pages are kept
pub copy_found : {A E : Type 0} (P : A → Type 0) (found : Result (Option A) E) (thawed whole : Bool) → IfOk found (λ given. IfSome given P) → IfOk found (λ given. is_some given ≡ (thawed && whole)) → has_copy found ≡ true
    → (copy : A) × P copy × (thawed ≡ true)
copy_found P (Ok (Some copy)) thawed whole all some h = (copy, all, (and_parts thawed whole (sym some)).0)
copy_found P (Ok None) thawed whole all some h = cc
copy_found P (Err e) thawed whole all some h = cc

unset : (b : Bool) → not b ≡ true → b ≡ false
unset false e = refl
unset true e = cc

pub thawed_all : (seals : List NodeSeal) → list_all (λ s. not s.frozen) seals ≡ true → AllByRecursion (λ s. s.frozen ≡ false) seals
thawed_all [] e = tt
thawed_all (s ∷ ss) e = let P = and_parts (not s.frozen) (list_all (λ s. not s.frozen) ss) e in (unset s.frozen P.0, thawed_all ss P.1)

-- this is true of what is told then
pub since_with : (old new : Told) (flag : Bool) → ToldSince old new → ToldSince old (record new { thawed = flag })
since_with old new flag S = record { acts = S.acts; none = S.none; net = S.net; base = S.base; journal = S.journal; numbered = S.numbered; form = S.form; broken = S.broken; gone = S.gone }

-- whatever is told of pages
pub since_flag : (t : Told) (flag : Bool) → ToldSince (record t { thawed = flag }) t
since_flag t flag = record { acts = []; none = tt; net = no_act t.net; base = refl; journal = refl; numbered = refl; form = refl; broken = refl; gone = λ i node F none. none }
