-- What was seen broken stays broken.
use Rattle.std.proofs.Common.{◌≡◌, ℕ, zero, suc, Bool, true, List, [], ◌∷◌, ◌++◌, map, refl, sym, ap, subst, ◌∙◌}
use Rattle.tp_shared.proofs.Lower.{AllByRecursion, map-append, cons≢nil, all_append, Sound, item_of, BookValue}
use Rattle.tp_shared.specs.BrokenSeen.{BrokenSince, StayBroken}

-- nothing was seen
pub seen_none : {V : Type 0} (value : V → BookValue) (now : Bool) (items : List V) → items ≡ [] → BrokenSince now (map value items)
seen_none value now items none = subst (λ vs. BrokenSince now (map value vs)) (sym none) tt

-- the store is as it was
pub seen_still : (was now : Bool) (seen : List BookValue) → now ≡ was → BrokenSince was seen → BrokenSince now seen
seen_still was now seen same all = subst (λ broken. BrokenSince broken seen) (sym same) all

-- it is broken now
pub ever_since : (seen : List BookValue) → BrokenSince true seen
ever_since [] = tt
ever_since (x ∷ seen) = ((λ broken. refl), ever_since seen)

-- the book as it is was seen
pub sees_now : {V : Type 0} (value : V → BookValue) (new old : List V) (v : V) (b : BookValue) → new ≡ old ++ v ∷ [] → value v ≡ b → map value new ≡ map value old ++ b ∷ []
sees_now value new old v b is same = ap (map value) is ∙ map-append value old (v ∷ []) ∙ ap (λ x. map value old ++ x ∷ []) same

pub seen_now : (b : BookValue) (seen new : List BookValue) → new ≡ seen ++ b ∷ [] → BrokenSince b.broken seen → BrokenSince b.broken new
seen_now b seen new is all = subst (BrokenSince b.broken) (sym is) (all_append (λ x. x.broken ≡ true → b.broken ≡ true) seen (b ∷ []) all ((λ h. h), tt))

stay_more : (b : BookValue) (seen : List BookValue) → StayBroken seen → BrokenSince b.broken seen → StayBroken (seen ++ b ∷ [])
stay_more b [] stays all = ((λ broken. tt), tt)
stay_more b (x ∷ seen) stays all = ((λ broken. all_append (λ y. y.broken ≡ true) seen (b ∷ []) (stays.0 broken) (all.0 broken, tt)), stay_more b seen stays.1 all.1)

pub stays_now : (b : BookValue) (seen new : List BookValue) → new ≡ seen ++ b ∷ [] → StayBroken seen → BrokenSince b.broken seen → StayBroken new
stays_now b seen new is stays all = subst StayBroken (sym is) (stay_more b seen stays all)

-- ## Slips of a roll of what was seen

item_since : {V : Type 0} (value : V → BookValue) (now : Bool) (first : ℕ) (vs : List V) (n : ℕ) (v : V) → item_of first vs n ≡ v ∷ [] → BrokenSince now (map value vs) → (value v).broken ≡ true → now ≡ true
item_since value now zero [] n v e all = absurd (cons≢nil (sym e))
item_since value now zero (x ∷ vs) zero v e all = let same : x ≡ v = cc in subst (λ y. (value y).broken ≡ true → now ≡ true) same all.0
item_since value now zero (x ∷ vs) (suc n) v e all = item_since value now zero vs n v e all.1
item_since value now (suc first) vs zero v e all = absurd (cons≢nil (sym e))
item_since value now (suc first) vs (suc n) v e all = item_since value now first vs n v e all

pub slips_since : {V : Type 0} (value : V → BookValue) (now : Bool) (first : ℕ) (vs : List V) (slips : List (ℕ × V)) → Sound (item_of first vs) slips → BrokenSince now (map value vs) → BrokenSince now (map (λ (slip : ℕ × V). value slip.1) slips)
slips_since value now first vs [] sound all = tt
slips_since value now first vs (x ∷ xs) sound all = (item_since value now first vs x.0 x.1 sound.0 all, slips_since value now first vs xs sound.2 all)
