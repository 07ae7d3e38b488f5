-- What is told of a fault that was handed on.
use Rattle.std.proofs.Common.{◌≡◌, sym, subst, Result, Ok, Err, IfErr}
use Rattle.std.specs.Result.{IsErrAnd}

-- what `?` makes of a fault and hands on
pub on_told : {T F : Type 0} (r : Result T F) (told : F) (P : F → Type 0) → IsErrAnd r (λ fault. fault ≡ told) → P told → IfErr r P
on_told (Ok x) told P is holds = tt
on_told (Err fault) told P is holds = subst P (sym is) holds
