-- What holds of a result by its variant.
use Rattle.std.proofs.Common.{Result, Ok, Err, OnOk, OnErr}

pub on_err : {T E : Type 0} (r : Result T E) (P : Type 0) → P → OnErr r P
on_err (Ok x) P has = tt
on_err (Err e) P has = has

-- what follows from a failure, follows if there is one
pub from_err : {T E : Type 0} (r : Result T E) (P Q : Type 0) → (P → Q) → OnErr r P → OnErr r Q
from_err (Ok x) P Q f has = tt
from_err (Err e) P Q f has = f has

-- what follows from what was done, follows if it was done
pub from_ok : {T E : Type 0} (r : Result T E) (P Q : Type 0) → (P → Q) → OnOk r P → OnOk r Q
from_ok (Ok x) P Q f has = f has
from_ok (Err e) P Q f has = tt
