-- What is known of a reader that is read again after an interrupted read.
use Rattle.std.proofs.Common.{ℕ, List, Option, Some, None, Result, Ok, Err, refl, sym, ◌∙◌}
use Rattle.std.specs.Io.KnownBytes.{Keeps, ReadConsumes}

pub keeps_refl : (known : Option (List ℕ)) → Keeps known known
keeps_refl None = tt
keeps_refl (Some bytes) = refl

pub keeps_more : (was then now : Option (List ℕ)) → Keeps was then → Keeps then now → Keeps was now
keeps_more None then now first second = tt
keeps_more (Some xs) None now first second = absurd first
keeps_more (Some xs) (Some ys) None first second = absurd second
keeps_more (Some xs) (Some ys) (Some zs) first second = second ∙ first

pub keeps_consumes : {E : Type 0} (r : Result ℕ E) (was then now : Option (List ℕ)) (out : List ℕ) → Keeps was then → ReadConsumes then now r out → ReadConsumes was now r out
keeps_consumes (Err e) was then now out first second = keeps_more was then now first second
keeps_consumes (Ok n) None then None out first second = (tt, λ none room. tt)
keeps_consumes (Ok n) None None (Some zs) out first second = second
keeps_consumes (Ok n) None (Some ys) (Some zs) out first second = (tt, second.1)
keeps_consumes (Ok n) (Some xs) None now out first second = absurd first
keeps_consumes (Ok n) (Some xs) (Some ys) None out first second = absurd second.0
keeps_consumes (Ok n) (Some xs) (Some ys) (Some zs) out first second = (sym first ∙ second.0, second.1)
