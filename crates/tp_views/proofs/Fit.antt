-- What the answer of formatting says of the images.
use Rattle.std.proofs.Common.{◌≡◌, Bool, Option, Some, None, Ok, Err, refl}
use Rattle.std.specs.Prelude.{IsSome}
use Rattle.tp_views.proofs.Lower.{FormatFault, AreaFull, DeviceFailed, FormatAnswer}
use Rattle.tp_area.specs.declared.fault.FormatFault.TheVariants.{BadImage, Memory}

-- they fit if only room is lacking, and if the device was formatted
pub fit_full : {A : Type 0} (start : Option A) (has_room : Bool) (fault : FormatFault) → fault ≡ AreaFull → FormatAnswer start has_room (Err fault) → IsSome start
fit_full None has_room AreaFull is answer = absurd answer
fit_full (Some s) has_room fault is answer = refl
fit_full None has_room BadImage is answer = absurd (cc)
fit_full None has_room Memory is answer = absurd (cc)
fit_full None has_room DeviceFailed is answer = absurd answer

pub fit_done : {A : Type 0} (start : Option A) (has_room : Bool) (unit : Unit {0}) → FormatAnswer start has_room (Ok unit) → IsSome start
fit_done None has_room unit answer = absurd answer
fit_done (Some s) has_room unit answer = refl
