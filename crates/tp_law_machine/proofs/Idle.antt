-- Ends that are idle are waiting for nothing, and hold nothing.
use Rattle.std.proofs.Common.{◌≡◌, ℕ, zero, suc, true, false, List, [], ◌∷◌, refl, Some, None, slice_get}
use Rattle.tp_law_machine.proofs.Lower.{list_all, and_parts, OutEnd, Waits, OutIdle, InEnd, Inputs, Enabled, InIdle, is_waiting, is_holding, is_idle_out, is_idle_in, waits_there, holds_there}

pub idle_out : (end : OutEnd) → is_idle_out end ≡ true → is_waiting end ≡ false
idle_out OutIdle h = refl
idle_out (Waits t) h = cc

pub idle_in : (end : InEnd) → is_idle_in end ≡ true → is_holding end ≡ false
idle_in (InIdle None) h = refl
idle_in (InIdle (Some byte)) h = cc
idle_in (Inputs t) h = refl
idle_in (Enabled process) h = refl

pub none_waits : (ends : List OutEnd) (k : ℕ) → list_all is_idle_out ends ≡ true → waits_there (slice_get ends k) ≡ false
none_waits [] k h = refl
none_waits (end ∷ ends) zero h = idle_out end (and_parts (is_idle_out end) (list_all is_idle_out ends) h).0
none_waits (end ∷ ends) (suc k) h = none_waits ends k (and_parts (is_idle_out end) (list_all is_idle_out ends) h).1

pub none_holds : (ends : List InEnd) (k : ℕ) → list_all is_idle_in ends ≡ true → holds_there (slice_get ends k) ≡ false
none_holds [] k h = refl
none_holds (end ∷ ends) zero h = idle_in end (and_parts (is_idle_in end) (list_all is_idle_in ends) h).0
none_holds (end ∷ ends) (suc k) h = none_holds ends k (and_parts (is_idle_in end) (list_all is_idle_in ends) h).1
