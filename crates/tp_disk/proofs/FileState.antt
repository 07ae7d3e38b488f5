-- What a device in a file holds after one call more, and what it was answered.
use Rattle.std.proofs.Common.{◌≡◌, ℕ, ◌+◌, ◌≤◌, Bool, true, false, Result, Ok, Err, OnOk, OnErr, is_ok, List, [], ◌∷◌, ◌++◌, length, take, drop, get_or, replicate, refl, sym, ap, subst, ◌∙◌, arith, append_assoc, length-append}
use Rattle.tp_disk.proofs.Lower.{length-take, length-replicate, append-nil, Moment, MayBe, Write, Sync, Read, written, done, within, broken, State, MomentPassed, Fails, moment}
use Rattle.tp_disk.specs.History.{DeviceTold, FileCall, with_call, Medium, Reads, SyncsData, Writes}
use Rattle.tp_disk.specs.Reads.{Reading, answered}
use Rattle.tp_disk.specs.FileState.{begins, came_of, fitted, goes_on, led_to, reading_of, readings, told_reads, told_state}
use Rattle.tp_disk.proofs.Moments.{length-written, may_stand}
use Rattle.tp_disk.proofs.Torn.{may_be_torn}

pub length-fitted : (count : ℕ) (bytes : List ℕ) → length (fitted count bytes) ≡ count
length-fitted count bytes =
    let zero : ℕ = 0 in
    omega (arith, length-take count (bytes ++ replicate count zero), length-append bytes (replicate count zero), length-replicate count zero)

led_more : (M : Medium) (calls : List FileCall) (call : FileCall) (s : State) → led_to M (calls ++ call ∷ []) s ≡ goes_on M call (led_to M calls s)
led_more M [] call s = refl
led_more M (first ∷ calls) call s = led_more M calls call (goes_on M first s)

readings_more : (M : Medium) (calls : List FileCall) (call : FileCall) (s : State)
    → readings M (calls ++ call ∷ []) s ≡ readings M calls s ++ reading_of call (led_to M calls s).now
readings_more M [] call s = append-nil (reading_of call s.now)
readings_more M (first ∷ calls) call s =
    ap (λ rest. reading_of first s.now ++ rest) (readings_more M calls call (goes_on M first s))
    ∙ sym (append_assoc (reading_of first s.now) (readings M calls (goes_on M first s)) (reading_of call (led_to M calls (goes_on M first s)).now))

module _ (size : ℕ) (old new : DeviceTold) where
  abbrev was : State
  was = told_state size old

  abbrev torn : List ℕ
  torn = get_or old.medium.torn (moment was) []

  -- ## One call more

  state_more : (call : FileCall) → new ≡ with_call old call → told_state size new ≡ goes_on old.medium call was
  state_more call is = ap (λ told. told_state size told) is ∙ led_more old.medium old.calls call (begins old.medium size)

  now_more : (call : FileCall) → new ≡ with_call old call → (told_state size new).now ≡ came_of torn call was.now
  now_more call is = ap (λ (s : State). s.now) (state_more call is)

  pub passed_more : (call : FileCall) → new ≡ with_call old call → MomentPassed was (told_state size new)
  passed_more call is = ap (λ (s : State). s.past) (state_more call is)

  pub reads_more : (call : FileCall) → new ≡ with_call old call → told_reads size new ≡ told_reads size old ++ reading_of call was.now
  reads_more call is = ap (λ told. told_reads size told) is ∙ readings_more old.medium old.calls call (begins old.medium size)

  pub reads_same : (call : FileCall) → reading_of call was.now ≡ [] → new ≡ with_call old call → told_reads size new ≡ told_reads size old
  reads_same call none is = reads_more call is ∙ ap (λ more. told_reads size old ++ more) none ∙ append-nil (told_reads size old)

  -- ## A read

  pub read_after : {E : Type 0} (r : Result Unit E) (at : ℕ) (came : List ℕ) → new ≡ with_call old (Reads at came (is_ok r))
      → OnOk r ((told_state size new).now ≡ done Read was.now)
  read_after (Ok u) at came is = now_more (Reads at came true) is
  read_after (Err e) at came is = tt

  pub read_failed : {E : Type 0} (r : Result Unit E) (at : ℕ) (came : List ℕ) → new ≡ with_call old (Reads at came (is_ok r))
      → OnErr r (Fails Read was (told_state size new))
  read_failed (Ok u) at came is = tt
  read_failed (Err e) at came is = let now = now_more (Reads at came false) is in record {
    unsynced = ap (λ (m : Moment). m.unsynced) now;
    content = subst (λ (m : Moment). MayBe was.now m.bytes) (sym now) (may_stand was.now);
  }

  pub read_whole : (at : ℕ) (came : List ℕ) (ok : Bool) → new ≡ with_call old (Reads at came ok)
      → length was.now.bytes ≡ size → length (told_state size new).now.bytes ≡ size
  read_whole at came ok is whole = ap (λ (m : Moment). length m.bytes) (now_more (Reads at came ok) is) ∙ whole

  -- ## A write

  pub write_after : {E : Type 0} (r : Result Unit E) (at : ℕ) (bytes : List ℕ) → new ≡ with_call old (Writes at bytes (is_ok r))
      → OnOk r ((told_state size new).now ≡ done (Write at bytes) was.now)
  write_after (Ok u) at bytes is = now_more (Writes at bytes true) is
  write_after (Err e) at bytes is = tt

  pub write_failed : {E : Type 0} (r : Result Unit E) (at : ℕ) (bytes : List ℕ) → length was.now.bytes ≡ size → at + length bytes ≤ size
      → new ≡ with_call old (Writes at bytes (is_ok r)) → OnErr r (Fails (Write at bytes) was (told_state size new))
  write_failed (Ok u) at bytes whole room is = tt
  write_failed (Err e) at bytes whole room is =
      let now = now_more (Writes at bytes false) is in
      record {
        unsynced = ap (λ (m : Moment). m.unsynced) now;
        content = subst (λ (m : Moment). MayBe (within (Write at bytes) was.now) m.bytes) (sym now)
            (may_be_torn was.now at bytes (fitted (length bytes) torn) (omega (arith, whole, room)) (omega (arith, length-fitted (length bytes) torn)));
      }

  length_wrote : (ok : Bool) (at : ℕ) (bytes : List ℕ) (m : Moment) → at + length bytes ≤ length m.bytes → length (came_of torn (Writes at bytes ok) m).bytes ≡ length m.bytes
  length_wrote true at bytes m room = length-written m.bytes at bytes room
  length_wrote false at bytes m room = length-written m.bytes at (fitted (length bytes) torn) (omega (arith, room, length-fitted (length bytes) torn))

  pub write_whole : (at : ℕ) (bytes : List ℕ) (ok : Bool) → new ≡ with_call old (Writes at bytes ok) → at + length bytes ≤ size
      → length was.now.bytes ≡ size → length (told_state size new).now.bytes ≡ size
  write_whole at bytes ok is room whole =
      ap (λ (m : Moment). length m.bytes) (now_more (Writes at bytes ok) is) ∙ length_wrote ok at bytes was.now (omega (arith, whole, room)) ∙ whole

  -- ## A sync

  pub sync_after : {E : Type 0} (r : Result Unit E) → new ≡ with_call old (SyncsData (is_ok r)) → OnOk r ((told_state size new).now ≡ done Sync was.now)
  sync_after (Ok u) is = now_more (SyncsData true) is
  sync_after (Err e) is = tt

  pub sync_failed : {E : Type 0} (r : Result Unit E) → new ≡ with_call old (SyncsData (is_ok r)) → OnErr r (Fails Sync was (told_state size new))
  sync_failed (Ok u) is = tt
  sync_failed (Err e) is = let now = now_more (SyncsData false) is in record {
    unsynced = ap (λ (m : Moment). m.unsynced) now;
    content = subst (λ (m : Moment). MayBe was.now m.bytes) (sym now) (may_stand was.now);
  }

  length_synced : (ok : Bool) (m : Moment) → length (came_of torn (SyncsData ok) m).bytes ≡ length m.bytes
  length_synced true m = refl
  length_synced false m = refl

  pub sync_whole : (ok : Bool) → new ≡ with_call old (SyncsData ok) → length was.now.bytes ≡ size → length (told_state size new).now.bytes ≡ size
  sync_whole ok is whole = ap (λ (m : Moment). length m.bytes) (now_more (SyncsData ok) is) ∙ length_synced ok was.now ∙ whole
