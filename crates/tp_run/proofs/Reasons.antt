-- Why input isn't handed in, and why outputs aren't confirmed.
use Rattle.std.proofs.Common.{◌≡◌, ◌≤◌, ℕ, Bool, true, false, List, length, take, drop, Some, None, Result, Ok, Err, ap, subst, ◌∙◌, arith}
use Rattle.std.specs.Prelude.{◌==◌, if◌then◌else◌, nat_le, nat_lt}
use Rattle.tp_run.proofs.Lower.{le-ltb, true≢false, length-take, BookValue, accepted_of, port_in, room_of, shown_upto_of, is_journal_full, RefusesFor, offer_fault, confirm_fault, OfferFault}
use Rattle.tp_work.specs.declared.host_fault.OfferFault.TheVariants as offer
use Rattle.tp_work.specs.declared.host_fault.ConfirmFault.{ConfirmFault}
use Rattle.tp_work.specs.declared.host_fault.ConfirmFault.TheVariants as confirm
use Rattle.tp_run.specs.declared.fault.RunFault.{RunFault}
use Rattle.tp_run.specs.declared.fault.RunFault.TheVariants.{OfferRefused, ConfirmRefused, Unaccounted, Memory}
use Rattle.tp_run.specs.Input.{rest_fault, input_rest}
use Rattle.tp_run.specs.Output.{unconfirmed_fault}

-- ## Input

-- the fault of a run for each reason to refuse an offer; the first three don't occur
abbrev pub rest_told : OfferFault → RunFault
rest_told (offer.Already n) = Memory
rest_told (offer.Gap n) = Memory
rest_told (offer.PortFull n) = Memory
rest_told offer.JournalFull = OfferRefused
rest_told offer.StoreBroken = Unaccounted
rest_told offer.Memory = Memory

abbrev pub told_rest : (A : Type 0) → Result A OfferFault → Result A RunFault
told_rest A (Ok x) = Ok x
told_rest A (Err fault) = Err (rest_told fault)

rest_reason : (A : Type 0) (more fewer none broken small full : Bool) (already gap room : ℕ) (r : Result A OfferFault) → more ≡ false → fewer ≡ false → small ≡ false
    → RefusesFor offer.Memory (if more then Some (offer.Already already) else if fewer then Some (offer.Gap gap) else if none then None else if broken then Some offer.StoreBroken else if small then Some (offer.PortFull room) else if full then Some offer.JournalFull else None) r
    → RefusesFor Memory (if none then None else if broken then Some Unaccounted else if full then Some OfferRefused else None) (told_rest A r)
rest_reason A true fewer none broken small full already gap room r no_more no_fewer fits is = absurd (true≢false no_more)
rest_reason A false true none broken small full already gap room r no_more no_fewer fits is = absurd (true≢false no_fewer)
rest_reason A false false true broken small full already gap room (Ok x) no_more no_fewer fits is = tt
rest_reason A false false true broken small full already gap room (Err fault) no_more no_fewer fits is = ap rest_told is
rest_reason A false false false true small full already gap room (Ok x) no_more no_fewer fits is = is
rest_reason A false false false true small full already gap room (Err fault) no_more no_fewer fits is = ap rest_told is
rest_reason A false false false false true full already gap room r no_more no_fewer fits is = absurd (true≢false fits)
rest_reason A false false false false false true already gap room (Ok x) no_more no_fewer fits is = is
rest_reason A false false false false false true already gap room (Err fault) no_more no_fewer fits is = ap rest_told is
rest_reason A false false false false false false already gap room (Ok x) no_more no_fewer fits is = tt
rest_reason A false false false false false false already gap room (Err fault) no_more no_fewer fits is = ap rest_told is

-- an offer of just the bytes that a port hasn't accepted and has room for, from the first of them on
pub rest_refused : (A : Type 0) (b : BookValue) (port at room : ℕ) (input bytes : List ℕ) (r : Result A OfferFault) → at ≡ accepted_of (port_in b port) → room ≡ room_of (port_in b port)
    → bytes ≡ take room (drop at input) → RefusesFor offer.Memory (offer_fault b port at (length bytes)) r
    → RefusesFor Memory (rest_fault b (length (input_rest b port input))) (told_rest A r)
rest_refused A b port at room input bytes r at_is room_is bytes_are is =
    let accepted = accepted_of (port_in b port) in
    let left = room_of (port_in b port) in
    let same : bytes ≡ input_rest b port input = bytes_are ∙ ap (λ n. take n (drop at input)) room_is ∙ ap (λ n. take left (drop n input)) at_is in
    let long = length-take left (drop accepted input) in
    let count = length (input_rest b port input) in
    let few : count ≤ left = omega (arith, long) in
    let none_more : at ≤ accepted = omega (arith, at_is) in
    let none_fewer : accepted ≤ at = omega (arith, at_is) in
    rest_reason A (nat_lt at accepted) (nat_lt accepted at) (count == 0) b.broken (nat_lt left count) (is_journal_full b count) accepted accepted left r
    (le-ltb at accepted none_fewer) (le-ltb accepted at none_more) (le-ltb left count few)
    (subst (λ (some : List ℕ). RefusesFor offer.Memory (offer_fault b port at (length some)) r) same is)

-- ## Confirms

-- the fault of a run for each reason to refuse a confirm; the first doesn't occur
abbrev pub confirm_told : ConfirmFault → RunFault
confirm_told confirm.NotShown = Memory
confirm_told confirm.JournalFull = ConfirmRefused
confirm_told confirm.StoreBroken = Unaccounted
confirm_told confirm.Memory = Memory

abbrev pub told_confirm : (A : Type 0) → Result A ConfirmFault → Result A RunFault
told_confirm A (Ok x) = Ok x
told_confirm A (Err fault) = Err (confirm_told fault)

confirm_reason : (A : Type 0) (hidden old broken full : Bool) (r : Result A ConfirmFault) → hidden ≡ false
    → RefusesFor confirm.Memory (if hidden then Some confirm.NotShown else if old then None else if broken then Some confirm.StoreBroken else if full then Some confirm.JournalFull else None) r
    → RefusesFor Memory (if old then None else if broken then Some Unaccounted else if full then Some ConfirmRefused else None) (told_confirm A r)
confirm_reason A true old broken full r shown is = absurd (true≢false shown)
confirm_reason A false true broken full (Ok x) shown is = tt
confirm_reason A false true broken full (Err fault) shown is = ap confirm_told is
confirm_reason A false false true full (Ok x) shown is = is
confirm_reason A false false true full (Err fault) shown is = ap confirm_told is
confirm_reason A false false false true (Ok x) shown is = is
confirm_reason A false false false true (Err fault) shown is = ap confirm_told is
confirm_reason A false false false false (Ok x) shown is = tt
confirm_reason A false false false false (Err fault) shown is = ap confirm_told is

-- a confirm of all that a mark shows
pub shown_refused : (A : Type 0) (b : BookValue) (port mark upto : ℕ) (r : Result A ConfirmFault) → upto ≡ shown_upto_of b port mark → RefusesFor confirm.Memory (confirm_fault b port mark upto) r
    → RefusesFor Memory (unconfirmed_fault b port mark) (told_confirm A r)
shown_refused A b port mark upto r upto_is is =
    let shown = shown_upto_of b port mark in
    confirm_reason A (nat_lt shown shown) (nat_le shown (port_in b port).out_base) b.broken (is_journal_full b 1) r (le-ltb shown shown (omega arith))
    (subst (λ (n : ℕ). RefusesFor confirm.Memory (confirm_fault b port mark n) r) upto_is is)
