-- Why the book may refuse a confirm for which it has room.
use Rattle.std.proofs.Common.{◌≡◌, ◌≤◌, ℕ, Bool, true, false, Some, None, Result, Err, sym, subst}
use Rattle.std.specs.Prelude.{if◌then◌else◌, nat_le, nat_lt}
use Rattle.tp_stream.proofs.Lower.{le-ltb, true≢false, BookValue, port_in, shown_upto_of, is_journal_full, RefusesFor, confirm_fault, ConfirmFault, NotShown, JournalFull, StoreBroken}
use Rattle.tp_work.specs.declared.host_fault.ConfirmFault.TheVariants.{Memory}
use Rattle.tp_stream.specs.Outcomes.{ConfirmsOtherwise}

abbrev unconfirmed : (A : Type 0) → ConfirmFault → Result A ConfirmFault
unconfirmed A fault = Err fault

other_reason : (A : Type 0) (hidden old broken full : Bool) (fault : ConfirmFault) → hidden ≡ false → full ≡ false
    → RefusesFor Memory (if hidden then Some NotShown else if old then None else if broken then Some StoreBroken else if full then Some JournalFull else None) (unconfirmed A fault) → ConfirmsOtherwise fault
other_reason A true old broken full fault shown room is = absurd (true≢false shown)
other_reason A false true broken full fault shown room is = subst ConfirmsOtherwise (sym is) tt
other_reason A false false true full fault shown room is = subst ConfirmsOtherwise (sym is) tt
other_reason A false false false true fault shown room is = absurd (true≢false room)
other_reason A false false false false fault shown room is = subst ConfirmsOtherwise (sym is) tt

-- what is confirmed is shown, and the journal has room
pub confirms_otherwise : (A : Type 0) (b : BookValue) (port mark upto p m u : ℕ) (fault : ConfirmFault) → p ≡ port → m ≡ mark → u ≡ upto → upto ≤ shown_upto_of b port mark → is_journal_full b 1 ≡ false
    → RefusesFor Memory (confirm_fault b p m u) (unconfirmed A fault) → ConfirmsOtherwise fault
confirms_otherwise A b port mark upto p m u fault same_port same_mark same_upto shown room is =
    let low : u ≤ shown_upto_of b p m =
    subst (λ q. u ≤ shown_upto_of b q m) (sym same_port) (subst (λ n. u ≤ shown_upto_of b port n) (sym same_mark) (subst (λ k. k ≤ shown_upto_of b port mark) (sym same_upto) shown)) in
    other_reason A (nat_lt (shown_upto_of b p m) u) (nat_le u (port_in b p).out_base) b.broken (is_journal_full b 1) fault (le-ltb (shown_upto_of b p m) u low) room is
