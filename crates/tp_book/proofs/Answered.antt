-- How the host's calls are answered, by what their tests say.
use Rattle.std.proofs.Common.{◌≡◌, ℕ, ◌+◌, ◌<◌, ◌≤◌, Bool, true, false, cond, List, [], ◌∷◌, length, refl, sym, ap, subst, ◌∙◌, Option, Some, None, Err}
use Rattle.std.specs.Prelude.{◌==◌, is_some, Result, Ok}
use Rattle.tp_book.proofs.Lower.{le-leb, lt-leb, Confirm, is_full_for_snapshot}
use Rattle.tp_book.specs.declared.refusal.Refusal.{Refusal}
use Rattle.tp_book.specs.declared.refusal.Refusal.TheVariants.{SnapshotRunning, StoreBroken, JournalFull, Memory}
use Rattle.tp_book.specs.Book.{BookValue, next_in_book}
use Rattle.tp_book.specs.Covered.{ReceiptValue}
use Rattle.tp_book.specs.Marked.{begin_refusal}
use Rattle.tp_book.specs.Host.{port_in, input_refusal, some_input_refusal, confirm_refusal}
use Rattle.tp_book.specs.Inputs.{answer_to}
use Rattle.tp_book.specs.Receipts.{confirm_receipt}
use Rattle.tp_book.specs.Refusals.{else_if, is_journal_full, is_full_for_take, take_refusal, IsAnswer}

-- ## By a test

-- what it refuses
pub answered_err : {A : Type 0} (why : Option Refusal) (r : Result A Refusal) (e : Refusal) → r ≡ Err e → answer_to why ≡ Err e → IsAnswer why r
answered_err None r e is h = cc
answered_err (Some reason) r e is h =
    let this : e ≡ reason = cc in
    subst (λ r. IsAnswer (Some reason) r) (sym is) this

-- what it doesn't refuse may run out of memory,
pub answered_memory : (A : Type 0) (why : Option Refusal) → answer_to why ≡ Ok tt → IsAnswer {A = A} why (Err Memory)
answered_memory A None h = refl
answered_memory A (Some reason) h = cc

-- or is done
pub answered_ok : {A : Type 0} (why : Option Refusal) (x : A) → answer_to why ≡ Ok tt → IsAnswer why (Ok x)
answered_ok None x h = tt
answered_ok (Some reason) x h = cc

-- whatever it gives
pub answered_with : {A B : Type 0} (why : Option Refusal) (x : A) (y : B) → IsAnswer why (Ok x) → IsAnswer why (Ok y)
answered_with None x y h = tt
answered_with (Some reason) x y h = absurd h

-- for an entry: the store may be broken, or the journal full
pub entry_answered : {A : Type 0} (r : Result A Refusal) (x y broken full : Bool) → x ≡ broken → y ≡ full → IsAnswer (else_if (else_if None broken StoreBroken) full JournalFull) r
    → IsAnswer (else_if (else_if None x StoreBroken) y JournalFull) r
entry_answered r x y broken full is_broken is_full answer =
    subst (λ x. IsAnswer (else_if (else_if None x StoreBroken) y JournalFull) r) (sym is_broken) (subst (λ y. IsAnswer (else_if (else_if None broken StoreBroken) y JournalFull) r) (sym is_full) answer)

-- for a take; only the journal decides about it
pub take_answered : {A : Type 0} (b : BookValue) (needed : Bool) (r : Result A Refusal) (full : Bool) → is_full_for_take b needed ≡ full → IsAnswer (else_if None full JournalFull) r → IsAnswer (take_refusal b needed None) r
take_answered b needed r full is answer = subst (λ full. IsAnswer (else_if None full JournalFull) r) (sym is) answer

-- for a snapshot: one may run, too
pub begin_answered : {A : Type 0} (b : BookValue) (r : Result A Refusal) (running broken full : Bool) → is_some b.state.snapshot ≡ running → b.broken ≡ broken → is_full_for_snapshot b.generation ≡ full
    → IsAnswer (else_if (else_if (else_if None running SnapshotRunning) broken StoreBroken) full JournalFull) r → IsAnswer (begin_refusal b) r
begin_answered b r running broken full is_running is_broken is_full answer =
    subst (λ x. IsAnswer (else_if (else_if (else_if None x SnapshotRunning) b.broken StoreBroken) (is_full_for_snapshot b.generation) JournalFull) r) (sym is_running)
    (subst (λ x. IsAnswer (else_if (else_if (else_if None running SnapshotRunning) x StoreBroken) (is_full_for_snapshot b.generation) JournalFull) r) (sym is_broken)
    (subst (λ x. IsAnswer (else_if (else_if (else_if None running SnapshotRunning) broken StoreBroken) x JournalFull) r) (sym is_full) answer))

-- ## Bytes handed in

-- if there are some, their test answers
pub input_answered : {A : Type 0} (b : BookValue) (p : ℕ) (bytes : List ℕ) (r : Result A Refusal) → (length bytes == 0) ≡ false → IsAnswer (some_input_refusal b p (length bytes)) r
    → IsAnswer (input_refusal b p (length bytes)) r
input_answered b p bytes r some answer = subst (λ none. IsAnswer (cond none None (some_input_refusal b p (length bytes))) r) (sym some) answer

-- if there are none, it always succeeds
pub empty_answered : {A : Type 0} (b : BookValue) (p : ℕ) (bytes : List ℕ) (x : A) → (length bytes == 0) ≡ true → IsAnswer (input_refusal b p (length bytes)) (Ok x)
empty_answered b p bytes x none = subst (λ none. IsAnswer (cond none None (some_input_refusal b p (length bytes))) (Ok x)) (sym none) tt

-- ## Outputs confirmed

module _ (b : BookValue) (p upto : ℕ) where
  -- if the position was confirmed before, the call succeeds and journals nothing
  pub confirmed_answered : {A : Type 0} (x : A) → upto ≤ (port_in b p).out_base → IsAnswer (confirm_refusal b p upto) (Ok x)
  confirmed_answered x before =
      subst (λ before. IsAnswer (cond before None (else_if (else_if None b.broken StoreBroken) (is_journal_full b 1) JournalFull)) (Ok x)) (sym (le-leb upto (port_in b p).out_base before)) tt

  pub confirmed_shown : (n : ℕ) → n ≡ next_in_book b → upto ≤ (port_in b p).out_base → ◌≡◌ {A = ReceiptValue} (record { number = n; entries = []; position = None }) (confirm_receipt b p upto)
  confirmed_shown n is before =
      ap {B = ReceiptValue} (λ n. record { number = n; entries = []; position = None }) is
      ∙ sym (ap {B = ReceiptValue} (λ before. cond before (record { number = next_in_book b; entries = []; position = None }) (record { number = next_in_book b + 1; entries = Confirm p upto ∷ []; position = None })) (le-leb upto (port_in b p).out_base before))

  -- past it the store may be broken, or the journal full
  pub confirm_answered : {A : Type 0} (r : Result A Refusal) (broken full : Bool) → (port_in b p).out_base < upto → b.broken ≡ broken → is_journal_full b 1 ≡ full
      → IsAnswer (else_if (else_if None broken StoreBroken) full JournalFull) r → IsAnswer (confirm_refusal b p upto) r
  confirm_answered r broken full past is_broken is_full answer =
      subst (λ before. IsAnswer (cond before None (else_if (else_if None b.broken StoreBroken) (is_journal_full b 1) JournalFull)) r) (sym (lt-leb upto (port_in b p).out_base past))
      (entry_answered r b.broken (is_journal_full b 1) broken full is_broken is_full answer)

  pub confirm_shown : (n : ℕ) → n ≡ next_in_book b → (port_in b p).out_base < upto → ◌≡◌ {A = ReceiptValue} (record { number = n + 1; entries = Confirm p upto ∷ []; position = None }) (confirm_receipt b p upto)
  confirm_shown n is past =
      ap {B = ReceiptValue} (λ n. record { number = n + 1; entries = Confirm p upto ∷ []; position = None }) is
      ∙ sym (ap {B = ReceiptValue} (λ before. cond before (record { number = next_in_book b; entries = []; position = None }) (record { number = next_in_book b + 1; entries = Confirm p upto ∷ []; position = None })) (lt-leb upto (port_in b p).out_base past))
