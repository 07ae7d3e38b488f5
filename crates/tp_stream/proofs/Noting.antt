-- What seats and the host's key show after steps.
use Rattle.std.proofs.Common.{◌≡◌, ℕ, zero, suc, ◌≤◌, inl, inr, List, [], ◌∷◌, ◌++◌, length, set, take, drop, map, refl, sym, ap, subst, ◌∙◌, arith, Bool, true, false, Option, Some, Result, Ok, Err, slice_get, ◌+◌}
use Rattle.std.specs.Prelude.{OnErr, nat_le, if◌then◌else◌}
use Rattle.tp_stream.proofs.Lower.{take-append_seam, cases_eq, map-append, AllByRecursion, enumerate_from, Entry, Run, Take, HostIn, Confirm, slice_get-set_other, slice_get-set_same, confirm_entries, BookValue, port_in, handed, Stage, HasFront, OutputValue}
use Rattle.tp_model.specs.declared.entry.Entry.TheVariants.{Turn}
use Rattle.tp_stream.specs.declared.fault.StreamFault.{StreamFault}
use Rattle.tp_stream.specs.Confirmed.{AreConfirmsPut, ConfirmsPut, WasPutUpto}
use Rattle.tp_stream.specs.Noted.{StepsNoted}
use Rattle.tp_stream.specs.Offered.{Offered}
use Rattle.tp_stream.specs.Steps.{PutsShown}

-- ## Lists

both : {A : Type 0} (P : A → Type 0) (xs ys : List A) → AllByRecursion P xs → AllByRecursion P ys → AllByRecursion P (xs ++ ys)
both P [] ys one other = other
both P (x ∷ xs) ys one other = (one.0, both P xs ys one.1 other)

front : {A : Type 0} (P : A → Type 0) (xs ys : List A) → AllByRecursion P (xs ++ ys) → AllByRecursion P xs
front P [] ys all = tt
front P (x ∷ xs) ys all = (all.0, front P xs ys all.1)

each_so : {A : Type 0} (P Q : A → Type 0) → ((x : A) → P x → Q x) → (xs : List A) → AllByRecursion P xs → AllByRecursion Q xs
each_so P Q so [] all = tt
each_so P Q so (x ∷ xs) all = (so x all.0, each_so P Q so xs all.1)

entries_of : (n : ℕ) (es : List Entry) → map (λ (slip : ℕ × Entry). slip.1) (enumerate_from n es) ≡ es
entries_of n [] = refl
entries_of n (e ∷ es) = ap (λ l. e ∷ l) (entries_of (n + 1) es)

slips_more : (n : ℕ) (es : List Entry) (old new : List (ℕ × Entry)) (had has : List Entry) → map (λ (slip : ℕ × Entry). slip.1) old ≡ had → new ≡ old ++ enumerate_from n es → has ≡ had ++ es
    → map (λ (slip : ℕ × Entry). slip.1) new ≡ has
slips_more n es old new had has are seat host =
    ap (map (λ (slip : ℕ × Entry). slip.1)) seat ∙ map-append (λ (slip : ℕ × Entry). slip.1) old (enumerate_from n es) ∙ ap (λ l. map (λ (slip : ℕ × Entry). slip.1) old ++ l) (entries_of n es)
    ∙ ap (λ l. l ++ es) are ∙ sym host

-- ## Confirms

-- outputs that were put further
put_later : (outputs : List OutputValue) (place : ℕ) (old new : OutputValue) → slice_get outputs place ≡ Some old → new.port ≡ old.port → old.next ≤ new.next → (port upto : ℕ)
    → WasPutUpto outputs port upto → WasPutUpto (set outputs place new) port upto
put_later outputs place old new there same up port upto W =
    elim (cases_eq W.place place) [
      | inl here ↦
          let is : Some W.output ≡ Some old = sym W.there ∙ ap (slice_get outputs) here ∙ there in
          let output : W.output ≡ old = cc in
          let low : upto ≤ old.next = subst (λ (o : OutputValue). upto ≤ o.next) output W.put in
          record {
            place = place;
            output = new;
            there = slice_get-set_same outputs place new old there;
            is = same ∙ subst (λ (o : OutputValue). o.port ≡ port) output W.is;
            put = omega (arith, low, up);
          }
      | inr other ↦ record { place = W.place; output = W.output; there = slice_get-set_other outputs place W.place new other ∙ W.there; is = W.is; put = W.put }
    ]

confirm_later : (outputs : List OutputValue) (place : ℕ) (old new : OutputValue) → slice_get outputs place ≡ Some old → new.port ≡ old.port → old.next ≤ new.next → (e : Entry)
    → ConfirmsPut outputs e → ConfirmsPut (set outputs place new) e
confirm_later outputs place old new there same up (Run i k) W = tt
confirm_later outputs place old new there same up (Take line token) W = tt
confirm_later outputs place old new there same up (HostIn p x) W = tt
confirm_later outputs place old new there same up (Confirm p upto) W = put_later outputs place old new there same up p upto W
confirm_later outputs place old new there same up (Turn i links k) W = tt

confirmed_if : (outputs : List OutputValue) (before : Bool) (port upto : ℕ) → WasPutUpto outputs port upto → AreConfirmsPut outputs (if before then [] else Confirm port upto ∷ [])
confirmed_if outputs true port upto W = tt
confirmed_if outputs false port upto W = (W, tt)

bytes_confirm : (outputs : List OutputValue) (port : ℕ) (bytes : List ℕ) → AreConfirmsPut outputs (map (HostIn port) bytes)
bytes_confirm outputs port [] = tt
bytes_confirm outputs port (x ∷ bytes) = (tt, bytes_confirm outputs port bytes)

-- ## Entries of which the host handed in some

confirms_in : (outputs : List OutputValue) (es : List Entry) → AreConfirmsPut outputs (handed es) → AreConfirmsPut outputs es
confirms_in outputs [] all = tt
confirms_in outputs (Run i k ∷ es) all = (tt, confirms_in outputs es all)
confirms_in outputs (Take line token ∷ es) all = (tt, confirms_in outputs es all)
confirms_in outputs (HostIn p x ∷ es) all = (tt, confirms_in outputs es all.1)
confirms_in outputs (Confirm p upto ∷ es) all = (all.0, confirms_in outputs es all.1)
confirms_in outputs (Turn i links k ∷ es) all = (tt, confirms_in outputs es all)

pub confirms_past : (outputs : List OutputValue) (n : ℕ) → AreConfirmsPut outputs (drop n [])
confirms_past outputs zero = tt
confirms_past outputs (suc n) = tt

pub front_confirms : (outputs : List OutputValue) (all es : List Entry) → HasFront all (handed es) → AreConfirmsPut outputs all → AreConfirmsPut outputs es
front_confirms outputs all es fronts put =
    confirms_in outputs es (front (ConfirmsPut outputs) (handed es) fronts.0 (subst (AreConfirmsPut outputs) fronts.1 put))

-- ## Steps of outputs

pub puts_port : (b : BookValue) (mark : ℕ) (old new : OutputValue) → PutsShown b mark old new → new.port ≡ old.port
puts_port b mark old new (inl none) = none.port
puts_port b mark old new (inr puts) = puts.1.port

pub puts_up : (b : BookValue) (mark : ℕ) (old new : OutputValue) → PutsShown b mark old new → old.next ≤ new.next
puts_up b mark old new (inl none) = let next = none.next in omega (arith, next)
puts_up b mark old new (inr puts) = let next = puts.1.next in omega (arith, next)

-- a step that confirmed nothing
pub still_noted : (outputs : List OutputValue) (place : ℕ) (old new : OutputValue) (seat_old seat_new : List (ℕ × Entry)) (host_old host_new : List Entry) → slice_get outputs place ≡ Some old
    → new.port ≡ old.port → old.next ≤ new.next → seat_new ≡ seat_old → host_new ≡ host_old → StepsNoted outputs seat_old host_old → StepsNoted (set outputs place new) seat_new host_new
still_noted outputs place old new seat_old seat_new host_old host_new there same up seat host N = record {
  slips = ap (map (λ (slip : ℕ × Entry). slip.1)) seat ∙ N.slips ∙ sym host;
  confirms =
      subst (AreConfirmsPut (set outputs place new)) (sym host)
      (each_so (ConfirmsPut outputs) (ConfirmsPut (set outputs place new)) (confirm_later outputs place old new there same up) host_old N.confirms);
}

-- a step that confirmed all that the output was put
pub confirm_noted : (outputs : List OutputValue) (place : ℕ) (old new : OutputValue) (b : BookValue) (first : ℕ) (seat_old seat_new : List (ℕ × Entry)) (host_old host_new : List Entry)
    → slice_get outputs place ≡ Some old → new.port ≡ old.port → old.next ≤ new.next → seat_new ≡ seat_old ++ enumerate_from first (confirm_entries b old.port new.next)
    → host_new ≡ host_old ++ confirm_entries b old.port new.next → StepsNoted outputs seat_old host_old → StepsNoted (set outputs place new) seat_new host_new
confirm_noted outputs place old new b first seat_old seat_new host_old host_new there same up seat host N = record {
  slips = slips_more first (confirm_entries b old.port new.next) seat_old seat_new host_old host_new N.slips seat host;
  confirms =
      subst (AreConfirmsPut (set outputs place new)) (sym host)
      (both (ConfirmsPut (set outputs place new)) host_old (confirm_entries b old.port new.next)
      (each_so (ConfirmsPut outputs) (ConfirmsPut (set outputs place new)) (confirm_later outputs place old new there same up) host_old N.confirms)
      (confirmed_if (set outputs place new) (nat_le new.next (port_in b old.port).out_base) old.port new.next
      (record { place = place; output = new; there = slice_get-set_same outputs place new old there; is = same; put = omega arith })));
}

-- outputs that were lent, and are written back whole
pub noted_back : (items lent new : List OutputValue) (n : ℕ) (seat_old seat_new : List (ℕ × Entry)) (host_old host_new : List Entry) → length new ≡ n → lent ≡ items
    → (StepsNoted lent seat_old host_old → StepsNoted new seat_new host_new) → StepsNoted items seat_old host_old → StepsNoted (take n (new ++ drop (length new) items)) seat_new host_new
noted_back items lent new n seat_old seat_new host_old host_new long is steps N =
    subst (λ os. StepsNoted os seat_new host_new) (sym (ap (λ m. take m (new ++ drop (length new) items)) (sym long) ∙ take-append_seam new (drop (length new) items)))
    (steps (subst (λ os. StepsNoted os seat_old host_old) (sym is) N))

-- ## Steps of inputs

-- what a step of an input came to
pub offer_noted : (input : Option (List ℕ)) (port most first : ℕ) (r : Result Bool StreamFault) (old new : Stage) (seat_old seat_new : List (ℕ × Entry)) (host_old host_new : List Entry)
    → (r ≡ Ok true → Offered input port most first old new seat_old seat_new host_old host_new) → (r ≡ Ok false → (new ≡ old) × (seat_new ≡ seat_old) × (host_new ≡ host_old))
    → OnErr r ((new ≡ old) × (seat_new ≡ seat_old) × (host_new ≡ host_old)) → (outputs : List OutputValue) → StepsNoted outputs seat_old host_old → StepsNoted outputs seat_new host_new
offer_noted input port most first (Ok true) old new seat_old seat_new host_old host_new taken refused err outputs N =
    let O = taken refl in
    let es = map (HostIn port) O.bytes in
    record {
      slips =
          slips_more (first + length old.all) es seat_old seat_new host_old host_new N.slips (O.noted.seat ∙ ap (λ es. seat_old ++ enumerate_from (first + length old.all) es) O.noted.are) O.handed;
      confirms = subst (AreConfirmsPut outputs) (sym O.handed) (both (ConfirmsPut outputs) host_old es N.confirms (bytes_confirm outputs port O.bytes));
    }
offer_noted input port most first (Ok false) old new seat_old seat_new host_old host_new taken refused err outputs N =
    let R = refused refl in subst (λ host. StepsNoted outputs seat_new host) (sym R.2) (subst (λ seat. StepsNoted outputs seat host_old) (sym R.1) N)
offer_noted input port most first (Err fault) old new seat_old seat_new host_old host_new taken refused err outputs N =
    subst (λ host. StepsNoted outputs seat_new host) (sym err.2) (subst (λ seat. StepsNoted outputs seat host_old) (sym err.1) N)
