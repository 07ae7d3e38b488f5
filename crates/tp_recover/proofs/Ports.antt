-- Ports that are read one after the other.
use Rattle.std.proofs.Common.{◌≡◌, ℕ, suc, ◌+◌, ◌-◌, ◌*◌, ◌<◌, ◌≤◌, List, [], ◌∷◌, ◌++◌, take, drop, sym, ap, ◌∙◌, arith, append-nil, subst, Option, Ok, Err}
use Rattle.std.specs.Prelude.{Result}
use Rattle.tp_recover.proofs.Lower.{drop-drop, PORT_BYTES, port_with, ports_in, or_damaged, Moment, ◌>>=◌, Port, port_with-take}
use Rattle.tp_recover.specs.declared.unopened.Unopened.{Unopened}
use Rattle.tp_recover.specs.Reading.{ReadAnswer}
use Rattle.tp_recover.proofs.Records.{behind, with_first, step_read, step_error}

-- what a reader found
pub port_read : (at base : ℕ) (xs bytes : List ℕ) (read : Option Port) → bytes ≡ take PORT_BYTES (drop at xs) → read ≡ port_with base bytes
    → or_damaged at (port_with base (drop at xs)) ≡ or_damaged at read
port_read at base xs bytes read front is =
    ap (or_damaged at) (sym (port_with-take base (drop at xs)) ∙ ap (port_with base) (sym front) ∙ sym is)

ports_in-more : (base at n m : ℕ) (bytes : List ℕ) → n ≡ suc m
    → ports_in base at n bytes ≡ (or_damaged at (port_with base bytes) >>= (λ port. with_first port (ports_in base (at + PORT_BYTES) m (drop PORT_BYTES bytes))))
unfolding ports_in
ports_in-more base at n m bytes is = ap (λ k. ports_in base at k bytes) is

ports_in-none : (base at n : ℕ) (bytes : List ℕ) → n ≡ 0 → ports_in base at n bytes ≡ Ok []
unfolding ports_in
ports_in-none base at n bytes is = ap (λ k. ports_in base at k bytes) is

-- the ports that are left, by the next one
ports_left : (base at i count : ℕ) (xs : List ℕ) → i < count
    → ports_in base (at + PORT_BYTES * i) (count - i) (drop (at + PORT_BYTES * i) xs)
    ≡ (or_damaged (at + PORT_BYTES * i) (port_with base (drop (at + PORT_BYTES * i) xs)) >>= (λ port. with_first port (ports_in base (at + PORT_BYTES * (i + 1)) (count - (i + 1)) (drop (at + PORT_BYTES * (i + 1)) xs))))
ports_left base at i count xs lt =
    let place = at + PORT_BYTES * i in
    let next : place + PORT_BYTES ≡ at + PORT_BYTES * (i + 1) = omega arith in
    ports_in-more base place (count - i) (count - (i + 1)) (drop place xs) (omega arith)
    ∙ ap (λ ys. or_damaged place (port_with base (drop place xs)) >>= (λ port. with_first port (ports_in base (place + PORT_BYTES) (count - (i + 1)) ys))) (drop-drop PORT_BYTES place xs)
    ∙ ap (λ p. or_damaged place (port_with base (drop place xs)) >>= (λ port. with_first port (ports_in base p (count - (i + 1)) (drop p xs)))) next

pub ports_in-step : (base at i count : ℕ) (old now : Moment) (items new : List Port) (port : Port) → i < count
    → ports_in base at count (drop at old.bytes) ≡ behind items (ports_in base (at + PORT_BYTES * i) (count - i) (drop (at + PORT_BYTES * i) old.bytes))
    → now ≡ old → or_damaged (at + PORT_BYTES * i) (port_with base (drop (at + PORT_BYTES * i) now.bytes)) ≡ Ok port → new ≡ items ++ port ∷ []
    → ports_in base at count (drop at old.bytes) ≡ behind new (ports_in base (at + PORT_BYTES * (i + 1)) (count - (i + 1)) (drop (at + PORT_BYTES * (i + 1)) old.bytes))
ports_in-step base at i count old now items new port lt so_far kept read push =
    step_read items new port (ports_in base at count (drop at old.bytes)) (or_damaged (at + PORT_BYTES * i) (port_with base (drop (at + PORT_BYTES * i) old.bytes)))
    (ports_in base (at + PORT_BYTES * (i + 1)) (count - (i + 1)) (drop (at + PORT_BYTES * (i + 1)) old.bytes))
    (so_far ∙ ap (behind items) (ports_left base at i count old.bytes lt))
    (ap (λ m. or_damaged (at + PORT_BYTES * i) (port_with base (drop (at + PORT_BYTES * i) m.bytes))) (sym kept) ∙ read) push

pub ports_in-error : {A C : Type 0} (seen : A → Port) (seen_then : C → List Port) (base at i count : ℕ) (old now : Moment) (items : List Port) (error : Unopened) (answer : Result C Unopened) → i < count
    → ports_in base at count (drop at old.bytes) ≡ behind items (ports_in base (at + PORT_BYTES * i) (count - i) (drop (at + PORT_BYTES * i) old.bytes))
    → now ≡ old → ReadAnswer seen (or_damaged (at + PORT_BYTES * i) (port_with base (drop (at + PORT_BYTES * i) now.bytes))) (Err error) → answer ≡ Err error
    → ReadAnswer seen_then (ports_in base at count (drop at old.bytes)) answer
ports_in-error seen seen_then base at i count old now items error answer lt so_far kept read is =
    step_error seen seen_then items (ports_in base at count (drop at old.bytes)) (or_damaged (at + PORT_BYTES * i) (port_with base (drop (at + PORT_BYTES * i) old.bytes)))
    (ports_in base (at + PORT_BYTES * (i + 1)) (count - (i + 1)) (drop (at + PORT_BYTES * (i + 1)) old.bytes)) error answer
    (so_far ∙ ap (behind items) (ports_left base at i count old.bytes lt))
    (subst (λ m. ReadAnswer seen (or_damaged (at + PORT_BYTES * i) (port_with base (drop (at + PORT_BYTES * i) m.bytes))) (Err error)) kept read) is

pub ports_in-end : (base at i count : ℕ) (xs : List ℕ) (items : List Port) → count ≤ i
    → ports_in base at count (drop at xs) ≡ behind items (ports_in base (at + PORT_BYTES * i) (count - i) (drop (at + PORT_BYTES * i) xs))
    → ports_in base at count (drop at xs) ≡ Ok items
ports_in-end base at i count xs items le so_far =
    so_far ∙ ap (behind items) (ports_in-none base (at + PORT_BYTES * i) (count - i) (drop (at + PORT_BYTES * i) xs) (omega arith)) ∙ ap Ok (append-nil items)
