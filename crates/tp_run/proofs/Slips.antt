-- Slips of the host: their numbers, and their places in the journal.
use Rattle.std.proofs.Common.{◌≡◌, ℕ, ◌+◌, ◌-◌, ◌<◌, List, [], ◌∷◌, ◌++◌, length, take, drop, Option, Result, Ok, Err, sym, ap, subst, ◌∙◌, arith, cond, length-append}
use Rattle.std.specs.Prelude.{nat_le, map, if◌then◌else◌, IfOk}
use Rattle.tp_run.proofs.Lower.{AllByRecursion, enumerate_from, le-leb, lt-leb, length-take-le, length-map, count_by-le-length, Entry, Confirm, HostIn, NodeState, Network, BookValue, next_in_book, accepted_of, after_inputs, port_in, shown_from, shown_of, shown_upto_of, marks_of, confirm_entries, ReceiptValue, enumerated_below, SlipsStand, below_more, IsFor}
use Rattle.tp_run.specs.Accounted.{Accounted}
use Rattle.tp_run.specs.declared.job.Job.{Job}
use Rattle.tp_run.specs.declared.outset.Outset.{Outset}
use Rattle.tp_run.specs.Input.{IsForInput, rest_at, input_rest}
use Rattle.tp_run.specs.Outset.{StandsIn}
use Rattle.tp_run.specs.Output.{IsForOutput, confirms}
use Rattle.tp_run.specs.Ran.{Settled, output_slips}
use Rattle.tp_run.specs.Shown.{LeadsToOutputs}

both : {A : Type 0} (P : A → Type 0) (xs ys : List A) → AllByRecursion P xs → AllByRecursion P ys → AllByRecursion P (xs ++ ys)
both P [] ys one other = other
both P (x ∷ xs) ys one other = (one.0, both P xs ys one.1 other)

-- ## What is confirmed

entries_of : (port from count : ℕ) (bytes : List ℕ) → length bytes ≡ count
    → (if nat_le (from + count) from then [] else Confirm port (from + count) ∷ []) ≡ confirms port from bytes
entries_of port from count [] many = ap (λ test. cond test [] (Confirm port (from + count) ∷ [])) (le-leb (from + count) from (omega (arith, many)))
entries_of port from count (x ∷ xs) many =
    ap (λ test. cond test [] (Confirm port (from + count) ∷ [])) (lt-leb (from + count) from (omega (arith, many)))
    ∙ ap (λ n. Confirm port (from + n) ∷ []) (sym many)

length_shown : (b : BookValue) (port mark : ℕ) → length (marks_of b port) ≡ length (port_in b port).outputs
    → length (shown_from b port mark (port_in b port).out_base) ≡ shown_of b port mark
length_shown b port mark each =
    let from = (port_in b port).out_base in
    let none : from - from ≡ 0 = omega arith in
    let few = count_by-le-length (λ least. nat_le least mark) (marks_of b port) in
    ap (λ n. length (drop n (take (shown_of b port mark) (port_in b port).outputs))) none
    ∙ length-take-le (shown_of b port mark) (port_in b port).outputs (omega (arith, few, each))

-- the entry that confirms all that a mark shows confirms just what is shown
pub confirms_shown : (b : BookValue) (port mark : ℕ) → length (marks_of b port) ≡ length (port_in b port).outputs
    → confirm_entries b port (shown_upto_of b port mark) ≡ confirms port (port_in b port).out_base (shown_from b port mark (port_in b port).out_base)
confirms_shown b port mark each =
    entries_of port (port_in b port).out_base (shown_of b port mark) (shown_from b port mark (port_in b port).out_base) (length_shown b port mark each)

-- ## What is handed in

next_after : (b : BookValue) (port : ℕ) (bytes : List ℕ) → next_in_book (after_inputs b port bytes) ≡ next_in_book b + length (map (HostIn port) bytes)
next_after b port bytes = let long = length-append b.state.entries (map (HostIn port) bytes) in omega (arith, long)

pub rest_is : (b : BookValue) (outset : Outset) (input : List ℕ) → StandsIn outset b → input_rest b outset.port input ≡ rest_at outset input
rest_is b outset input S = ap (λ n. take n (drop (accepted_of (port_in b outset.port)) input)) S.2 ∙ ap (λ n. take outset.room (drop n input)) S.1

input_offered : (b new : BookValue) (outset : Outset) (input : List ℕ) (was now : List (ℕ × Entry)) (had has : List Entry) (receipt : ReceiptValue) → StandsIn outset b
    → new ≡ after_inputs b outset.port (input_rest b outset.port input) → receipt.number ≡ next_in_book new → IsFor (map (HostIn outset.port) (input_rest b outset.port input)) was now receipt
    → has ≡ had ++ map (HostIn outset.port) (input_rest b outset.port input) → IsForInput outset input was now had has receipt
input_offered b new outset input was now had has receipt S after number F handed =
    let bytes = input_rest b outset.port input in
    let rest = rest_is b outset input S in
    let next = ap next_in_book after in
    let many = next_after b outset.port bytes in
    let behind = F.number in
    let there = S.0 in
    let first : F.first ≡ outset.next = omega (arith, next, many, number, behind, there) in record {
      slips =
          F.slips ∙ ap (λ n. was ++ enumerate_from n (map (HostIn outset.port) bytes)) first
          ∙ ap (λ part. was ++ enumerate_from outset.next (map (HostIn outset.port) part)) rest;
      handed = handed ∙ ap (λ part. had ++ map (HostIn outset.port) part) rest;
      number =
          behind ∙ ap (λ n. n + length (map (HostIn outset.port) bytes)) first
          ∙ ap (λ n. outset.next + n) (length-map bytes (HostIn outset.port) ∙ ap length rest);
    }

-- the receipt of the rest of the input, if the port is as noted
pub offered_at : {E : Type 0} (b new : BookValue) (outset : Outset) (input : List ℕ) (was now : List (ℕ × Entry)) (had has : List Entry) (r : Result ReceiptValue E) → StandsIn outset b
    → IfOk r (λ receipt. new ≡ after_inputs b outset.port (input_rest b outset.port input)) → IfOk r (λ receipt. receipt.number ≡ next_in_book new)
    → IfOk r (IsFor (map (HostIn outset.port) (input_rest b outset.port input)) was now) → IfOk r (λ receipt. has ≡ had ++ map (HostIn outset.port) (input_rest b outset.port input))
    → IfOk r (IsForInput outset input was now had has)
offered_at b new outset input was now had has (Ok receipt) S after number F handed = input_offered b new outset input was now had has receipt S after number F handed
offered_at b new outset input was now had has (Err e) S after number F handed = tt

-- ## What is settled

-- the host's seat has what was handed in and, after it, what confirms what was printed; with what workers made that is all
pub host_settled : (start network : Network NodeState) (job : Job) (outset : Outset) (Are : ℕ → List ℕ → Type 0) (was now : Option (List ℕ)) (journal : List Entry) (next : ℕ) (handed host : List (ℕ × Entry)) (had has : List Entry) (receipt : ReceiptValue)
    → (O : IsForOutput outset.port outset.confirmed Are was now handed host had has receipt) → LeadsToOutputs start journal O.confirmed.first outset.port outset.confirmed O.printed → next ≡ receipt.number
    → SlipsStand journal host → Accounted network job journal outset.next next host → Settled start network job outset handed was now journal next
host_settled start network job outset Are was now journal next handed host had has receipt O shows is stand accounted =
    let F = O.confirmed in
    let number = F.number in record {
      printed = O.printed;
      appended = O.appended;
      number = F.first;
      last = is ∙ number;
      below =
          both (λ slip. slip.0 < next) handed (output_slips outset F.first O.printed) (below_more F.first next handed (omega (arith, is, number)) F.below)
          (enumerated_below F.first (confirms outset.port outset.confirmed O.printed) next (omega (arith, is, number)));
      stand = subst (SlipsStand journal) F.slips stand;
      shows = shows;
      accounted = subst (Accounted network job journal outset.next next) F.slips accounted;
    }
