-- What sessions do in one hold of the book's lock.
use Rattle.std.proofs.Common.{◌≡◌, ◌<◌, ◌⊎◌, ℕ, ◌+◌, Bool, true, false, inl, inr, List, [], ◌∷◌, ◌++◌, length, Result, Err, sym, ap, subst, ◌∙◌, append_assoc}
use Rattle.std.specs.Prelude.{if◌then◌else◌, nat_le, Ok, IfOk, OnErr, Vec, vec_len}
use Rattle.tp_work.proofs.Lower.{append-nil, enumerate_from, Entry, Confirm, confirm_entries, port_in, NodeState, Network, BookValue, next_in_book, shown_from, ShowsUpto, AreBelow, HoldNoted, ReceiptValue, IsTied, Stage, Global}
use Rattle.tp_work.specs.Sessions.{DidJust, HasPort, ShowsJust}
use Rattle.tp_work.specs.declared.host_fault.ShownFault.{ShownFault}

-- the port is there
pub has_port : (start : Network NodeState) (port : ℕ) (b : BookValue) → length b.state.start.nodes ≡ length start.nodes → length b.state.ports ≡ length start.ports → port < length start.ports
    → HasPort start port b
has_port start port b nodes ports there = record { nodes = nodes; ports = ports; there = subst (λ n. port < n) (sym ports) there }

-- the book was seen as it was found and as it was left
pub seen_twice : (old between new : List BookValue) (found left : BookValue) → between ≡ old ++ found ∷ [] → new ≡ between ++ left ∷ [] → new ≡ old ++ found ∷ left ∷ []
seen_twice old between new found left before behind = behind ∙ ap (λ xs. xs ++ left ∷ []) before ∙ append_assoc old (found ∷ []) (left ∷ [])

-- what is shown of a book
pub shows_just : (b : BookValue) (port mark from : ℕ) (r : Result (Vec ℕ Global) ShownFault) → IfOk r (λ bytes. bytes.items ≡ shown_from b port mark from) → IfOk r (λ bytes. ShowsUpto b port mark (from + vec_len bytes))
    → ShowsJust b port mark from r
shows_just b port mark from (Ok bytes) is upto = (is, upto)
shows_just b port mark from (Err fault) is upto = tt

-- what was noted in the hold has the numbers that the book gave
pub did_just : {F : Type 0} (More : Type 0) (r : Result ReceiptValue F) (first : ℕ) (found left : Stage) (made : BookValue) (given : ReceiptValue) (entries : List Entry) (old new : List (ℕ × Entry)) → IfOk r (λ receipt. left.book ≡ made)
    → IfOk r (λ receipt. receipt ≡ given) → IfOk r (λ receipt. receipt.number ≡ next_in_book left.book) → IfOk r (λ receipt. HoldNoted (λ es. es ≡ entries) first found left old new)
    → OnErr r ((left ≡ found) × (new ≡ old) × More) → IsTied first found.all found.book → DidJust found.book left.book made given entries r old new
did_just More (Ok receipt) first found left made given entries old new book is number noted err tied = (
  book,
  is,
  number,
  noted.seat ∙ ap (λ n. old ++ enumerate_from n noted.entries) tied.next ∙ ap (λ es. old ++ enumerate_from (next_in_book found.book) es) noted.are,
  subst (λ n. AreBelow n old) tied.next noted.below,
)
did_just More (Err fault) first found left made given entries old new book is number noted err tied = (ap (λ (s : Stage). s.book) err.0, err.1)

confirmed_if : (before : Bool) (port upto : ℕ) (old new : List Entry) → new ≡ old ++ (if before then [] else Confirm port upto ∷ []) → (new ≡ old) ⊎ (new ≡ old ++ Confirm port upto ∷ [])
confirmed_if true port upto old new is = inl (is ∙ append-nil old)
confirmed_if false port upto old new is = inr is

-- what the host hands in as it confirms outputs is one entry, or none
pub handed_confirmed : {A F : Type 0} (r : Result A F) (b : BookValue) (port upto : ℕ) (old new : List Entry) → IfOk r (λ receipt. new ≡ old ++ confirm_entries b port upto)
    → IfOk r (λ receipt. (new ≡ old) ⊎ (new ≡ old ++ Confirm port upto ∷ []))
handed_confirmed (Ok receipt) b port upto old new is = confirmed_if (nat_le upto (port_in b port).out_base) port upto old new is
handed_confirmed (Err fault) b port upto old new is = tt
