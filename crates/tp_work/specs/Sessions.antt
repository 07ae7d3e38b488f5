-- What a session's calls found and did, in books that were seen under their lock.
use Rattle.std.specs.Prelude.{◌≡◌, ◌<◌, ◌≤◌, ℕ, ◌+◌, List, [], ◌∷◌, ◌++◌, length, map, Result, Ok, Err, IsOk, Vec, vec_len}
use Rattle.tp_work.specs.Lower.{Global, enumerate_from, Entry, HostIn, NodeState, Network, confirm_entries, BookValue, next_in_book, after_confirm, after_inputs, accepted_of, port_in, shown_from, ShowsUpto, ReceiptValue, confirm_receipt, input_receipt, AreBelow, InHand}
use Rattle.tp_work.specs.Answers.{RefusesFor}
use Rattle.tp_work.specs.Offers.{offer_fault}
use Rattle.tp_work.specs.Outputs.{confirm_fault, shown_fault}
use Rattle.tp_work.specs.declared.host_fault.ConfirmFault.{ConfirmFault}
use Rattle.tp_work.specs.declared.host_fault.ConfirmFault.TheVariants.{Memory as NoMemoryToConfirm}
use Rattle.tp_work.specs.declared.host_fault.OfferFault.{OfferFault}
use Rattle.tp_work.specs.declared.host_fault.OfferFault.TheVariants.{Memory as NoMemoryToOffer}
use Rattle.tp_work.specs.declared.host_fault.ShownFault.{ShownFault}
use Rattle.tp_work.specs.declared.host_fault.ShownFault.TheVariants.{Memory as NoMemoryToShow}

-- A book with the network's numbers of nodes and ports. The session's port is among these.
pub record HasPort (start : Network NodeState) (port : ℕ) (b : BookValue) : Type 0 where
  pub nodes : length b.state.start.nodes ≡ length start.nodes
  pub ports : length b.state.ports ≡ length start.ports
  pub there : port < length b.state.ports

-- ## Outputs that are shown

-- the outputs of the port from a position on that the mark shows, all of them and no others
abbrev pub ShowsJust : BookValue → ℕ → ℕ → ℕ → Result (Vec ℕ Global) ShownFault → Type 0
ShowsJust b port mark from (Ok bytes) = (bytes.items ≡ shown_from b port mark from) × ShowsUpto b port mark (from + vec_len bytes)
ShowsJust b port mark from (Err fault) = Unit {0}

-- The book was seen once, after all that was seen before. The answer is exactly what the mark shows in it, or the first reason why the mark
-- doesn't reach the position. Or memory is out.
pub record ShownIn (start : Network NodeState) (port mark from : ℕ) (answer : Result (Vec ℕ Global) ShownFault) (old new : List BookValue) : Type 0 where
  pub found : BookValue
  pub seen : new ≡ old ++ found ∷ []
  pub has : HasPort start port found
  pub exact : RefusesFor NoMemoryToShow (shown_fault found port mark from) answer
  pub shows : ShowsJust found port mark from answer

-- ## What is journalled

-- The call made from the book that was found this book and this receipt, whose number is the next one. The seat got the slips of exactly
-- these entries, under the numbers that the book gave them, which are above all that it had. If the call fails, the book is left as it was
-- found, and the seat as it was.
abbrev pub DidJust : {F : Type 0} → BookValue → BookValue → BookValue → ReceiptValue → List Entry → Result ReceiptValue F → List (ℕ × Entry) → List (ℕ × Entry) → Type 0
DidJust found left made given entries (Ok receipt) old new =
    (left ≡ made) × (receipt ≡ given) × (receipt.number ≡ next_in_book left) × (new ≡ old ++ enumerate_from (next_in_book found) entries) × AreBelow (next_in_book found) old
DidJust found left made given entries (Err fault) old new = (left ≡ found) × (new ≡ old)

-- The book was seen as it was found and as it was left, after all that was seen before. The bytes were handed to the port, or the call
-- failed for the first reason that is true of the book that was found. Memory can be out only if no reason is true and there are bytes.
pub record OfferedIn (start : Network NodeState) (port at : ℕ) (bytes : List ℕ) (answer : Result ReceiptValue OfferFault) (old new : InHand) : Type 0 where
  pub found : BookValue
  pub left : BookValue
  pub seen : new.seen ≡ old.seen ++ found ∷ left ∷ []
  pub has : HasPort start port found
  pub exact : RefusesFor NoMemoryToOffer (offer_fault found port at (length bytes)) answer
  pub nothing : length bytes ≡ 0 → at ≡ accepted_of (port_in found port) → IsOk answer
  pub did : DidJust found left (after_inputs found port bytes) (input_receipt found port bytes) (map (HostIn port) bytes) answer old.slips new.slips

-- The book was found and left like this as outputs of the port were confirmed up to `upto`. The call fails if the mark doesn't show them.
-- If they were confirmed before, it succeeds, and nothing is done.
pub record ConfirmedIn (start : Network NodeState) (port mark upto : ℕ) (answer : Result ReceiptValue ConfirmFault) (old new : InHand) : Type 0 where
  pub found : BookValue
  pub left : BookValue
  pub seen : new.seen ≡ old.seen ++ found ∷ left ∷ []
  pub has : HasPort start port found
  pub exact : RefusesFor NoMemoryToConfirm (confirm_fault found port mark upto) answer
  pub nothing : upto ≤ (port_in found port).out_base → IsOk answer
  pub did : DidJust found left (after_confirm found port upto) (confirm_receipt found port upto) (confirm_entries found port upto) answer old.slips new.slips
