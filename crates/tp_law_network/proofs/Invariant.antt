-- What holds at each moment of a run.
use Rattle.std.proofs.Common.{◌≡◌, ℕ, ◌≤◌, List, [], ◌++◌, Some}
use Rattle.tp_law_network.proofs.Lower.{AllByRecursion, Entry, Machine, Network, after, MayBe, Areas, Held, Position, Resting, Body, Ready, Gate, Cleared, Tail, Opening, Opened, Broken, World, HasOrder}
use Rattle.tp_law_network.specs.Invariant.{CutInvariant}
use Rattle.tp_law_network.specs.Standing.{RestsBetweenGroups, Bodied, Readied, Gated, Clearing, Switching}
use Rattle.tp_law_network.proofs.Prefix.{Stands, Kept, Copied, held_of}

-- The bytes are read well, and what they hold leads where a prefix of the journal leads.
pub record Reads {Node : Type 0} (M : Machine Node) (A : Areas Node) (start : Network Node) (journal : List Entry) (least : ℕ) (left : List ℕ) : Type 0 where
  pub held : Held Node
  pub is : A.verdict left ≡ Some held
  pub stands : Stands M start journal least held

abbrev pub KeptOf : {Node : Type 0} → Machine Node → Network Node → World Node → Type 0
KeptOf M start w = Kept M start w.net.start w.net.entries w.base w.journal w.stored w.backlog

abbrev pub CopiedOf : {Node : Type 0} → Machine Node → Network Node → World Node → Held Node → ℕ → Type 0
CopiedOf M start w copy upto = Copied M start w.net.start w.net.entries w.base w.journal w.stored w.net.snapshot copy upto

-- the kept entries, and what the device is for what it holds by them
abbrev pub WithKept : {Node : Type 0} → Machine Node → Network Node → World Node → (Held Node → Type 0) → Type 0
WithKept M start w P = (K : KeptOf M start w) × P (held_of w.net.start K.tail K.durable w.base)

abbrev pub BeginsWith : List Entry → List Entry → Type 0
BeginsWith es backlog = (more : List Entry) × (backlog ≡ es ++ more)

-- What holds of the device, and of the entries on it, at each position of the flusher. While the copy of a tail is kept, nothing of the
-- book is copied. After the other area's gate is synced, the device holds the copy.
abbrev pub At : {Node : Type 0} → Machine Node → Areas Node → Network Node → World Node → Position Node → Type 0
At M A start w Resting = WithKept M start w (λ h. RestsBetweenGroups A h w.disk)
At M A start w (Body place es) = WithKept M start w (λ h. Bodied A h w.disk place es) × BeginsWith es w.backlog
At M A start w (Ready place es) = WithKept M start w (λ h. Readied A h w.disk place es) × BeginsWith es w.backlog
At M A start w (Gate place es) = WithKept M start w (λ h. Gated A h w.disk place es) × BeginsWith es w.backlog
At M A start w Cleared = WithKept M start w (λ h. Clearing A h w.disk)
At M A start w (Tail copy upto) = WithKept M start w (λ h. RestsBetweenGroups A h w.disk) × CopiedOf M start w copy upto × (w.backlog ≡ [])
At M A start w (Opening copy upto) = WithKept M start w (λ h. Switching A h w.disk copy) × CopiedOf M start w copy upto × (w.backlog ≡ [])
At M A start w (Opened copy upto) = (A.verdict w.disk.bytes ≡ Some copy) × (w.disk.unsynced ≡ []) × CopiedOf M start w copy upto × (w.backlog ≡ []) × (w.stored ≡ upto)
At M A start w Broken = (left : List ℕ) → MayBe w.disk left → Reads M A start w.journal w.stored left

-- The marker argument holds of the network with its book. The book's entries lead where the journal leads, and with the entries in the kept
-- cut they are an order of it. The mark is at most what the synced gates reach, and each mark that was read is at most the mark.
pub record Inv {Node : Type 0} (M : Machine Node) (A : Areas Node) (start : Network Node) (w : World Node) : Type 0 where
  pub net : CutInvariant M w.net
  pub agree : after M w.net.start w.net.entries ≡ after M start w.journal
  pub order : HasOrder M start w.journal w.net.start w.net.entries w.base
  pub mark : w.mark ≤ w.stored
  pub seen : AllByRecursion (λ r. r ≤ w.mark) w.seen
  pub at : At M A start w w.at
