-- The rule of the queue: each number is in it or with one pass.
use Rattle.std.specs.Prelude.{◌≡◌, ◌≢◌, ℕ, zero, suc, ◌+◌, ◌≤◌, ◌==◌, if◌then◌else◌, true, false, List, [], ◌∷◌, ◌++◌, length, sum_by}
use mathlib.Core.Option.{some}
use lib.ListN.{get_elem?}
use Rattle.tp_ready.specs.Past.{Past, waiting_numbers, IsLegal, calls_by, first_claims}
use Rattle.tp_ready.specs.declared.call.Call.{Call}
use Rattle.tp_ready.specs.declared.call.Claim.{Claim}
use Rattle.tp_ready.specs.declared.view.View.{View}

-- the pass that makes the numbers and gives hands out, and how many of both it has made
abbrev pub maker : ℕ → ℕ → View
maker count hands = record { knows = true; makes = true; count = count; hands = hands; claims = first_claims hands; held = []; seen = [] }

-- a pass that is these hands, the numbers that it holds, and the calls that it has seen
abbrev pub holder : ℕ → ℕ → List Claim → List ℕ → List Call → View
holder count hands claims held seen = record { knows = true; makes = false; count = count; hands = hands; claims = claims; held = held; seen = seen }

abbrev pub nobody : View
nobody = record { knows = false; makes = false; count = 0; hands = 0; claims = []; held = []; seen = [] }

-- what the hands of a pass have seen and called
abbrev pub past_of : View → Past
past_of v = record { claims = v.claims; seen = v.seen }

-- the weights of the numbers below n, added up
abbrev pub sum_below : (ℕ → ℕ) → ℕ → ℕ
sum_below h zero = 0
sum_below h (suc n) = sum_below h n + h n

-- the weights of the numbers of a pass's hands, added up
abbrev pub claimed : (ℕ → ℕ) → View → ℕ
claimed h v = sum_by (λ (claim : Claim). h claim.who) v.claims

-- A pass that knows the counts has them right, and it holds at most as many numbers as it is hands.
abbrev pub HoldsAtMost : ℕ → ℕ → View → Type 0
HoldsAtMost count hands v = (v.knows ≡ true → (v.count ≡ count) × (v.hands ≡ hands)) × (length v.held ≤ length v.claims)

-- no other pass knows the counts
abbrev pub AloneKnows : List View → ℕ → Type 0
AloneKnows views pass = (other : ℕ) (v : View) → get_elem? views other ≡ some v → other ≢ pass → v.knows ≡ false

-- each hand made the calls that it is said to have made
abbrev pub AreMine : List Call → List Claim → Type 0
AreMine log [] = Unit {0}
AreMine log (claim ∷ claims) = (calls_by claim.who log ≡ claim.calls) × AreMine log claims

-- A pass has seen all calls but the newer ones, and knows all that its hands called. While it makes numbers or hands there is none.
pub record HasSeenCalls (log : List Call) (v : View) : Type 0 where
  pub newer : List Call
  pub seen : log ≡ newer ++ v.seen
  pub mine : AreMine log v.claims
  pub makes : v.makes ≡ true → log ≡ []

-- All calls have one order. What is in the queue is what waits after them, each number that was taken waited longest then, and only hands
-- made them.
pub record Logged (count hands : ℕ) (items : List ℕ) (views : List View) : Type 0 where
  pub log : List Call
  pub waits : waiting_numbers count log ≡ items
  pub legal : IsLegal count log
  pub saw : (pass : ℕ) (v : View) → get_elem? views pass ≡ some v → HasSeenCalls log v
  pub known : (by : ℕ) → hands ≤ by → calls_by by log ≡ []

-- What is in the queue and what is held are together the numbers below the count, each once, whatever their weights. All passes together
-- are the hands, each once. While one makes numbers or hands no other knows how many there are. All calls account for what is in the queue.
abbrev pub Dealt : List ℕ → List View → Type 0
Dealt items views =
    (count : ℕ)
    × (hands : ℕ)
    × ((h : ℕ → ℕ) → sum_by h items + sum_by (λ (v : View). sum_by h v.held) views ≡ sum_below h count)
    × ((h : ℕ → ℕ) → sum_by (claimed h) views ≡ sum_below h hands)
    × ((pass : ℕ) (v : View) → get_elem? views pass ≡ some v → HoldsAtMost count hands v)
    × ((pass : ℕ) (v : View) → get_elem? views pass ≡ some v → v.makes ≡ true → AloneKnows views pass)
    × Logged count hands items views

-- the weight of a number that counts only x
abbrev pub one_at : ℕ → ℕ → ℕ
one_at x y = if y == x then 1 else 0

-- no number is in the list twice
abbrev pub AreDistinct : List ℕ → Type 0
AreDistinct xs = (x : ℕ) → sum_by (one_at x) xs ≤ 1

-- With what the pass holds, there are at most as many items as numbers. Other hands have what is neither there nor with the pass.
abbrev pub AreFew : View → List ℕ → Type 0
AreFew v items = (length items + length v.held ≤ v.count) × (v.count + length v.claims ≤ length items + length v.held + v.hands)
