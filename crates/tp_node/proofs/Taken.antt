-- A token that is taken, by its parts.
use Rattle.std.proofs.Common.{◌≡◌, ℕ, List, set, Option, Some, None, IsSome, Err, refl, sym, true≢false}
use Rattle.std.specs.Prelude.{Ok}
use Rattle.tp_node.proofs.Lower.{slice_get, byte_at, NodeState, ◌>>=◌, next_pointer, out_acked, in_arrived, on_link, tell, placed, took_token, Cpu, Token, Data, Ack, OutEnd, InEnd, Arrival, News, place_range, tell_ranges, took_ranges}
use Rattle.tp_node.specs.declared.fault.NoFrame.{NoFrame}
use Rattle.tp_node.specs.declared.first.First.{First}
use Rattle.tp_node.specs.First.{first_stored, put_ranges, then_put}
use Rattle.tp_node.specs.Hears.{with_both}
use Rattle.tp_node.specs.Takes.{Takes}

-- what the token tells, from the memory that its byte leaves
told : (written : Option (List ℕ)) (node : NodeState) (k : ℕ) (token : Option Token) (news : News) (cause : Type 0) (before : NodeState) (cpu : Cpu) (now : List ℕ)
    → IsSome {T = NodeState × List (ℕ × Token)} (written >>= λ memory. Some (tell news (record node { memory = memory }), on_link k token))
    → ((other : NodeState) (memory : List ℕ) → written ≡ Some memory → tell news (with_both node.cpu memory other) ≡ with_both cpu now other)
    → Takes (written >>= λ memory. Some (tell news (record node { memory = memory }), on_link k token)) cause k before (Ok token) (with_both cpu now node)
told None node k token news cause before cpu now can hears = absurd (cc)
told (Some memory) node k token news cause before cpu now can hears = (sym (hears node memory refl), refl)

pub data_taken : (node : NodeState) (k byte : ℕ) (end new : InEnd) (arrival : Arrival) (cause : Type 0) (cpu : Cpu) (now : List ℕ)
    → slice_get node.inputs k ≡ Some end → in_arrived byte end ≡ Some (new, arrival)
    → IsSome (took_token node k (Data byte))
    → ((other : NodeState) (memory : List ℕ) → placed arrival.place byte node.memory ≡ Some memory → tell arrival.news (with_both node.cpu memory other) ≡ with_both cpu now other)
    → Takes (took_token node k (Data byte)) cause k node (Ok arrival.token) (record node { cpu = cpu; memory = now; inputs = set node.inputs k new })
data_taken node k byte end new arrival cause cpu now there arrived can hears =
    rw (there, arrived)
    (told (placed arrival.place byte node.memory) (record node { inputs = set node.inputs k new }) k arrival.token arrival.news cause node cpu now (rw (there, arrived) at can) hears)

pub ack_taken : (node : NodeState) (k : ℕ) (end new : OutEnd) (arrival : Arrival) (cause : Type 0) (cpu : Cpu) (now : List ℕ)
    → slice_get node.outputs k ≡ Some end → out_acked (next_pointer end >>= byte_at node.memory) end ≡ Some (new, arrival)
    → ((other : NodeState) (memory : List ℕ) → Some node.memory ≡ Some memory → tell arrival.news (with_both node.cpu memory other) ≡ with_both cpu now other)
    → Takes (took_token node k Ack) cause k node (Ok arrival.token) (record node { cpu = cpu; memory = now; outputs = set node.outputs k new })
ack_taken node k end new arrival cause cpu now there arrived hears =
    rw (there, arrived) (sym (hears (record node { outputs = set node.outputs k new }) node.memory refl), refl)

-- a token that isn't taken, which has a cause and changes nothing
pub not_taken : (o : Option (NodeState × List (ℕ × Token))) (cause : Type 0) (k : ℕ) (before now : NodeState) (e : NoFrame) → IsSome o → cause → now ≡ before → Takes o cause k before (Err e) now
not_taken None cause k before now e can so same = absurd (true≢false (sym can))
not_taken (Some after) cause k before now e can so same = (so, same)

pub same_node : (node : NodeState) (cpu : Cpu) (memory : List ℕ) → cpu ≡ node.cpu → memory ≡ node.memory → ◌≡◌ {A = NodeState} (record node { cpu = cpu; memory = memory }) node
same_node node cpu memory same_cpu same_memory = rw (same_cpu, same_memory) refl

-- what a token writes, by its parts
pub data_ranges : (node : NodeState) (k byte : ℕ) (end new : InEnd) (arrival : Arrival) (first : First) → slice_get node.inputs k ≡ Some end → in_arrived byte end ≡ Some (new, arrival)
    → ((memory : List ℕ) → first_stored first memory ≡ placed arrival.place byte memory) → put_ranges first ≡ place_range arrival.place
    → took_ranges node k (Data byte) ≡ then_put first node.memory (tell_ranges arrival.news node.cpu)
unfolding took_ranges
data_ranges node k byte end new arrival first there arrived stored ranges = rw (there, arrived, stored node.memory, ranges) refl

pub ack_ranges : (node : NodeState) (k : ℕ) (end new : OutEnd) (arrival : Arrival) → slice_get node.outputs k ≡ Some end
    → out_acked (next_pointer end >>= byte_at node.memory) end ≡ Some (new, arrival) → took_ranges node k Ack ≡ tell_ranges arrival.news node.cpu node.memory
unfolding took_ranges
ack_ranges node k end new arrival there arrived = rw (there, arrived) refl
