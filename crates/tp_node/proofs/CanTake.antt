-- Which tokens the ends of a node's links can take.
use Rattle.std.proofs.Common.{◌≡◌, ℕ, ◌<◌, ◌≤◌, Bool, true, false, not, refl, sym, ap, ◌∙◌, Option, Some, None, IsSome, is_some, slice_get}
use Rattle.tp_node.proofs.Lower.{le-ltb, lt-ltb, Token, Data, Ack, Marker, OutEnd, NoOutput, Waits, InEnd, Idle, Inputs, Enabled, Arrival, IsNode, next_pointer, out_acked, in_arrived, byte_at, ◌>>=◌, took, waits, holds, waits_there, holds_there, NodeState, takes_data, takes_ack}

-- what is there, the test says to be there
there_is : {A : Type 0} (o : Option A) → IsSome o → is_some o ≡ true
there_is None h = h
there_is (Some x) h = h

-- an input end that holds a byte has no room for another
holding_takes_none : {B : Type 0} (byte : ℕ) (end : Option InEnd) (f : InEnd × Arrival → Option B) → holds_there end ≡ true → (end >>= λ e. in_arrived byte e >>= f) ≡ None
holding_takes_none byte None f h = cc
holding_takes_none byte (Some (Idle None)) f h = cc
holding_takes_none byte (Some (Idle (Some held))) f h = refl
holding_takes_none byte (Some (Inputs t)) f h = cc
holding_takes_none byte (Some (Enabled process)) f h = cc

-- an output end that doesn't wait has no use for an acknowledge
resting_takes_none : {B : Type 0} (next : OutEnd → Option ℕ) (end : Option OutEnd) (f : OutEnd × Arrival → Option B) → waits_there end ≡ false → (end >>= λ e. out_acked (next e) e >>= f) ≡ None
resting_takes_none next None f h = refl
resting_takes_none next (Some NoOutput) f h = refl
resting_takes_none next (Some (Waits t)) f h = cc

data_refused : (node : NodeState) (link byte : ℕ) → link < 4 → holds node link ≡ true → took node link (Data byte) ≡ None
unfolding took
data_refused node link byte below held = rw (lt-ltb link 4 below) (holding_takes_none byte (slice_get node.inputs link) _ held)

ack_refused : (node : NodeState) (link : ℕ) → link < 4 → waits node link ≡ false → took node link Ack ≡ None
unfolding took
ack_refused node link below resting = rw (lt-ltb link 4 below) (resting_takes_none (λ e. next_pointer e >>= byte_at node.memory) (slice_get node.outputs link) _ resting)

-- a node has four links
pub takes_at_links : (node : NodeState) (link : ℕ) (token : Token) → 4 ≤ link → false ≡ is_some (took node link token)
unfolding took
takes_at_links node link token past = rw (le-ltb link 4 past) refl

-- a byte is taken exactly if none is held
pub takes_byte : (node : NodeState) (link byte : ℕ) → IsNode node → link < 4 → not (holds node link) ≡ is_some (took node link (Data byte))
takes_byte node link byte N below = go (holds node link) refl
  where
    go : (b : Bool) → holds node link ≡ b → not (holds node link) ≡ is_some (took node link (Data byte))
    go false free = ap not free ∙ sym (there_is (took node link (Data byte)) (takes_data node link byte N below free))
    go true held = ap not held ∙ sym (ap is_some (data_refused node link byte below held))

-- an acknowledge is taken exactly if the end waits for one
pub takes_acknowledge : (node : NodeState) (link : ℕ) → IsNode node → link < 4 → waits node link ≡ is_some (took node link Ack)
takes_acknowledge node link N below = go (waits node link) refl
  where
    go : (b : Bool) → waits node link ≡ b → waits node link ≡ is_some (took node link Ack)
    go true waiting = waiting ∙ sym (there_is (took node link Ack) (takes_ack node link N below waiting))
    go false resting = resting ∙ sym (ap is_some (ack_refused node link below resting))

pub takes_no_marker : (node : NodeState) (link : ℕ) → link < 4 → false ≡ is_some (took node link Marker)
unfolding took
takes_no_marker node link below = rw (lt-ltb link 4 below) refl
