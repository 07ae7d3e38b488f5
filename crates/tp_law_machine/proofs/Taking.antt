-- A node that has an image can take each token that its ends wait for.
use Rattle.std.proofs.Common.{◌≡◌, ℕ, ◌+◌, ◌^◌, ◌<◌, ◌≤◌, Bool, true, false, cond, List, length, set, get_or, refl, sym, arith, Option, Some, None, IsSome, slice_get}
use Rattle.std.specs.Prelude.{◌==◌, nat_le}
use Rattle.tp_law_machine.proofs.Lower.{option_map, lt-ltb, leb-true, and_parts, ne_eqb, true≢false, slice_get-get_or, Token, Data, Ack, Transfer, OutEnd, NoOutput, Waits, InEnd, Idle, Inputs, Enabled, Arrival, Nobody, Process, offset, byte_at, is_inside, is_out_end, is_in_end, IsNode, is_waiting, is_holding, advanced, has_more, next_pointer, out_acked, in_arrived, NodeState, ◌>>=◌, on_link, tell, placed, took, waits, holds}
use Rattle.tp_law_machine.proofs.Imaged.{rules_of, pages_hold}
use Rattle.tp_law_machine.proofs.LinkMessages.{advanced_inside}
use Rattle.tp_law_machine.proofs.Partial.{list_all_at}

data_taken : (node : NodeState) (k byte : ℕ) (end : InEnd) → is_holding end ≡ false → is_in_end node.memory end ≡ true
    → IsSome {T = NodeState × List (ℕ × Token)} (in_arrived byte end >>= λ arrived. placed arrived.1.place byte node.memory >>= λ memory. Some (tell arrived.1.news (record node { memory = memory; inputs = set node.inputs k arrived.0 }), on_link k arrived.1.token))
data_taken node k byte (Idle None) free inside = refl
data_taken node k byte (Idle (Some held)) free inside = absurd (true≢false free)
data_taken node k byte (Inputs t) free inside =
    let parts = and_parts (nat_le 1 t.left) (is_inside node.memory t.pointer t.left) inside in
    let one : 1 ≤ t.left = leb-true 1 t.left parts.0 in
    let some : (t.left == 0) ≡ false = ne_eqb t.left 0 (λ e. omega arith) in
    let within : offset t.pointer + t.left ≤ length node.memory = leb-true (offset t.pointer + t.left) (length node.memory) (rw some at parts.1) in
    rw (lt-ltb (offset t.pointer) (length node.memory) (omega arith)) refl
data_taken node k byte (Enabled process) free inside = refl

-- what is answered to an Ack, by whether more is left
abbrev next_out : Transfer → Bool → Option ℕ → Option (OutEnd × Arrival)
next_out t more next =
    cond more (option_map (λ byte. (Waits (advanced t), record { token = Some (Data byte); place = None; news = Nobody })) next)
    (Some (NoOutput, record { token = None; place = None; news = Process t.process }))

ack_taken : (node : NodeState) (k : ℕ) (end : OutEnd) → length node.memory ≤ 2 ^ 32 → is_waiting end ≡ true → is_out_end node.memory end ≡ true
    → IsSome {T = NodeState × List (ℕ × Token)} (out_acked (next_pointer end >>= byte_at node.memory) end >>= λ arrived. Some (tell arrived.1.news (record node { outputs = set node.outputs k arrived.0 }), on_link k arrived.1.token))
ack_taken node k NoOutput small stands inside = absurd (true≢false (sym stands))
ack_taken node k (Waits t) small stands inside = go (has_more t) refl
  where
    go : (b : Bool) → has_more t ≡ b
        → IsSome {T = NodeState × List (ℕ × Token)} (next_out t b (cond b (Some (advanced t).pointer) None >>= byte_at node.memory)
        >>= λ arrived. Some (tell arrived.1.news (record node { outputs = set node.outputs k arrived.0 }), on_link k arrived.1.token))
    go true more =
        let within = (advanced_inside node.memory t small inside more).1 in
        rw (slice_get-get_or node.memory (offset (advanced t).pointer) 0 within) refl
    go false none = refl

pub takes_data : (node : NodeState) (k byte : ℕ) → IsNode node → k < 4 → holds node k ≡ false → IsSome (took node k (Data byte))
unfolding took
takes_data node k byte N link free =
    let there : slice_get node.inputs k ≡ Some (get_or node.inputs k (Idle None)) = slice_get-get_or node.inputs k (Idle None) (omega (arith, N.links.1)) in
    let inside = list_all_at (is_in_end node.memory) node.inputs k (get_or node.inputs k (Idle None)) (rules_of node N.keeps).inputs there in
    let empty : is_holding (get_or node.inputs k (Idle None)) ≡ false = rw there at free in
    rw (lt-ltb k 4 link, there) (data_taken node k byte (get_or node.inputs k (Idle None)) empty inside)

pub takes_ack : (node : NodeState) (k : ℕ) → IsNode node → k < 4 → waits node k ≡ true → IsSome (took node k Ack)
unfolding took
takes_ack node k N link waiting =
    let there : slice_get node.outputs k ≡ Some (get_or node.outputs k NoOutput) = slice_get-get_or node.outputs k NoOutput (omega (arith, N.links.0)) in
    let R = rules_of node N.keeps in
    let inside = list_all_at (is_out_end node.memory) node.outputs k (get_or node.outputs k NoOutput) R.outputs there in
    let stands : is_waiting (get_or node.outputs k NoOutput) ≡ true = rw there at waiting in
    rw (lt-ltb k 4 link, there) (ack_taken node k (get_or node.outputs k NoOutput) (pages_hold node.memory R.memory).small stands inside)
