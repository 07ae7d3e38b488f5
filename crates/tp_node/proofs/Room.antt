-- How many tokens a node can send: one for each output end that waits for no acknowledge, and one for each input end that holds a byte. A
-- step that sends takes one such end away, and no step adds one.
use Rattle.std.proofs.Common.{◌≡◌, ℕ, ◌+◌, ◌≤◌, Bool, true, false, not, cond, List, [], ◌∷◌, length, set, get_or, Option, Some, None, is_some, refl, subst, arith, rules}
use Rattle.tp_node.proofs.Lower.{slice_get, sum_by, sum_by-set, sum_by-cons, slice_get_within, get_or_from_slice_get, bit, NodeState, is_waiting, is_holding, in_enabled, in_disabled, descriptor_of, past, LinkOutcome, Did, Fails, begin_output, enabled, disabled, begin_input, Outcome, Next, Halts, Rests, Sends, Receives, step_of, on_link, halted, after_output, after_input, ended, node_step, Cpu, Token, OutEnd, OutIdle, Waits, InEnd, Idle, Inputs, Enabled, OutRequest, Wish, Message, Enable, Disable, bit_small, is_holding-filled, bind_some}
use Rattle.tp_model.specs.LinkStep.{◌>>=◌}

-- an end may send a token
abbrev pub can_send : OutEnd → ℕ
can_send end = bit (not (is_waiting end))

abbrev pub can_acknowledge : InEnd → ℕ
can_acknowledge end = bit (is_holding end)

abbrev pub room : NodeState → ℕ
room n = sum_by can_send n.outputs + sum_by can_acknowledge n.inputs

-- what leaves, and what may leave after it, is at most what it was before
abbrev pub Within : {End : Type 0} → (End → ℕ) → ℕ → LinkOutcome End → Type 0
Within f most (Did cpu memory end token) = bit (is_some token) + f end ≤ most
Within f most (Fails fault) = Unit {0}

-- parts that lead there
within_found : {A End : Type 0} (f : End → ℕ) (most : ℕ) (o : Option A) (rest : A → LinkOutcome End) → ((x : A) → Within f most (rest x)) → Within f most (o >>= rest)
within_found f most None rest each = tt
within_found f most (Some x) rest each = each x

within_either : {End : Type 0} (f : End → ℕ) (most : ℕ) (b : Bool) (x y : LinkOutcome End) → Within f most x → Within f most y → Within f most (cond b x y)
within_either f most true x y left right = left
within_either f most false x y left right = right

output_within : (request : OutRequest) (end : OutEnd) (cpu : Cpu) (memory : List ℕ) → Within can_send (can_send end) (begin_output request end cpu memory)
output_within request OutIdle cpu memory = search (rules, within_found, within_either)
output_within request (Waits t) cpu memory = search (rules, within_found, within_either)

-- a guard leaves what the end holds, and sends nothing
enabled_within : (most : ℕ) (guarded : Option (InEnd × Bool)) (cpu : Cpu) (memory : List ℕ) → ((after : InEnd × Bool) → guarded ≡ Some after → can_acknowledge after.0 ≤ most)
    → Within can_acknowledge most (enabled guarded cpu memory)
enabled_within most None cpu memory kept = tt
enabled_within most (Some after) cpu memory kept = let same = kept after refl in search (rules, within_found, within_either)

disabled_within : (most : ℕ) (guarded : Option (InEnd × Bool)) (cpu : Cpu) (memory : List ℕ) → ((after : InEnd × Bool) → guarded ≡ Some after → can_acknowledge after.0 ≤ most)
    → Within can_acknowledge most (disabled guarded cpu memory)
disabled_within most None cpu memory kept = tt
disabled_within most (Some after) cpu memory kept = let same = kept after refl in search (rules, within_found, within_either)

enabled_keeps : (process : ℕ) (end : InEnd) (after : InEnd × Bool) → in_enabled process end ≡ Some after → can_acknowledge after.0 ≤ can_acknowledge end
enabled_keeps process (Idle None) after is = grind arith
enabled_keeps process (Idle (Some byte)) after is = grind arith
enabled_keeps process (Inputs t) after is = absurd (cc)
enabled_keeps process (Enabled other) after is = grind arith

disabled_keeps : (process : ℕ) (end : InEnd) (after : InEnd × Bool) → in_disabled process end ≡ Some after → can_acknowledge after.0 ≤ can_acknowledge end
disabled_keeps process (Idle None) after is = grind arith
disabled_keeps process (Idle (Some byte)) after is = grind arith
disabled_keeps process (Inputs t) after is = absurd (cc)
disabled_keeps process (Enabled other) after is = grind arith

input_within : (wish : Wish) (end : InEnd) (cpu : Cpu) (memory : List ℕ) → Within can_acknowledge (can_acknowledge end) (begin_input wish end cpu memory)
input_within (Message pointer count) (Idle None) cpu memory = search (rules, within_found, within_either)
input_within (Message pointer count) (Idle (Some byte)) cpu memory = search (rules, within_found, within_either, is_holding-filled)
input_within (Message pointer count) (Inputs t) cpu memory = search (rules, within_either)
input_within (Message pointer count) (Enabled process) cpu memory = search (rules, within_either)
input_within Enable end cpu memory = enabled_within (can_acknowledge end) (in_enabled (descriptor_of cpu) end) cpu memory (enabled_keeps (descriptor_of cpu) end)
input_within Disable end cpu memory = disabled_within (can_acknowledge end) (in_disabled (descriptor_of cpu) end) cpu memory (disabled_keeps (descriptor_of cpu) end)

length-on_link : (k : ℕ) (token : Option Token) → length (on_link k token) ≡ bit (is_some token)
length-on_link k None = refl
length-on_link k (Some token) = refl

-- one end takes the place of another one in a list of ends
room-set : {End : Type 0} (f : End → ℕ) (ends : List End) (k sent : ℕ) (end new : End) → slice_get ends k ≡ Some end → sent + f new ≤ f end → sent + sum_by f (set ends k new) ≤ sum_by f ends
room-set f ends k sent end new there less =
    let here : get_or ends k end ≡ end = get_or_from_slice_get ends k end end there in
    let moved : sum_by f (set ends k new) + f end ≡ sum_by f ends + f new = rw here at (sum_by-set f ends k new end (slice_get_within ends k end there)) in
    omega arith

after_output_within : (k : ℕ) (outcome : LinkOutcome OutEnd) (node : NodeState) (end : OutEnd) → slice_get node.outputs k ≡ Some end → Within can_send (can_send end) outcome
    → length (after_output k outcome node).1 + room (after_output k outcome node).0 ≤ room node
after_output_within k (Did cpu memory new token) node end there less =
    let kept = room-set can_send node.outputs k (bit (is_some token)) end new there less in
    omega (arith, length-on_link k token)
after_output_within k (Fails fault) node end there less = omega arith

after_input_within : (k : ℕ) (outcome : LinkOutcome InEnd) (node : NodeState) (end : InEnd) → slice_get node.inputs k ≡ Some end → Within can_acknowledge (can_acknowledge end) outcome
    → length (after_input k outcome node).1 + room (after_input k outcome node).0 ≤ room node
after_input_within k (Did cpu memory new token) node end there less =
    let kept = room-set can_acknowledge node.inputs k (bit (is_some token)) end new there less in
    omega (arith, length-on_link k token)
after_input_within k (Fails fault) node end there less = omega arith

-- so a step takes as much room as it sends
record Takes (node : NodeState) (after : NodeState × List (ℕ × Token)) : Type 0 where
  within : length after.1 + room after.0 ≤ room node

Takes-some : (node : NodeState) (x after : NodeState × List (ℕ × Token)) → Some x ≡ Some after → length x.1 + room x.0 ≤ room node → Takes node after
Takes-some node x after is less = let same : x ≡ after = cc in subst (Takes node) same (record { within = less })

ended_within : (o : Outcome) (node : NodeState) (after : NodeState × List (ℕ × Token)) → ended o node ≡ Some after → Takes node after
ended_within (Next cpu memory) node after is = Takes-some node (record node { cpu = cpu; memory = memory }, []) after is (omega arith)
ended_within (Halts fault) node after is = Takes-some node (halted fault node, []) after is (omega arith)
ended_within Rests node after is = absurd (cc)
ended_within (Sends request) node after is =
    let done = λ (end : OutEnd). begin_output request end (past request.next node.cpu) node.memory in
    let found = bind_some (slice_get node.outputs request.link) (λ end. Some (after_output request.link (done end) node)) after is in
    Takes-some node (after_output request.link (done found.0) node) after found.2
    (after_output_within request.link (done found.0) node found.0 found.1 (output_within request found.0 (past request.next node.cpu) node.memory))
ended_within (Receives request) node after is =
    let done = λ (end : InEnd). begin_input request.wish end (past request.next node.cpu) node.memory in
    let found = bind_some (slice_get node.inputs request.link) (λ end. Some (after_input request.link (done end) node)) after is in
    Takes-some node (after_input request.link (done found.0) node) after found.2
    (after_input_within request.link (done found.0) node found.0 found.1 (input_within request.wish found.0 (past request.next node.cpu) node.memory))

pub room_step : (node : NodeState) (after : NodeState × List (ℕ × Token)) → node_step node ≡ Some after → length after.1 + room after.0 ≤ room node
unfolding node_step
room_step node after is = (ended_within (step_of node.cpu node.memory) node after is).within

-- there is never room for more than one token an end
sum_few : {End : Type 0} (f : End → Bool) (ends : List End) → sum_by (λ end. bit (f end)) ends ≤ length ends
sum_few f [] = omega arith
sum_few f (end ∷ ends) =
    let first = sum_by-cons (λ e. bit (f e)) end ends in
    let one = bit_small (f end) in
    let rest = sum_few f ends in
    omega arith

pub room_few : (node : NodeState) → room node ≤ length node.outputs + length node.inputs
room_few node =
    let sending = sum_few (λ end. not (is_waiting end)) node.outputs in
    let holding = sum_few is_holding node.inputs in
    omega arith
