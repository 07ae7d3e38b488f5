-- What the machine's step, and a token that comes in, do at the four links.
use Rattle.std.proofs.Common.{◌≡◌, ◌≢◌, ℕ, ◌+◌, ◌<◌, Bool, true, false, cond, inl, inr, List, [], ◌∷◌, set, refl, sym, subst, ◌∙◌, arith, Option, Some, None, slice_get}
use Rattle.std.specs.Prelude.{◌==◌, nat_lt, is_some}
use Rattle.tp_law_machine.proofs.Lower.{eq-eqb, ne_eqb, cases_Bool, cases_eq, ltb-true, AllByRecursion, Token, Data, Ack, Marker, OutEnd, InEnd, Arrival, News, Nobody, Process, Alternative, Cpu, BadAddress, bit, byte_at, word_at, stored, workspace, state_at, queue_writes, queued, past, waiting, ready_writes, Outcome, Next, Halts, Rests, Sends, Receives, step_of, ◌>>=◌, for_line, HasFourLinks, datas, acks, KeepsFlight, is_marker, markers, NeverMarks, next_pointer, out_acked, in_arrived, LinkOutcome, Did, Fails, begin_output, begin_input, NodeState, halted, on_link, after_output, after_input, ended, node_step, bad_address, with_memory, wake, make_ready, signal_state, tell, placed, took_token, took, t414, t414_ends, waits, holds}
use Rattle.tp_law_machine.proofs.Partial.{bind_some, slice_get-set_same, slice_get-set_other}
use Rattle.tp_law_machine.proofs.Requests.{IsInside, step_inside}
use Rattle.tp_law_machine.proofs.LinkEnds.{tokens, OutMoves, InMoves, OutKept, InKept, Arrived, Acked, begin_output_kept, begin_input_kept, in_arrived_kept, out_acked_kept}

-- ## One token on a link

for_line-same : (k : ℕ) (token : Option Token) → for_line k (on_link k token) ≡ tokens token
for_line-same k None = refl
for_line-same k (Some token) = rw (eq-eqb k k refl) refl

for_line-other : (j k : ℕ) (token : Option Token) → j ≢ k → for_line j (on_link k token) ≡ []
for_line-other j k None n = refl
for_line-other j k (Some token) n = rw (ne_eqb k j (λ e. n (sym e))) refl

datas_none : (j k : ℕ) (token : Option Token) → datas (tokens token) ≡ 0 → datas (for_line j (on_link k token)) ≡ 0
datas_none j k None e = refl
datas_none j k (Some token) e = elim (cases_Bool (k == j)) [
  | inl y ↦ rw y e
  | inr n ↦ rw n refl
]

acks_none : (j k : ℕ) (token : Option Token) → acks (tokens token) ≡ 0 → acks (for_line j (on_link k token)) ≡ 0
acks_none j k None e = refl
acks_none j k (Some token) e = elim (cases_Bool (k == j)) [
  | inl y ↦ rw y e
  | inr n ↦ rw n refl
]

unmarked_one : (k : ℕ) (token : Option Token) → markers (tokens token) ≡ 0 → AllByRecursion (λ m. is_marker m.1 ≡ false) (on_link k token)
unmarked_one k None e = tt
unmarked_one k (Some (Data byte)) e = (refl, tt)
unmarked_one k (Some Ack) e = (refl, tt)
unmarked_one k (Some Marker) e = absurd (omega arith)

four_one : (k : ℕ) (token : Option Token) → k < 4 → AllByRecursion (λ m. m.0 < 4) (on_link k token)
four_one k None h = tt
four_one k (Some token) h = (h, tt)

-- ## A step at a link

-- What a step does at the links. An output end begins to wait exactly when it sends Data. An input end gives up its byte exactly when it
-- sends an Ack. No Marker leaves.
pub record StepKeeps (node : NodeState) (after : NodeState × List (ℕ × Token)) : Type 0 where
  pub out : (j : ℕ) → bit (waits after.0 j) ≡ bit (waits node j) + datas (for_line j after.1)
  pub inn : (j : ℕ) → bit (holds after.0 j) + acks (for_line j after.1) ≡ bit (holds node j)
  pub unmarked : AllByRecursion (λ m. is_marker m.1 ≡ false) after.1
  pub four : AllByRecursion (λ m. m.0 < 4) after.1

-- nothing leaves, and the ends stay
quiet : (node after : NodeState) → after.outputs ≡ node.outputs → after.inputs ≡ node.inputs → StepKeeps node (after, [])
quiet node after o i = record {
  out = λ j. rw o (omega arith);
  inn = λ j. rw i (omega arith);
  unmarked = tt;
  four = tt;
}

output_keeps : (k : ℕ) (end : OutEnd) (outcome : LinkOutcome OutEnd) (node : NodeState) → k < 4 → slice_get node.outputs k ≡ Some end → OutKept end outcome
    → StepKeeps node (after_output k outcome node)
output_keeps k end (Fails fault) node h is kept = quiet node _ refl refl
output_keeps k end (Did cpu memory now token) node h is kept = record {
  out = λ j. elim (cases_eq j k) [
    | inl same ↦ rw (same, slice_get-set_same node.outputs k now end is, is, for_line-same k token) moves.sent
    | inr other ↦ rw (slice_get-set_other node.outputs k j now other, for_line-other j k token other) (omega arith)
  ];
  inn = λ j. omega (arith, acks_none j k token moves.no_acks);
  unmarked = unmarked_one k token moves.no_markers;
  four = four_one k token h;
}
  where
    moves : OutMoves end now token
    moves = kept.is

input_keeps : (k : ℕ) (end : InEnd) (outcome : LinkOutcome InEnd) (node : NodeState) → k < 4 → slice_get node.inputs k ≡ Some end → InKept end outcome
    → StepKeeps node (after_input k outcome node)
input_keeps k end (Fails fault) node h is kept = quiet node _ refl refl
input_keeps k end (Did cpu memory now token) node h is kept = record {
  out = λ j. omega (arith, datas_none j k token moves.no_datas);
  inn = λ j. elim (cases_eq j k) [
    | inl same ↦ rw (same, slice_get-set_same node.inputs k now end is, is, for_line-same k token) moves.sent
    | inr other ↦ rw (slice_get-set_other node.inputs k j now other, for_line-other j k token other) (omega arith)
  ];
  unmarked = unmarked_one k token moves.no_markers;
  four = four_one k token h;
}
  where
    moves : InMoves end now token
    moves = kept.is

ended_keeps : (outcome : Outcome) (node : NodeState) (after : NodeState × List (ℕ × Token)) → IsInside outcome → ended outcome node ≡ Some after → StepKeeps node after
ended_keeps (Next cpu memory) node after inside e =
    let same : (record node { cpu = cpu; memory = memory }, []) ≡ after = cc in
    subst (λ r. StepKeeps node r) same (quiet node (record node { cpu = cpu; memory = memory }) refl refl)
ended_keeps (Halts fault) node after inside e =
    let same : (halted fault node, []) ≡ after = cc in subst (λ r. StepKeeps node r) same (quiet node (halted fault node) refl refl)
ended_keeps Rests node after inside e = cc
ended_keeps (Sends request) node after inside e =
    let begun : OutEnd → LinkOutcome OutEnd = λ end. begin_output request end (past request.next node.cpu) node.memory in
    let a = bind_some (slice_get node.outputs request.link) (λ end. Some (after_output request.link (begun end) node)) after e in
    let same : after_output request.link (begun a.0) node ≡ after = cc in
    subst (λ r. StepKeeps node r) same (output_keeps request.link a.0 (begun a.0) node inside.is a.1 (begin_output_kept request a.0 (past request.next node.cpu) node.memory))
ended_keeps (Receives request) node after inside e =
    let begun : InEnd → LinkOutcome InEnd = λ end. begin_input request.wish end (past request.next node.cpu) node.memory in
    let a = bind_some (slice_get node.inputs request.link) (λ end. Some (after_input request.link (begun end) node)) after e in
    let same : after_input request.link (begun a.0) node ≡ after = cc in
    subst (λ r. StepKeeps node r) same (input_keeps request.link a.0 (begun a.0) node inside.is a.1 (begin_input_kept request.wish a.0 (past request.next node.cpu) node.memory))

pub node_step_keeps : (node : NodeState) (after : NodeState × List (ℕ × Token)) → node_step node ≡ Some after → StepKeeps node after
unfolding node_step
node_step_keeps node after e = ended_keeps (step_of node.cpu node.memory) node after (step_inside node.cpu node.memory) e

-- ## A token that comes in

-- the ends stay as they are
pub record SameEnds (before after : NodeState) : Type 0 where
  pub outputs : after.outputs ≡ before.outputs
  pub inputs : after.inputs ≡ before.inputs

bad_address_ends : (node : NodeState) → SameEnds node (bad_address node)
bad_address_ends node = go (is_some node.cpu.halt)
  where
    go : (b : Bool) → SameEnds node (cond b node (halted BadAddress node))
    go true = record { outputs = refl; inputs = refl }
    go false = record { outputs = refl; inputs = refl }

with_memory_ends : (memory : Option (List ℕ)) (cpu : Cpu) (node : NodeState) → SameEnds node (with_memory memory cpu node)
with_memory_ends None cpu node = bad_address_ends node
with_memory_ends (Some memory) cpu node = record { outputs = refl; inputs = refl }

wake_ends : (descriptor : ℕ) (node : NodeState) → SameEnds node (wake descriptor node)
wake_ends descriptor node = with_memory_ends (stored node.memory (queue_writes descriptor node.cpu)) (queued descriptor node.cpu) node

make_ready_ends : (state descriptor : ℕ) (node : NodeState) → SameEnds node (make_ready state descriptor node)
make_ready_ends state descriptor node = with_memory_ends (stored node.memory (ready_writes state descriptor)) node.cpu node

both_ends : (a b c : NodeState) → SameEnds a b → SameEnds b c → SameEnds a c
both_ends a b c h k = record { outputs = k.outputs ∙ h.outputs; inputs = k.inputs ∙ h.inputs }

signal_ends : (state : Option ℕ) (descriptor : ℕ) (node : NodeState) → SameEnds node (signal_state state descriptor node)
signal_ends None descriptor node = bad_address_ends node
signal_ends (Some state) descriptor node = go (state == waiting)
  where
    go : (b : Bool) → SameEnds node (cond b (wake descriptor (make_ready state descriptor node)) (make_ready state descriptor node))
    go true = both_ends node (make_ready state descriptor node) (wake descriptor (make_ready state descriptor node)) (make_ready_ends state descriptor node) (wake_ends descriptor (make_ready state descriptor node))
    go false = make_ready_ends state descriptor node

tell_ends : (news : News) (node : NodeState) → SameEnds node (tell news node)
tell_ends Nobody node = record { outputs = refl; inputs = refl }
tell_ends (Process descriptor) node = wake_ends descriptor node
tell_ends (Alternative descriptor) node = signal_ends (word_at node.memory (state_at (workspace descriptor))) descriptor node

-- What a token that comes in on link k does at the links. An Ack ends a wait, which Data begins. Data is held, and an Ack gives it up. No
-- Marker leaves.
pub record TookKeeps (node : NodeState) (k : ℕ) (token : Token) (after : NodeState × List (ℕ × Token)) : Type 0 where
  pub out : (j : ℕ) → bit (waits after.0 j) + acks (for_line j ((k, token) ∷ [])) ≡ bit (waits node j) + datas (for_line j after.1)
  pub inn : (j : ℕ) → bit (holds after.0 j) + acks (for_line j after.1) ≡ bit (holds node j) + datas (for_line j ((k, token) ∷ []))
  pub unmarked : AllByRecursion (λ m. is_marker m.1 ≡ false) after.1
  pub four : AllByRecursion (λ m. m.0 < 4) after.1

data_keeps : (node last : NodeState) (k byte : ℕ) (end now : InEnd) (token : Option Token) → k < 4 → slice_get node.inputs k ≡ Some end → Arrived end now token
    → last.outputs ≡ node.outputs → last.inputs ≡ set node.inputs k now → TookKeeps node k (Data byte) (last, on_link k token)
data_keeps node last k byte end now token h is moves o i = record {
  out = λ j. rw o (omega (arith, datas_none j k token moves.no_datas, acks_none j k (Some (Data byte)) refl));
  inn = λ j. elim (cases_eq j k) [
    | inl same ↦ rw (i, same, slice_get-set_same node.inputs k now end is, is, for_line-same k token, for_line-same k (Some (Data byte))) moves.sent
    | inr other ↦ rw (i, slice_get-set_other node.inputs k j now other, for_line-other j k token other, for_line-other j k (Some (Data byte)) other) refl
  ];
  unmarked = unmarked_one k token moves.no_markers;
  four = four_one k token h;
}

ack_keeps : (node last : NodeState) (k : ℕ) (end now : OutEnd) (token : Option Token) → k < 4 → slice_get node.outputs k ≡ Some end → Acked end now token
    → last.inputs ≡ node.inputs → last.outputs ≡ set node.outputs k now → TookKeeps node k Ack (last, on_link k token)
ack_keeps node last k end now token h is moves i o = record {
  out = λ j. elim (cases_eq j k) [
    | inl same ↦ rw (o, same, slice_get-set_same node.outputs k now end is, is, for_line-same k token, for_line-same k (Some Ack)) moves.sent
    | inr other ↦ rw (o, slice_get-set_other node.outputs k j now other, for_line-other j k token other, for_line-other j k (Some Ack) other) refl
  ];
  inn = λ j. rw i (omega (arith, acks_none j k token moves.no_acks, datas_none j k (Some Ack) refl));
  unmarked = unmarked_one k token moves.no_markers;
  four = four_one k token h;
}

-- the end took it, and then the node is told
abbrev after_data : NodeState → ℕ → InEnd × Arrival → List ℕ → NodeState × List (ℕ × Token)
after_data node k arrived memory = (tell arrived.1.news (record node { memory = memory; inputs = set node.inputs k arrived.0 }), on_link k arrived.1.token)

abbrev after_ack : NodeState → ℕ → OutEnd × Arrival → NodeState × List (ℕ × Token)
after_ack node k arrived = (tell arrived.1.news (record node { outputs = set node.outputs k arrived.0 }), on_link k arrived.1.token)

data_told : (node : NodeState) (k byte : ℕ) (end : InEnd) (arrived : InEnd × Arrival) (memory : List ℕ) → k < 4 → slice_get node.inputs k ≡ Some end → in_arrived byte end ≡ Some arrived
    → TookKeeps node k (Data byte) (after_data node k arrived memory)
data_told node k byte end arrived memory h is e =
    let told = tell_ends arrived.1.news (record node { memory = memory; inputs = set node.inputs k arrived.0 }) in
    data_keeps node _ k byte end arrived.0 arrived.1.token h is (in_arrived_kept byte end arrived e) told.outputs told.inputs

ack_told : (node : NodeState) (k : ℕ) (next : Option ℕ) (end : OutEnd) (arrived : OutEnd × Arrival) → k < 4 → slice_get node.outputs k ≡ Some end → out_acked next end ≡ Some arrived
    → TookKeeps node k Ack (after_ack node k arrived)
ack_told node k next end arrived h is e =
    let told = tell_ends arrived.1.news (record node { outputs = set node.outputs k arrived.0 }) in
    ack_keeps node _ k end arrived.0 arrived.1.token h is (out_acked_kept next end arrived e) told.inputs told.outputs

took_along : (node : NodeState) (k : ℕ) (token : Token) (r after : NodeState × List (ℕ × Token)) → Some r ≡ Some after → TookKeeps node k token r → TookKeeps node k token after
took_along node k token r after e keeps = let same : r ≡ after = cc in subst (λ x. TookKeeps node k token x) same keeps

took_token_keeps : (node : NodeState) (k : ℕ) (token : Token) (after : NodeState × List (ℕ × Token)) → k < 4 → took_token node k token ≡ Some after → TookKeeps node k token after
took_token_keeps node k (Data byte) after h e =
    let last : InEnd × Arrival → List ℕ → Option (NodeState × List (ℕ × Token)) = λ arrived memory. Some (after_data node k arrived memory) in
    let a = bind_some (slice_get node.inputs k) (λ end. in_arrived byte end >>= λ arrived. placed arrived.1.place byte node.memory >>= last arrived) after e in
    let b = bind_some (in_arrived byte a.0) (λ arrived. placed arrived.1.place byte node.memory >>= last arrived) after a.2 in
    let c = bind_some (placed b.0.1.place byte node.memory) (last b.0) after b.2 in
    took_along node k (Data byte) (after_data node k b.0 c.0) after c.2 (data_told node k byte a.0 b.0 c.0 h a.1 b.1)
took_token_keeps node k Ack after h e =
    let last : OutEnd × Arrival → Option (NodeState × List (ℕ × Token)) = λ arrived. Some (after_ack node k arrived) in
    let a = bind_some (slice_get node.outputs k) (λ end. out_acked (next_pointer end >>= byte_at node.memory) end >>= last) after e in
    let b = bind_some (out_acked (next_pointer a.0 >>= byte_at node.memory) a.0) last after a.2 in
    took_along node k Ack (after_ack node k b.0) after b.2 (ack_told node k (next_pointer a.0 >>= byte_at node.memory) a.0 b.0 h a.1 b.1)
took_token_keeps node k Marker after h e = cc

pub took_keeps : (node : NodeState) (k : ℕ) (token : Token) (after : NodeState × List (ℕ × Token)) → took node k token ≡ Some after → TookKeeps node k token after
unfolding took
took_keeps node k token after e = go (nat_lt k 4) refl e
  where
    go : (b : Bool) → nat_lt k 4 ≡ b → cond b (took_token node k token) None ≡ Some after → TookKeeps node k token after
    go true y e = took_token_keeps node k token after (ltb-true k 4 y) e
    go false n e = cc

pub took_no_marker : (node : NodeState) (k : ℕ) → took node k Marker ≡ None
unfolding took
took_no_marker node k = go (nat_lt k 4)
  where
    go : (b : Bool) → cond b (took_token node k Marker) None ≡ None
    go true = refl
    go false = refl

-- ## The laws

-- Tokens leave on links 0 to 3.
pub has_four_links : HasFourLinks t414
has_four_links = record {
  step = λ node after e. (node_step_keeps node after e).four;
  took = λ node k token after e. (took_keeps node k token after e).four;
}

-- The machine sends no Marker and takes none.
pub never_marks : NeverMarks t414
never_marks = record {
  step = λ node after e. (node_step_keeps node after e).unmarked;
  took = λ node k token after e. (took_keeps node k token after e).unmarked;
  none = took_no_marker;
}

-- An output end sends Data exactly when it begins to wait, and an Ack ends that. An input end sends an Ack exactly when it gives up its
-- byte, or at once.
pub keeps_flight : KeepsFlight t414 t414_ends
keeps_flight = record {
  step_out = λ node after k h e. (node_step_keeps node after e).out k;
  step_in = λ node after k h e. (node_step_keeps node after e).inn k;
  took_out = λ node j token after k h e. (took_keeps node j token after e).out k;
  took_in = λ node j token after k h e. (took_keeps node j token after e).inn k;
}
