-- A node of words and bytes stays one, with its messages inside memory, whatever it does and takes.
use Rattle.std.proofs.Common.{◌≡◌, ℕ, zero, suc, ◌^◌, ◌<◌, ◌≤◌, Bool, true, false, cond, List, [], ◌∷◌, ◌++◌, length, set, length-set, refl, subst, ◌∙◌, Option, Some, None, slice_get}
use Rattle.std.specs.Prelude.{◌==◌, nat_lt, is_some}
use Rattle.tp_law_machine.proofs.Lower.{option_map, AllByRecursion, list_all, and_parts, Cpu, Fault, BadAddress, Token, Data, Ack, Marker, OutEnd, NoOutput, Waits, InEnd, Idle, Inputs, Enabled, Arrival, News, Nobody, Process, Alternative, byte_at, word_at, stored, workspace, state_at, queue_writes, queued, past, waiting, ready_writes, is_out_end, is_in_end, FitsOutEnd, FitsInEnd, is_memory, advanced, has_more, filled, next_pointer, out_acked, in_arrived, LinkOutcome, Did, Fails, begin_output, begin_input, Outcome, Next, Halts, Rests, Sends, Receives, step_of, NodeState, ◌>>=◌, steps, halted, on_link, after_output, after_input, ended, node_step, bad_address, with_memory, wake, make_ready, signal_state, tell, placed, took_token, took, t414}
use Rattle.tp_law_machine.specs.NodeOfBytes.{CarriesByte, HoldsByte, IsNodeOfBytes, CarryBytes}
use Rattle.tp_law_machine.proofs.Imaged.{rules_of, rules_hold, pages_hold}
use Rattle.tp_law_machine.proofs.LinkMessages.{OutFits, InFits, out_fits, in_fits, waits_fits, no_output_fits, byte_fits, advanced_fits, filled_fits, MayCarryByte, LinkKeeps, begin_output_keeps, begin_input_keeps}
use Rattle.tp_law_machine.proofs.Memories.{Holds, HoldsIf, IsBelow, same_holds, stored_holds, byte_holds, byte_read}
use Rattle.tp_law_machine.proofs.Outcomes.{Keeps, step_keeps}
use Rattle.tp_law_machine.proofs.Partial.{bind_some, all_at, all_set, all_append}
use Rattle.tp_law_machine.proofs.Processors.{IsCpu, halted_cpu, past_cpu, queued_cpu}

-- ## A whole node

-- how many bytes its memory has
pub record IsWhole (n : ℕ) (node : NodeState) : Type 0 where
  pub pages : (memory : List ℕ) → length memory ≡ n → is_memory memory ≡ true
  pub small : n ≤ 2 ^ 32
  pub links : (length node.outputs ≡ 4) × (length node.inputs ≡ 4)
  pub cpu : IsCpu node.cpu
  pub memory : Holds n node.memory
  pub outputs : AllByRecursion (OutFits n) node.outputs
  pub inputs : AllByRecursion (InFits n) node.inputs

same_pages : (n : ℕ) (memory other : List ℕ) → length memory ≡ n → length other ≡ n → is_memory memory ≡ true → is_memory other ≡ true
same_pages n memory other long same h = rw same (rw long at h)

out_ends : (memory : List ℕ) (ends : List OutEnd) → list_all (is_out_end memory) ends ≡ true → AllByRecursion FitsOutEnd ends → AllByRecursion (OutFits (length memory)) ends
out_ends memory [] inside words = tt
out_ends memory (end ∷ ends) inside words =
    let parts = and_parts (is_out_end memory end) (list_all (is_out_end memory) ends) inside in
    (out_fits memory end parts.0 words.0, out_ends memory ends parts.1 words.1)

in_ends : (memory : List ℕ) (ends : List InEnd) → list_all (is_in_end memory) ends ≡ true → AllByRecursion FitsInEnd ends → AllByRecursion HoldsByte ends
    → AllByRecursion (InFits (length memory)) ends
in_ends memory [] inside words held = tt
in_ends memory (end ∷ ends) inside words held =
    let parts = and_parts (is_in_end memory end) (list_all (is_in_end memory) ends) inside in
    (in_fits memory end parts.0 words.0 held.0, in_ends memory ends parts.1 words.1 held.1)

whole_of : (node : NodeState) → IsNodeOfBytes node → IsWhole (length node.memory) node
whole_of node N =
    let (iptr, (wptr, (a, (b, (c, (hf, (hb, (lf, (lb, t))))))))) = N.image.words in
    let R = rules_of node N.image.keeps in
    let P = pages_hold node.memory R.memory in
    record {
      pages = λ memory same. same_pages (length node.memory) node.memory memory refl same R.memory;
      small = P.small;
      links = N.image.links;
      cpu = record {
        iptr = iptr;
        wptr = record { small = wptr; aligned = R.wptr };
        regs = record { a = a; b = b; c = c };
        high = record { front = hf; back = hb };
        low = record { front = lf; back = lb };
        slice = R.slice;
      };
      memory = record { long = refl; whole = P.whole; bytes = N.memory };
      outputs = out_ends node.memory node.outputs R.outputs N.image.outputs;
      inputs = in_ends node.memory node.inputs R.inputs N.image.inputs N.held;
    }

out_ends_inside : (n : ℕ) (memory : List ℕ) (ends : List OutEnd) → length memory ≡ n → AllByRecursion (OutFits n) ends → list_all (is_out_end memory) ends ≡ true
out_ends_inside n memory [] same all = refl
out_ends_inside n memory (end ∷ ends) same all = rw (all.0.is memory same) (out_ends_inside n memory ends same all.1)

in_ends_inside : (n : ℕ) (memory : List ℕ) (ends : List InEnd) → length memory ≡ n → AllByRecursion (InFits n) ends → list_all (is_in_end memory) ends ≡ true
in_ends_inside n memory [] same all = refl
in_ends_inside n memory (end ∷ ends) same all = rw (all.0.is memory same) (in_ends_inside n memory ends same all.1)

out_ends_words : (n : ℕ) (ends : List OutEnd) → AllByRecursion (OutFits n) ends → AllByRecursion FitsOutEnd ends
out_ends_words n [] all = tt
out_ends_words n (end ∷ ends) all = (all.0.words, out_ends_words n ends all.1)

in_ends_words : (n : ℕ) (ends : List InEnd) → AllByRecursion (InFits n) ends → AllByRecursion FitsInEnd ends
in_ends_words n [] all = tt
in_ends_words n (end ∷ ends) all = (all.0.words, in_ends_words n ends all.1)

in_ends_held : (n : ℕ) (ends : List InEnd) → AllByRecursion (InFits n) ends → AllByRecursion HoldsByte ends
in_ends_held n [] all = tt
in_ends_held n (end ∷ ends) all = (all.0.held, in_ends_held n ends all.1)

of_bytes : (n : ℕ) (node : NodeState) → IsWhole n node → IsNodeOfBytes node
of_bytes n node W =
    let C = W.cpu in
    record {
      image = record {
        keeps = rules_hold node (record {
          memory = W.pages node.memory W.memory.long;
          wptr = C.wptr.aligned;
          slice = C.slice;
          outputs = out_ends_inside n node.memory node.outputs W.memory.long W.outputs;
          inputs = in_ends_inside n node.memory node.inputs W.memory.long W.inputs;
        });
        links = W.links;
        words = (C.iptr, (C.wptr.small, (C.regs.a, (C.regs.b, (C.regs.c, (C.high.front, (C.high.back, (C.low.front, (C.low.back, tt)))))))));
        outputs = out_ends_words n node.outputs W.outputs;
        inputs = in_ends_words n node.inputs W.inputs;
      };
      memory = W.memory.bytes;
      held = in_ends_held n node.inputs W.inputs;
    }

-- another one with a memory as long
remade : {n : ℕ} {node : NodeState} (after : NodeState) → IsWhole n node → length after.outputs ≡ length node.outputs → length after.inputs ≡ length node.inputs
    → IsCpu after.cpu → Holds n after.memory → AllByRecursion (OutFits n) after.outputs → AllByRecursion (InFits n) after.inputs → IsWhole n after
remade after W out inn C H outputs inputs =
    record { pages = W.pages; small = W.small; links = (out ∙ W.links.0, inn ∙ W.links.1); cpu = C; memory = H; outputs = outputs; inputs = inputs }

changed_whole : {n : ℕ} {node : NodeState} (cpu : Cpu) (memory : List ℕ) → IsWhole n node → IsCpu cpu → Holds n memory → IsWhole n (record node { cpu = cpu; memory = memory })
changed_whole {n} {node} cpu memory W C H = remade (record node { cpu = cpu; memory = memory }) W refl refl C H W.outputs W.inputs

halted_whole : {n : ℕ} {node : NodeState} (fault : Fault) → IsWhole n node → IsWhole n (halted fault node)
halted_whole {n} {node} fault W = remade (halted fault node) W refl refl (halted_cpu fault W.cpu) W.memory W.outputs W.inputs

-- ## A step

-- the node is whole, and what leaves carries bytes
record Leaves (n : ℕ) (after : NodeState × List (ℕ × Token)) : Type 0 where
  whole : IsWhole n after.0
  carried : CarryBytes after.1

on_link_carries : (k : ℕ) (token : Option Token) → MayCarryByte token → CarryBytes (on_link k token)
on_link_carries k None h = tt
on_link_carries k (Some token) h = (h, tt)

output_leaves : {n : ℕ} {node : NodeState} (k : ℕ) (outcome : LinkOutcome OutEnd) → IsWhole n node → LinkKeeps OutFits n outcome → Leaves n (after_output k outcome node)
output_leaves {n} {node} k (Did cpu memory end token) W keeps = record {
  whole = remade (record node { cpu = cpu; memory = memory; outputs = set node.outputs k end }) W (length-set node.outputs k end) refl keeps.is.0 keeps.is.1
      (all_set (OutFits n) node.outputs k end W.outputs keeps.is.2) W.inputs;
  carried = on_link_carries k token keeps.is.3;
}
output_leaves k (Fails fault) W keeps = record { whole = halted_whole fault W; carried = tt }

input_leaves : {n : ℕ} {node : NodeState} (k : ℕ) (outcome : LinkOutcome InEnd) → IsWhole n node → LinkKeeps InFits n outcome → Leaves n (after_input k outcome node)
input_leaves {n} {node} k (Did cpu memory end token) W keeps = record {
  whole = remade (record node { cpu = cpu; memory = memory; inputs = set node.inputs k end }) W refl (length-set node.inputs k end) keeps.is.0 keeps.is.1
      W.outputs (all_set (InFits n) node.inputs k end W.inputs keeps.is.2);
  carried = on_link_carries k token keeps.is.3;
}
input_leaves k (Fails fault) W keeps = record { whole = halted_whole fault W; carried = tt }

leaves_along : {n : ℕ} (r after : NodeState × List (ℕ × Token)) → Some r ≡ Some after → Leaves n r → Leaves n after
leaves_along {n} r after e leaves = let same : r ≡ after = cc in subst (Leaves n) same leaves

ended_leaves : {n : ℕ} (outcome : Outcome) (node : NodeState) (after : NodeState × List (ℕ × Token)) → IsWhole n node → Keeps n outcome → ended outcome node ≡ Some after → Leaves n after
ended_leaves (Next cpu memory) node after W keeps e =
    leaves_along (record node { cpu = cpu; memory = memory }, []) after e (record { whole = changed_whole cpu memory W keeps.is.0 keeps.is.1; carried = tt })
ended_leaves (Halts fault) node after W keeps e = leaves_along (halted fault node, []) after e (record { whole = halted_whole fault W; carried = tt })
ended_leaves Rests node after W keeps e = cc
ended_leaves {n} (Sends request) node after W keeps e =
    let begun : OutEnd → LinkOutcome OutEnd = λ end. begin_output request end (past request.next node.cpu) node.memory in
    let a = bind_some (slice_get node.outputs request.link) (λ end. Some (after_output request.link (begun end) node)) after e in
    leaves_along (after_output request.link (begun a.0) node) after a.2
    (output_leaves request.link (begun a.0) W
    (begin_output_keeps request a.0 (past_cpu request.next W.cpu keeps.is.2) W.memory keeps.is.0 keeps.is.1 (all_at (OutFits n) node.outputs request.link a.0 W.outputs a.1)))
ended_leaves {n} (Receives request) node after W keeps e =
    let begun : InEnd → LinkOutcome InEnd = λ end. begin_input request.wish end (past request.next node.cpu) node.memory in
    let a = bind_some (slice_get node.inputs request.link) (λ end. Some (after_input request.link (begun end) node)) after e in
    leaves_along (after_input request.link (begun a.0) node) after a.2
    (input_leaves request.link (begun a.0) W
    (begin_input_keeps request.wish a.0 W.small (past_cpu request.next W.cpu keeps.is.1) W.memory keeps.is.0 (all_at (InFits n) node.inputs request.link a.0 W.inputs a.1)))

step_leaves : {n : ℕ} (node : NodeState) (after : NodeState × List (ℕ × Token)) → IsWhole n node → node_step node ≡ Some after → Leaves n after
unfolding node_step
step_leaves node after W e = ended_leaves (step_of node.cpu node.memory) node after W (step_keeps node.cpu node.memory W.cpu W.memory) e

steps_leave : {n : ℕ} (count : ℕ) (node : NodeState) (after : NodeState × List (ℕ × Token)) → IsWhole n node → steps t414 count node ≡ Some after → Leaves n after
unfolding steps
steps_leave zero node after W e = leaves_along (node, []) after e (record { whole = W; carried = tt })
steps_leave (suc count) node after W e =
    let a = bind_some (node_step node) (λ first. steps t414 count first.0 >>= λ rest. Some (rest.0, first.1 ++ rest.1)) after e in
    let b = bind_some (steps t414 count a.0.0) (λ rest. Some (rest.0, a.0.1 ++ rest.1)) after a.2 in
    let first = step_leaves node a.0 W a.1 in
    let rest = steps_leave count a.0.0 b.0 first.whole b.1 in
    leaves_along (b.0.0, a.0.1 ++ b.0.1) after b.2 (record { whole = rest.whole; carried = all_append (λ m. CarriesByte m.1) a.0.1 b.0.1 first.carried rest.carried })

-- ## A token that comes in

bad_address_whole : {n : ℕ} {node : NodeState} → IsWhole n node → IsWhole n (bad_address node)
bad_address_whole {n} {node} W = go (is_some node.cpu.halt)
  where
    go : (b : Bool) → IsWhole n (cond b node (halted BadAddress node))
    go true = W
    go false = halted_whole BadAddress W

with_memory_whole : {n : ℕ} {node : NodeState} (o : Option (List ℕ)) (cpu : Cpu) → IsWhole n node → HoldsIf n o → IsCpu cpu → IsWhole n (with_memory o cpu node)
with_memory_whole None cpu W H C = bad_address_whole W
with_memory_whole (Some memory) cpu W H C = changed_whole cpu memory W C (H.is memory refl)

wake_whole : {n : ℕ} {node : NodeState} (descriptor : ℕ) → IsWhole n node → descriptor < 2 ^ 32 → IsWhole n (wake descriptor node)
wake_whole {n} {node} descriptor W low =
    with_memory_whole (stored node.memory (queue_writes descriptor node.cpu)) (queued descriptor node.cpu) W (stored_holds (queue_writes descriptor node.cpu) W.memory) (queued_cpu descriptor W.cpu low)

make_ready_whole : {n : ℕ} {node : NodeState} (state descriptor : ℕ) → IsWhole n node → IsWhole n (make_ready state descriptor node)
make_ready_whole {n} {node} state descriptor W =
    with_memory_whole (stored node.memory (ready_writes state descriptor)) node.cpu W (stored_holds (ready_writes state descriptor) W.memory) W.cpu

signal_whole : {n : ℕ} {node : NodeState} (state : Option ℕ) (descriptor : ℕ) → IsWhole n node → descriptor < 2 ^ 32 → IsWhole n (signal_state state descriptor node)
signal_whole None descriptor W low = bad_address_whole W
signal_whole {n} {node} (Some state) descriptor W low = go (state == waiting)
  where
    go : (b : Bool) → IsWhole n (cond b (wake descriptor (make_ready state descriptor node)) (make_ready state descriptor node))
    go true = wake_whole descriptor (make_ready_whole state descriptor W) low
    go false = make_ready_whole state descriptor W

-- news are of a process
abbrev IsNews : News → Type 0
IsNews Nobody = Unit {0}
IsNews (Process descriptor) = descriptor < 2 ^ 32
IsNews (Alternative descriptor) = descriptor < 2 ^ 32

tell_whole : {n : ℕ} {node : NodeState} (news : News) → IsWhole n node → IsNews news → IsWhole n (tell news node)
tell_whole Nobody W low = W
tell_whole (Process descriptor) W low = wake_whole descriptor W low
tell_whole {n} {node} (Alternative descriptor) W low = signal_whole (word_at node.memory (state_at (workspace descriptor))) descriptor W low

placed_holds : {n : ℕ} {memory : List ℕ} (place : Option ℕ) (byte : ℕ) → Holds n memory → byte < 256 → HoldsIf n (placed place byte memory)
placed_holds None byte H low = same_holds H
placed_holds (Some address) byte H low = byte_holds address byte H low

-- what an end leaves that a token came to
record Arrives {End : Type 0} (fits : ℕ → End → Type 0) (n : ℕ) (arrived : End × Arrival) : Type 0 where
  end : fits n arrived.0
  news : IsNews arrived.1.news
  token : MayCarryByte arrived.1.token

data_arrives : (n byte : ℕ) (end : InEnd) (arrived : InEnd × Arrival) → n ≤ 2 ^ 32 → byte < 256 → InFits n end → in_arrived byte end ≡ Some arrived → Arrives InFits n arrived
data_arrives n byte (Idle None) arrived small low fits e =
    let same : (Idle (Some byte), record { token = None; place = None; news = Nobody }) ≡ arrived = cc in
    subst (Arrives InFits n) same (record { end = byte_fits n byte low; news = tt; token = tt })
data_arrives n byte (Idle (Some held)) arrived small low fits e = cc
data_arrives n byte (Inputs t) arrived small low fits e =
    let same : (filled t, record { token = Some Ack; place = Some t.pointer; news = cond (has_more t) Nobody (Process t.process) }) ≡ arrived = cc in
    subst (Arrives InFits n) same (record { end = filled_fits n t small (record { is = fits.is; words = fits.words }); news = told (has_more t); token = tt })
  where
    told : (b : Bool) → IsNews (cond b Nobody (Process t.process))
    told true = tt
    told false = fits.words.0
data_arrives n byte (Enabled process) arrived small low fits e =
    let same : (Idle (Some byte), record { token = None; place = None; news = Alternative process }) ≡ arrived = cc in
    subst (Arrives InFits n) same (record { end = byte_fits n byte low; news = fits.words; token = tt })

ack_arrives : (n : ℕ) (next : Option ℕ) (end : OutEnd) (arrived : OutEnd × Arrival) → n ≤ 2 ^ 32 → IsBelow 256 next → OutFits n end → out_acked next end ≡ Some arrived → Arrives OutFits n arrived
ack_arrives n next NoOutput arrived small low fits e = cc
ack_arrives n next (Waits t) arrived small low fits e = go (has_more t) refl next low e
  where
    go : (b : Bool) → has_more t ≡ b → (next : Option ℕ) → IsBelow 256 next
        → cond b (option_map (λ byte. (Waits (advanced t), record { token = Some (Data byte); place = None; news = Nobody })) next) (Some (NoOutput, record { token = None; place = None; news = Process t.process })) ≡ Some arrived
        → Arrives OutFits n arrived
    go true more None low e = cc
    go true more (Some byte) low e =
        let same : (Waits (advanced t), record { token = Some (Data byte); place = None; news = Nobody }) ≡ arrived = cc in
        subst (Arrives OutFits n) same (record { end = waits_fits n (advanced t) (advanced_fits n t small (record { is = fits.is; words = fits.words }) more); news = tt; token = low.is byte refl })
    go false none next low e =
        let same : (NoOutput, record { token = None; place = None; news = Process t.process }) ≡ arrived = cc in
        subst (Arrives OutFits n) same (record { end = no_output_fits n; news = fits.words.0; token = tt })

-- the byte that leaves next
next_below : (pointer : Option ℕ) (node : NodeState) (n : ℕ) → Holds n node.memory → IsBelow 256 (pointer >>= byte_at node.memory)
next_below None node n H = record { is = λ x e. cc }
next_below (Some pointer) node n H = byte_read node.memory pointer H.bytes

took_token_leaves : {n : ℕ} (node : NodeState) (k : ℕ) (token : Token) (after : NodeState × List (ℕ × Token)) → IsWhole n node → CarriesByte token → took_token node k token ≡ Some after → Leaves n after
took_token_leaves {n} node k (Data byte) after W low e =
    let last : InEnd × Arrival → List ℕ → NodeState = λ arrived memory. record node { memory = memory; inputs = set node.inputs k arrived.0 } in
    let give : InEnd × Arrival → List ℕ → Option (NodeState × List (ℕ × Token)) = λ arrived memory. Some (tell arrived.1.news (last arrived memory), on_link k arrived.1.token) in
    let a = bind_some (slice_get node.inputs k) (λ end. in_arrived byte end >>= λ arrived. placed arrived.1.place byte node.memory >>= give arrived) after e in
    let b = bind_some (in_arrived byte a.0) (λ arrived. placed arrived.1.place byte node.memory >>= give arrived) after a.2 in
    let c = bind_some (placed b.0.1.place byte node.memory) (give b.0) after b.2 in
    let arrives = data_arrives n byte a.0 b.0 W.small low (all_at (InFits n) node.inputs k a.0 W.inputs a.1) b.1 in
    leaves_along (tell b.0.1.news (last b.0 c.0), on_link k b.0.1.token) after c.2 (record {
      whole = tell_whole {node = last b.0 c.0} b.0.1.news
          (remade (last b.0 c.0) W refl (length-set node.inputs k b.0.0) W.cpu ((placed_holds b.0.1.place byte W.memory low).is c.0 c.1) W.outputs
          (all_set (InFits n) node.inputs k b.0.0 W.inputs arrives.end))
          arrives.news;
      carried = on_link_carries k b.0.1.token arrives.token;
    })
took_token_leaves {n} node k Ack after W low e =
    let last : OutEnd × Arrival → NodeState = λ arrived. record node { outputs = set node.outputs k arrived.0 } in
    let give : OutEnd × Arrival → Option (NodeState × List (ℕ × Token)) = λ arrived. Some (tell arrived.1.news (last arrived), on_link k arrived.1.token) in
    let a = bind_some (slice_get node.outputs k) (λ end. out_acked (next_pointer end >>= byte_at node.memory) end >>= give) after e in
    let b = bind_some (out_acked (next_pointer a.0 >>= byte_at node.memory) a.0) give after a.2 in
    let arrives =
    ack_arrives n (next_pointer a.0 >>= byte_at node.memory) a.0 b.0 W.small (next_below (next_pointer a.0) node n W.memory) (all_at (OutFits n) node.outputs k a.0 W.outputs a.1) b.1 in
    leaves_along (tell b.0.1.news (last b.0), on_link k b.0.1.token) after b.2 (record {
      whole = tell_whole {node = last b.0} b.0.1.news
          (remade (last b.0) W (length-set node.outputs k b.0.0) refl W.cpu W.memory (all_set (OutFits n) node.outputs k b.0.0 W.outputs arrives.end) W.inputs)
          arrives.news;
      carried = on_link_carries k b.0.1.token arrives.token;
    })
took_token_leaves node k Marker after W low e = cc

took_leaves : {n : ℕ} (node : NodeState) (k : ℕ) (token : Token) (after : NodeState × List (ℕ × Token)) → IsWhole n node → CarriesByte token → took node k token ≡ Some after → Leaves n after
unfolding took
took_leaves {n} node k token after W low e = go (nat_lt k 4) e
  where
    go : (b : Bool) → cond b (took_token node k token) None ≡ Some after → Leaves n after
    go true e = took_token_leaves node k token after W low e
    go false e = cc

-- ## The law

pub node_steps : (count : ℕ) (node : NodeState) (after : NodeState × List (ℕ × Token)) → IsNodeOfBytes node → steps t414 count node ≡ Some after → IsNodeOfBytes after.0 × CarryBytes after.1
node_steps count node after N e =
    let leaves = steps_leave count node after (whole_of node N) e in
    (of_bytes (length node.memory) after.0 leaves.whole, leaves.carried)

pub node_took : (node : NodeState) (k : ℕ) (token : Token) (after : NodeState × List (ℕ × Token)) → IsNodeOfBytes node → CarriesByte token → took node k token ≡ Some after
    → IsNodeOfBytes after.0 × CarryBytes after.1
node_took node k token after N low e =
    let leaves = took_leaves node k token after (whole_of node N) low e in
    (of_bytes (length node.memory) after.0 leaves.whole, leaves.carried)

-- its memory stays as long
pub length-node_steps : (count : ℕ) (node : NodeState) (after : NodeState × List (ℕ × Token)) → IsNodeOfBytes node → steps t414 count node ≡ Some after → length after.0.memory ≡ length node.memory
length-node_steps count node after N e = let leaves = steps_leave count node after (whole_of node N) e in leaves.whole.memory.long

pub length-node_took : (node : NodeState) (k : ℕ) (token : Token) (after : NodeState × List (ℕ × Token)) → IsNodeOfBytes node → CarriesByte token → took node k token ≡ Some after
    → length after.0.memory ≡ length node.memory
length-node_took node k token after N low e = let leaves = took_leaves node k token after (whole_of node N) low e in leaves.whole.memory.long

-- by what a token's type says
pub carries : (token : Token) → ((byte : ℕ) → token ≡ Data byte → byte < 256) → CarriesByte token
carries (Data byte) small = small byte refl
carries Ack small = tt
carries Marker small = tt
