-- What a node's instructions and tokens do at one end of a link, counted in Data and Acks.
use Rattle.std.proofs.Common.{◌≡◌, ℕ, ◌+◌, Bool, true, false, List, [], ◌∷◌, refl, subst, arith, Option, Some, None}
use Rattle.std.specs.Prelude.{◌==◌, if◌then◌else◌}
use Rattle.tp_law_machine.proofs.Lower.{option_map, Token, Data, Ack, Transfer, OutEnd, Waits, NoOutput, InEnd, Inputs, Enabled, Idle, Arrival, Nobody, Process, Alternative, Cpu, Fault, OutRequest, Wish, Message, Enable, Disable, bit, descriptor_of, datas, acks, markers, is_waiting, is_holding, has_more, advanced, out_acked, filled, in_arrived, LinkOutcome, Did, Fails, begin_output, enabled, disabled, begin_input}
use Rattle.tp_model.specs.LinkStep.{◌>>=◌}

-- what leaves, as a list
abbrev pub tokens : Option Token → List Token
tokens None = []
tokens (Some token) = token ∷ []

-- An output end begins to wait exactly when it sends Data, and sends nothing else.
pub record OutMoves (before after : OutEnd) (token : Option Token) : Type 0 where
  pub sent : bit (is_waiting after) ≡ bit (is_waiting before) + datas (tokens token)
  pub no_acks : acks (tokens token) ≡ 0
  pub no_markers : markers (tokens token) ≡ 0

-- An input end gives up its byte exactly when it sends an Ack, and sends nothing else.
pub record InMoves (before after : InEnd) (token : Option Token) : Type 0 where
  pub sent : bit (is_holding after) + acks (tokens token) ≡ bit (is_holding before)
  pub no_datas : datas (tokens token) ≡ 0
  pub no_markers : markers (tokens token) ≡ 0

abbrev pub OutKeeps : OutEnd → LinkOutcome OutEnd → Type 0
OutKeeps end (Did cpu memory after token) = OutMoves end after token
OutKeeps end (Fails fault) = Unit {0}

abbrev pub InKeeps : InEnd → LinkOutcome InEnd → Type 0
InKeeps end (Did cpu memory after token) = InMoves end after token
InKeeps end (Fails fault) = Unit {0}

pub record OutKept (end : OutEnd) (outcome : LinkOutcome OutEnd) : Type 0 where
  pub is : OutKeeps end outcome

pub record InKept (end : InEnd) (outcome : LinkOutcome InEnd) : Type 0 where
  pub is : InKeeps end outcome

-- ## Outputs

out_same : (end : OutEnd) (cpu : Cpu) (memory : List ℕ) → OutKept end (Did cpu memory end None)
out_same end cpu memory = record { is = record { sent = omega arith; no_acks = refl; no_markers = refl } }

out_begins : (t : Transfer) (byte : ℕ) (cpu : Cpu) (memory : List ℕ) → OutKept NoOutput (Did cpu memory (Waits t) (Some (Data byte)))
out_begins t byte cpu memory = record { is = record { sent = refl; no_acks = refl; no_markers = refl } }

out_fails : (end : OutEnd) (fault : Fault) → OutKept end (Fails fault)
out_fails end fault = record { is = tt }

out_found : {A : Type 0} (end : OutEnd) (o : Option A) (rest : A → LinkOutcome OutEnd) → ((x : A) → OutKept end (rest x)) → OutKept end (o >>= rest)
out_found end None rest h = record { is = tt }
out_found end (Some x) rest h = h x

out_either : (end : OutEnd) (b : Bool) (x y : LinkOutcome OutEnd) → OutKept end x → OutKept end y → OutKept end (if b then x else y)
out_either end true x y h k = h
out_either end false x y h k = k

ruleset outs = (out_same, out_begins, out_fails, out_found, out_either)

pub begin_output_kept : (request : OutRequest) (end : OutEnd) (cpu : Cpu) (memory : List ℕ) → OutKept end (begin_output request end cpu memory)
begin_output_kept request NoOutput cpu memory = search outs depth 10
begin_output_kept request (Waits t) cpu memory = search outs depth 10

-- ## Inputs

pub is_holding-filled : (t : Transfer) → is_holding (filled t) ≡ false
is_holding-filled t = go (has_more t)
  where
    go : (b : Bool) → is_holding (if b then Inputs (advanced t) else Idle None) ≡ false
    go true = refl
    go false = refl

in_same : (end : InEnd) (cpu : Cpu) (memory : List ℕ) → InKept end (Did cpu memory end None)
in_same end cpu memory = record { is = record { sent = omega arith; no_datas = refl; no_markers = refl } }

in_inputs : (t : Transfer) (cpu : Cpu) (memory : List ℕ) → InKept (Idle None) (Did cpu memory (Inputs t) None)
in_inputs t cpu memory = record { is = record { sent = refl; no_datas = refl; no_markers = refl } }

in_filled : (byte : ℕ) (t : Transfer) (cpu : Cpu) (memory : List ℕ) → InKept (Idle (Some byte)) (Did cpu memory (filled t) (Some Ack))
in_filled byte t cpu memory = record { is = record { sent = rw (is_holding-filled t) refl; no_datas = refl; no_markers = refl } }

in_enables : (process : ℕ) (cpu : Cpu) (memory : List ℕ) → InKept (Idle None) (Did cpu memory (Enabled process) None)
in_enables process cpu memory = record { is = record { sent = refl; no_datas = refl; no_markers = refl } }

in_disables : (process : ℕ) (cpu : Cpu) (memory : List ℕ) → InKept (Enabled process) (Did cpu memory (Idle None) None)
in_disables process cpu memory = record { is = record { sent = refl; no_datas = refl; no_markers = refl } }

in_fails : (end : InEnd) (fault : Fault) → InKept end (Fails fault)
in_fails end fault = record { is = tt }

in_found : {A : Type 0} (end : InEnd) (o : Option A) (rest : A → LinkOutcome InEnd) → ((x : A) → InKept end (rest x)) → InKept end (o >>= rest)
in_found end None rest h = record { is = tt }
in_found end (Some x) rest h = h x

in_either : (end : InEnd) (b : Bool) (x y : LinkOutcome InEnd) → InKept end x → InKept end y → InKept end (if b then x else y)
in_either end true x y h k = h
in_either end false x y h k = k

ruleset ins = (in_same, in_inputs, in_filled, in_enables, in_disables, in_fails, in_found, in_either)

-- an alternative of another process, or of this one
enabled_kept : (same : Bool) (other : ℕ) (cpu : Cpu) (memory : List ℕ) → InKept (Enabled other) (enabled (if same then Some (Enabled other, false) else None) cpu memory)
enabled_kept true other cpu memory = search ins
enabled_kept false other cpu memory = search ins

disabled_kept : (same : Bool) (other : ℕ) (cpu : Cpu) (memory : List ℕ) → InKept (Enabled other) (disabled (if same then Some (Idle None, false) else None) cpu memory)
disabled_kept true other cpu memory = search ins
disabled_kept false other cpu memory = search ins

pub begin_input_kept : (wish : Wish) (end : InEnd) (cpu : Cpu) (memory : List ℕ) → InKept end (begin_input wish end cpu memory)
begin_input_kept (Message pointer count) (Idle None) cpu memory = search ins depth 10
begin_input_kept (Message pointer count) (Idle (Some byte)) cpu memory = search ins depth 10
begin_input_kept (Message pointer count) (Inputs t) cpu memory = search ins depth 10
begin_input_kept (Message pointer count) (Enabled process) cpu memory = search ins depth 10
begin_input_kept Enable (Idle None) cpu memory = search ins depth 10
begin_input_kept Enable (Idle (Some byte)) cpu memory = search ins depth 10
begin_input_kept Enable (Inputs t) cpu memory = search ins depth 10
begin_input_kept Enable (Enabled other) cpu memory = enabled_kept (other == descriptor_of cpu) other cpu memory
begin_input_kept Disable (Idle None) cpu memory = search ins depth 10
begin_input_kept Disable (Idle (Some byte)) cpu memory = search ins depth 10
begin_input_kept Disable (Inputs t) cpu memory = search ins depth 10
begin_input_kept Disable (Enabled other) cpu memory = disabled_kept (other == descriptor_of cpu) other cpu memory

-- ## Tokens that come in

-- An end that takes a byte holds it, or answers with an Ack.
pub record Arrived (before after : InEnd) (token : Option Token) : Type 0 where
  pub sent : bit (is_holding after) + acks (tokens token) ≡ bit (is_holding before) + 1
  pub no_datas : datas (tokens token) ≡ 0
  pub no_markers : markers (tokens token) ≡ 0

-- An end that takes an Ack waits no longer, or sends the next byte.
pub record Acked (before after : OutEnd) (token : Option Token) : Type 0 where
  pub sent : bit (is_waiting after) + 1 ≡ bit (is_waiting before) + datas (tokens token)
  pub no_acks : acks (tokens token) ≡ 0
  pub no_markers : markers (tokens token) ≡ 0

pub in_arrived_kept : (byte : ℕ) (end : InEnd) (arrived : InEnd × Arrival) → in_arrived byte end ≡ Some arrived → Arrived end arrived.0 arrived.1.token
in_arrived_kept byte (Idle None) arrived e =
    let same : (Idle (Some byte), record { token = None; place = None; news = Nobody }) ≡ arrived = cc in
    subst (λ r. Arrived (Idle None) r.0 r.1.token) same (record { sent = refl; no_datas = refl; no_markers = refl })
in_arrived_kept byte (Idle (Some held)) arrived e = cc
in_arrived_kept byte (Inputs t) arrived e =
    let same : (filled t, record { token = Some Ack; place = Some t.pointer; news = if has_more t then Nobody else Process t.process }) ≡ arrived = cc in
    subst (λ r. Arrived (Inputs t) r.0 r.1.token) same (record { sent = rw (is_holding-filled t) refl; no_datas = refl; no_markers = refl })
in_arrived_kept byte (Enabled process) arrived e =
    let same : (Idle (Some byte), record { token = None; place = None; news = Alternative process }) ≡ arrived = cc in
    subst (λ r. Arrived (Enabled process) r.0 r.1.token) same (record { sent = refl; no_datas = refl; no_markers = refl })

pub out_acked_kept : (next : Option ℕ) (end : OutEnd) (arrived : OutEnd × Arrival) → out_acked next end ≡ Some arrived → Acked end arrived.0 arrived.1.token
out_acked_kept next NoOutput arrived e = cc
out_acked_kept next (Waits t) arrived e = go (has_more t) next e
  where
    go : (b : Bool) (next : Option ℕ)
        → (if b then option_map (λ byte. (Waits (advanced t), record { token = Some (Data byte); place = None; news = Nobody })) next else Some (NoOutput, record { token = None; place = None; news = Process t.process })) ≡ Some arrived
        → Acked (Waits t) arrived.0 arrived.1.token
    go true None e = cc
    go true (Some byte) e =
        let same : (Waits (advanced t), record { token = Some (Data byte); place = None; news = Nobody }) ≡ arrived = cc in
        subst (λ r. Acked (Waits t) r.0 r.1.token) same (record { sent = refl; no_acks = refl; no_markers = refl })
    go false next e =
        let same : (NoOutput, record { token = None; place = None; news = Process t.process }) ≡ arrived = cc in
        subst (λ r. Acked (Waits t) r.0 r.1.token) same (record { sent = refl; no_acks = refl; no_markers = refl })
