-- What an instruction asks of an end of a link leaves a processor of words, a memory of bytes, and the end's message inside
-- memory.
use Rattle.std.proofs.Common.{◌≡◌, ℕ, ◌+◌, ◌-◌, ◌^◌, ◌<◌, ◌≤◌, Bool, true, false, cond, List, [], ◌∷◌, length, refl, sym, ◌∙◌, arith, Option, Some, None}
use Rattle.std.specs.Prelude.{◌==◌, nat_le}
use Rattle.tp_law_machine.proofs.Lower.{ltb-true, leb-true, le-leb, and_parts, ne_eqb, eqb-false, Cpu, Fault, Token, Data, Ack, Transfer, OutEnd, NoOutput, Waits, InEnd, Idle, Inputs, Enabled, Started, OutRequest, Wish, Message, Enable, Disable, wrap, offset, byte_at, word_at, is_inside, stored, state_at, descriptor_of, without_b, save_writes, stopped, ready, choice_writes, chosen, passed_over, is_under_way, is_out_end, is_in_end, IsTransfer, FitsOutEnd, FitsInEnd, is_waiting, advanced, has_more, filled, in_started, in_enabled, in_disabled, LinkOutcome, Did, Fails, message, with_word, with_byte, begin_output, take_up, enabled, disabled, begin_input}
use Rattle.tp_model.specs.LinkStep.{◌>>=◌}
use Rattle.tp_law_machine.specs.NodeOfBytes.{CarriesByte, HoldsByte}
use Rattle.tp_law_machine.proofs.Memories.{Holds, HoldsIf, same_holds, stored_holds, byte_holds, byte_read, word_read}
use Rattle.tp_law_machine.proofs.Outcomes.{IsWish}
use Rattle.tp_law_machine.proofs.Processors.{IsCpu, descriptor_below, without_b_cpu, passed_over_cpu, chosen_cpu, stopped_cpu}

-- ## A message that goes on

-- what is left after a byte is inside, too
pub advanced_inside : (memory : List ℕ) (t : Transfer) → length memory ≤ 2 ^ 32 → is_under_way memory t ≡ true → has_more t ≡ true
    → (is_under_way memory (advanced t) ≡ true) × (offset (advanced t).pointer < length memory)
advanced_inside memory t small inside more =
    let two : 1 < t.left = ltb-true 1 t.left more in
    let some : (t.left == 0) ≡ false = ne_eqb t.left 0 (λ e. omega arith) in
    let parts = and_parts (nat_le 1 t.left) (is_inside memory t.pointer t.left) inside in
    let within : offset t.pointer + t.left ≤ length memory = leb-true (offset t.pointer + t.left) (length memory) (rw some at parts.1) in
    let next : offset (wrap (t.pointer + 1)) ≡ offset t.pointer + 1 = omega arith in
    let left : (t.left - 1 == 0) ≡ false = ne_eqb (t.left - 1) 0 (λ e. omega arith) in (
      rw (le-leb 1 (t.left - 1) (omega arith), left) (le-leb (offset (wrap (t.pointer + 1)) + (t.left - 1)) (length memory) (omega arith)),
      omega arith,
    )

-- A message, or an end's, fits a memory of `n` bytes, and its numbers are words; what the end holds is a byte.
pub record Fits (n : ℕ) (t : Transfer) : Type 0 where
  pub is : (memory : List ℕ) → length memory ≡ n → is_under_way memory t ≡ true
  pub words : IsTransfer t

pub record OutFits (n : ℕ) (end : OutEnd) : Type 0 where
  pub is : (memory : List ℕ) → length memory ≡ n → is_out_end memory end ≡ true
  pub words : FitsOutEnd end

pub record InFits (n : ℕ) (end : InEnd) : Type 0 where
  pub is : (memory : List ℕ) → length memory ≡ n → is_in_end memory end ≡ true
  pub words : FitsInEnd end
  pub held : HoldsByte end

pub out_fits : (memory : List ℕ) (end : OutEnd) → is_out_end memory end ≡ true → FitsOutEnd end → OutFits (length memory) end
out_fits memory NoOutput inside words = record { is = λ other same. refl; words = words }
out_fits memory (Waits t) inside words = record { is = λ other same. rw same inside; words = words }

pub in_fits : (memory : List ℕ) (end : InEnd) → is_in_end memory end ≡ true → FitsInEnd end → HoldsByte end → InFits (length memory) end
in_fits memory (Idle held) inside words byte = record { is = λ other same. refl; words = words; held = byte }
in_fits memory (Inputs t) inside words byte = record { is = λ other same. rw same inside; words = words; held = byte }
in_fits memory (Enabled process) inside words byte = record { is = λ other same. refl; words = words; held = byte }

pub waits_fits : (n : ℕ) (t : Transfer) → Fits n t → OutFits n (Waits t)
waits_fits n t fits = record { is = λ memory same. fits.is memory same; words = fits.words }

pub inputs_fits : (n : ℕ) (t : Transfer) → Fits n t → InFits n (Inputs t)
inputs_fits n t fits = record { is = λ memory same. fits.is memory same; words = fits.words; held = tt }

pub no_output_fits : (n : ℕ) → OutFits n NoOutput
no_output_fits n = record { is = λ memory same. refl; words = tt }

pub none_fits : (n : ℕ) → InFits n (Idle None)
none_fits n = record { is = λ memory same. refl; words = tt; held = tt }

pub byte_fits : (n byte : ℕ) → byte < 256 → InFits n (Idle (Some byte))
byte_fits n byte h = record { is = λ memory same. refl; words = tt; held = h }

enabled_fits : (n process : ℕ) → process < 2 ^ 32 → InFits n (Enabled process)
enabled_fits n process h = record { is = λ memory same. refl; words = h; held = tt }

pub advanced_fits : (n : ℕ) (t : Transfer) → n ≤ 2 ^ 32 → Fits n t → has_more t ≡ true → Fits n (advanced t)
advanced_fits n t small fits more = record {
  is = λ memory same. (advanced_inside memory t (rw same small) (fits.is memory same) more).0;
  words = let left = fits.words.2 in (fits.words.0, omega arith, omega arith);
}

pub filled_fits : (n : ℕ) (t : Transfer) → n ≤ 2 ^ 32 → Fits n t → InFits n (filled t)
filled_fits n t small fits = go (has_more t) refl
  where
    go : (b : Bool) → has_more t ≡ b → InFits n (cond b (Inputs (advanced t)) (Idle None))
    go true more = inputs_fits n (advanced t) (advanced_fits n t small fits more)
    go false none = none_fits n

-- the message of a process, whose range was tested
message_fits : (pointer count : ℕ) (cpu : Cpu) (memory : List ℕ) (n : ℕ) → length memory ≡ n → (count == 0) ≡ false → is_inside memory pointer count ≡ true
    → pointer < 2 ^ 32 → count < 2 ^ 32 → Fits n (message pointer count cpu)
message_fits pointer count cpu memory n same some inside low few =
    record {
      is = λ other here.
          let whole : is_inside other pointer count ≡ true = rw (here ∙ sym same) inside in
          let one : nat_le 1 count ≡ true = le-leb 1 count (least count some) in
          rw one whole;
      words = (descriptor_below cpu, low, few);
    }
  where
    least : (count : ℕ) → (count == 0) ≡ false → 1 ≤ count
    least count some = let apart = eqb-false count 0 some in omega arith

-- ## What is done at an end

-- what leaves, if something does, carries a byte
abbrev pub MayCarryByte : Option Token → Type 0
MayCarryByte None = Unit {0}
MayCarryByte (Some token) = CarriesByte token

abbrev DidFit : {End : Type 0} → (ℕ → End → Type 0) → ℕ → LinkOutcome End → Type 0
DidFit fits n (Did cpu memory end token) = IsCpu cpu × Holds n memory × fits n end × MayCarryByte token
DidFit fits n (Fails fault) = Unit {0}

-- the processor, the memory and the end stay like that
pub record LinkKeeps {End : Type 0} (fits : ℕ → End → Type 0) (n : ℕ) (outcome : LinkOutcome End) : Type 0 where
  pub is : DidFit fits n outcome

module _ {End : Type 0} {fits : ℕ → End → Type 0} {n : ℕ} where
  did : (cpu : Cpu) (memory : List ℕ) (end : End) (token : Option Token) → IsCpu cpu → Holds n memory → fits n end → MayCarryByte token → LinkKeeps fits n (Did cpu memory end token)
  did cpu memory end token C H fit carried = record { is = (C, H, fit, carried) }

  fails : (fault : Fault) → LinkKeeps fits n (Fails fault)
  fails fault = record { is = tt }

  word_found : {memory : List ℕ} (address : ℕ) (rest : ℕ → LinkOutcome End) → Holds n memory → ((word : ℕ) → word < 2 ^ 32 → LinkKeeps fits n (rest word)) → LinkKeeps fits n (word_at memory address >>= rest)
  word_found {memory} address rest H h = go (word_at memory address) (word_read memory address H.bytes).is
    where
      go : (o : Option ℕ) → ((x : ℕ) → o ≡ Some x → x < 2 ^ 32) → LinkKeeps fits n (o >>= rest)
      go None low = record { is = tt }
      go (Some x) low = h x (low x refl)

  byte_found : {memory : List ℕ} (address : ℕ) (rest : ℕ → LinkOutcome End) → Holds n memory → ((byte : ℕ) → byte < 256 → LinkKeeps fits n (rest byte)) → LinkKeeps fits n (byte_at memory address >>= rest)
  byte_found {memory} address rest H h = go (byte_at memory address) (byte_read memory address H.bytes).is
    where
      go : (o : Option ℕ) → ((x : ℕ) → o ≡ Some x → x < 256) → LinkKeeps fits n (o >>= rest)
      go None low = record { is = tt }
      go (Some x) low = h x (low x refl)

  held : (o : Option (List ℕ)) (rest : List ℕ → LinkOutcome End) → HoldsIf n o → ((memory : List ℕ) → Holds n memory → LinkKeeps fits n (rest memory)) → LinkKeeps fits n (o >>= rest)
  held None rest H h = record { is = tt }
  held (Some memory) rest H h = h memory (H.is memory refl)

  either : (b : Bool) (x y : LinkOutcome End) → (b ≡ true → LinkKeeps fits n x) → (b ≡ false → LinkKeeps fits n y) → LinkKeeps fits n (cond b x y)
  either true x y h k = h refl
  either false x y h k = k refl

with_word_holds : {n : ℕ} {memory : List ℕ} (word : Option ℕ) (cpu : Cpu) → Holds n memory → HoldsIf n (with_word word cpu memory)
with_word_holds None cpu H = same_holds H
with_word_holds (Some word) cpu H = stored_holds ((cpu.wptr, word) ∷ []) H

-- a byte that may be there
abbrev pub IsByteIf : Option ℕ → Type 0
IsByteIf None = Unit {0}
IsByteIf (Some byte) = byte < 256

with_byte_holds : {n : ℕ} {memory : List ℕ} (byte : Option ℕ) (address : ℕ) → Holds n memory → IsByteIf byte → HoldsIf n (with_byte byte address memory)
with_byte_holds None address H low = same_holds H
with_byte_holds (Some byte) address H low = byte_holds address byte H low

pub begin_output_keeps : {n : ℕ} {cpu : Cpu} {memory : List ℕ} (request : OutRequest) (end : OutEnd) → IsCpu cpu → Holds n memory → request.pointer < 2 ^ 32 → request.count < 2 ^ 32 → OutFits n end
    → LinkKeeps OutFits n (begin_output request end cpu memory)
begin_output_keeps {n} {cpu} {memory} request end C H low few fit =
    held (with_word request.word cpu memory) _ (with_word_holds request.word cpu H)
    (λ holding now.
    either (request.count == 0) _ _ (λ none. did cpu holding end None C now fit tt)
    (λ some. either (is_waiting end) _ _ (λ waits. fails _)
    (λ idle. either (is_inside holding request.pointer request.count) _ _
    (λ inside. byte_found request.pointer _ now
    (λ byte small. held (stored holding (save_writes cpu)) _ (stored_holds (save_writes cpu) now)
    (λ saved then. did (stopped cpu) saved (Waits (message request.pointer request.count cpu)) (Some (Data byte)) (stopped_cpu C) then
    (waits_fits n (message request.pointer request.count cpu) (message_fits request.pointer request.count cpu holding n now.long some inside low few)) small)))
    (λ outside. fails _))))

-- the end with which an input begins, and what leaves and is stored
record BeginsWith (n : ℕ) (t : Transfer) (begun : Option (InEnd × Started)) : Type 0 where
  is : (x : InEnd × Started) → begun ≡ Some x → Fits n t → InFits n x.0 × MayCarryByte x.1.token × IsByteIf x.1.byte

started_fits : (n : ℕ) (t : Transfer) (end : InEnd) → n ≤ 2 ^ 32 → InFits n end → BeginsWith n t (in_started t end)
started_fits n t (Idle None) small fit = record { is = λ x e fits. let same : (Inputs t, record { token = None; byte = None; waits = true }) ≡ x = cc in rw (← same) (inputs_fits n t fits, tt, tt) }
started_fits n t (Idle (Some byte)) small fit =
    record { is = λ x e fits. let same : (filled t, record { token = Some Ack; byte = Some byte; waits = has_more t }) ≡ x = cc in rw (← same) (filled_fits n t small fits, tt, fit.held) }
started_fits n t (Inputs other) small fit = record { is = λ x e fits. cc }
started_fits n t (Enabled process) small fit = record { is = λ x e fits. cc }

take_up_keeps : {n : ℕ} {cpu : Cpu} {memory : List ℕ} (begun : Option (InEnd × Started)) (pointer count : ℕ) → IsCpu cpu → Holds n memory → pointer < 2 ^ 32 → count < 2 ^ 32 → (count == 0) ≡ false
    → BeginsWith n (message pointer count cpu) begun → LinkKeeps InFits n (take_up begun pointer count cpu memory)
take_up_keeps None pointer count C H low few some begins = fails _
take_up_keeps {n} {cpu} {memory} (Some begun) pointer count C H low few some begins =
    either (is_inside memory pointer count) _ _
    (λ inside.
    let all = begins.is begun refl (message_fits pointer count cpu memory n H.long some inside low few) in
    held (with_byte begun.1.byte pointer memory) _ (with_byte_holds begun.1.byte pointer H all.2)
    (λ filled now. held (stored filled (cond begun.1.waits (save_writes cpu) [])) _ (stored_holds (cond begun.1.waits (save_writes cpu) []) now)
    (λ saved then. did (cond begun.1.waits (stopped cpu) cpu) saved begun.0 begun.1.token (waiting begun.1.waits) then all.0 all.1)))
    (λ outside. fails _)
  where
    waiting : (b : Bool) → IsCpu (cond b (stopped cpu) cpu)
    waiting true = stopped_cpu C
    waiting false = C

-- a guard leaves no message
record GuardFits (n : ℕ) (guarded : Option (InEnd × Bool)) : Type 0 where
  is : (x : InEnd × Bool) → guarded ≡ Some x → InFits n x.0

enabled_keeps : {n : ℕ} {cpu : Cpu} {memory : List ℕ} (guarded : Option (InEnd × Bool)) → IsCpu cpu → Holds n memory → GuardFits n guarded → LinkKeeps InFits n (enabled guarded cpu memory)
enabled_keeps None C H fit = fails _
enabled_keeps {n} {cpu} {memory} (Some guarded) C H fit =
    let writes = cond guarded.1 ((state_at cpu.wptr, ready) ∷ []) [] in
    held (stored memory writes) _ (stored_holds writes H)
    (λ after now. did (without_b cpu) after guarded.0 None (without_b_cpu C) now (fit.is guarded refl) tt)

disabled_keeps : {n : ℕ} {cpu : Cpu} {memory : List ℕ} (guarded : Option (InEnd × Bool)) → IsCpu cpu → Holds n memory → GuardFits n guarded → LinkKeeps InFits n (disabled guarded cpu memory)
disabled_keeps None C H fit = fails _
disabled_keeps {n} {cpu} {memory} (Some guarded) C H fit =
    either guarded.1 _ _
    (λ yes. word_found cpu.wptr _ H
    (λ word low. held (stored memory (choice_writes word cpu)) _ (stored_holds (choice_writes word cpu) H)
    (λ after now. did (chosen word cpu) after guarded.0 None (chosen_cpu word C) now (fit.is guarded refl) tt)))
    (λ no. did (passed_over cpu) memory guarded.0 None (passed_over_cpu C) H (fit.is guarded refl) tt)

guard_fits : {n : ℕ} (end : InEnd) (flag : Bool) → InFits n end → GuardFits n (Some (end, flag))
guard_fits {n} end flag fit = record { is = λ x e. let same : end ≡ x.0 = cc in rw (← same) fit }

enables_fits : (n process : ℕ) (end : InEnd) → process < 2 ^ 32 → InFits n end → GuardFits n (in_enabled process end)
enables_fits n process (Idle None) h fit = guard_fits (Enabled process) false (enabled_fits n process h)
enables_fits n process (Idle (Some byte)) h fit = guard_fits (Idle (Some byte)) true fit
enables_fits n process (Inputs t) h fit = record { is = λ x e. cc }
enables_fits n process (Enabled other) h fit = go (other == process)
  where
    go : (b : Bool) → GuardFits n (cond b (Some (Enabled other, false)) None)
    go true = guard_fits (Enabled other) false fit
    go false = record { is = λ x e. cc }

disables_fits : (n process : ℕ) (end : InEnd) → InFits n end → GuardFits n (in_disabled process end)
disables_fits n process (Idle None) fit = guard_fits (Idle None) false fit
disables_fits n process (Idle (Some byte)) fit = guard_fits (Idle (Some byte)) true fit
disables_fits n process (Inputs t) fit = record { is = λ x e. cc }
disables_fits n process (Enabled other) fit = go (other == process)
  where
    go : (b : Bool) → GuardFits n (cond b (Some (Idle None, false)) None)
    go true = guard_fits (Idle None) false (none_fits n)
    go false = record { is = λ x e. cc }

pub begin_input_keeps : {n : ℕ} {cpu : Cpu} {memory : List ℕ} (wish : Wish) (end : InEnd) → n ≤ 2 ^ 32 → IsCpu cpu → Holds n memory → IsWish wish → InFits n end
    → LinkKeeps InFits n (begin_input wish end cpu memory)
begin_input_keeps {n} {cpu} {memory} (Message pointer count) end small C H wish fit =
    either (count == 0) _ _ (λ none. did cpu memory end None C H fit tt)
    (λ some. take_up_keeps (in_started (message pointer count cpu) end) pointer count C H wish.0 wish.1 some (started_fits n (message pointer count cpu) end small fit))
begin_input_keeps {n} {cpu} {memory} Enable end small C H wish fit = enabled_keeps (in_enabled (descriptor_of cpu) end) C H (enables_fits n (descriptor_of cpu) end (descriptor_below cpu) fit)
begin_input_keeps {n} {cpu} {memory} Disable end small C H wish fit = disabled_keeps (in_disabled (descriptor_of cpu) end) C H (disables_fits n (descriptor_of cpu) end fit)
