-- The processor asks for links 0 to 3 and for no other.
use Rattle.std.proofs.Common.{ℕ, ◌-◌, ◌/◌, ◌<◌, Bool, true, false, inl, inr, List, [], ◌∷◌, arith, Option, Some, None, drop}
use Rattle.std.specs.Prelude.{◌==◌, nat_lt, if◌then◌else◌, is_some, Result, Ok, Err}
use Rattle.tp_law_machine.proofs.Lower.{cases_Bool, ltb-true, Fun, J, Ldlp, Ldnl, Ldl, Call, Cj, Ajw, Stl, Stnl, Opr, Op, Lb, Endp, Gcall, In, Out, Startp, Outbyte, Outword, Stopp, Ldpi, Ldpri, Ret, Lend, Disc, Diss, Runp, Sb, Gajw, Alt, Altwt, Altend, Enbc, Enbs, Move, Stoperr, Instr, Regs, DecodeFault, NeedMore, TooLong, NoOp, Cpu, Fault, State, High, Low, ChannelWord, Output, Input, Internal, not_process, offset, word_offset, stored, operand_of, op_of, decoded, op_row, fun_row, Outcome, Next, Halts, Rests, Sends, Receives, leaves, interrupt, channel_at, input, output, input_at, output_at, output_word_at, enable, enable_at, disable, disable_at, by_row, operate, operation, effect, executed, instruction, in_state, step_of}
use Rattle.tp_model.specs.declared.processor.State.TheVariants.{Idle}
use Rattle.tp_model.specs.Outcome.{◌>>=◌}

-- what an outcome asks of a link is asked of one of the four
abbrev pub AsksInside : Outcome → Type 0
AsksInside (Next cpu memory) = Unit {0}
AsksInside (Halts fault) = Unit {0}
AsksInside Rests = Unit {0}
AsksInside (Sends request) = request.link < 4
AsksInside (Receives request) = request.link < 4

pub record IsInside (outcome : Outcome) : Type 0 where
  pub is : AsksInside outcome

-- ## Forms

next_inside : (cpu : Cpu) (memory : List ℕ) → IsInside (Next cpu memory)
next_inside cpu memory = record { is = tt }

halts_inside : (fault : Fault) → IsInside (Halts fault)
halts_inside fault = record { is = tt }

rests_inside : IsInside Rests
rests_inside = record { is = tt }

leaves_inside : (o : Option (List ℕ)) (cpu : Cpu) → IsInside (leaves o cpu)
leaves_inside None cpu = record { is = tt }
leaves_inside (Some memory) cpu = record { is = tt }

found_inside : {A : Type 0} (o : Option A) (rest : A → Outcome) → ((x : A) → IsInside (rest x)) → IsInside (o >>= rest)
found_inside None rest h = record { is = tt }
found_inside (Some x) rest h = h x

either_inside : (b : Bool) (x y : Outcome) → IsInside x → IsInside y → IsInside (if b then x else y)
either_inside true x y h k = h
either_inside false x y h k = k

ruleset inside = (next_inside, halts_inside, rests_inside, leaves_inside, found_inside, either_inside)

-- ## Channels

input_inside : (count channel pointer : ℕ) (cpu : Cpu) (memory : List ℕ) → IsInside (input count channel pointer cpu memory)
input_inside count channel pointer cpu memory = search inside

output_inside : (count channel pointer : ℕ) (cpu : Cpu) (memory : List ℕ) → IsInside (output count channel pointer cpu memory)
output_inside count channel pointer cpu memory = search inside depth 8

enable_inside : (cpu : Cpu) (memory : List ℕ) → IsInside (enable cpu memory)
enable_inside cpu memory = search inside

disable_inside : (cpu : Cpu) (memory : List ℕ) → IsInside (disable cpu memory)
disable_inside cpu memory = search inside depth 8

-- the channel that an address names is one of the four links, or none
abbrev pub LinkInside : ChannelWord → Type 0
LinkInside (Output link) = link < 4
LinkInside (Input link) = link < 4
LinkInside Internal = Unit {0}

pub channel_at_inside : (address : ℕ) → LinkInside (channel_at address)
channel_at_inside address = go (word_offset address)
  where
    go : (at : ℕ) → LinkInside (if nat_lt at 16 then Output (at / 4) else if nat_lt at 32 then Input ((at - 16) / 4) else Internal)
    go at = elim (cases_Bool (nat_lt at 16)) [
      | inl y ↦ let h : at < 16 = ltb-true at 16 y in rw y (omega arith)
      | inr n ↦ elim (cases_Bool (nat_lt at 32)) [
        | inl y ↦ let h : at < 32 = ltb-true at 32 y in rw (n, y) (omega arith)
        | inr m ↦ rw (n, m) tt
      ]
    ]

input_at_inside : (channel : ChannelWord) (cpu : Cpu) (memory : List ℕ) → LinkInside channel → IsInside (input_at channel cpu memory)
input_at_inside (Output link) cpu memory h = search inside
input_at_inside (Input link) cpu memory h = record { is = h }
input_at_inside Internal cpu memory h = input_inside cpu.regs.a cpu.regs.b cpu.regs.c cpu memory

output_at_inside : (channel : ChannelWord) (cpu : Cpu) (memory : List ℕ) → LinkInside channel → IsInside (output_at channel cpu memory)
output_at_inside (Output link) cpu memory h = record { is = h }
output_at_inside (Input link) cpu memory h = search inside
output_at_inside Internal cpu memory h = output_inside cpu.regs.a cpu.regs.b cpu.regs.c cpu memory

output_word_at_inside : (channel : ChannelWord) (count : ℕ) (cpu : Cpu) (memory : List ℕ) → LinkInside channel → IsInside (output_word_at channel count cpu memory)
output_word_at_inside (Output link) count cpu memory h = record { is = h }
output_word_at_inside (Input link) count cpu memory h = search inside
output_word_at_inside Internal count cpu memory h = found_inside (stored memory ((cpu.wptr, cpu.regs.a) ∷ [])) _ (λ holding. output_inside count cpu.regs.b cpu.wptr cpu holding)

enable_at_inside : (channel : ChannelWord) (cpu : Cpu) (memory : List ℕ) → LinkInside channel → IsInside (enable_at channel cpu memory)
enable_at_inside (Output link) cpu memory h = search inside
enable_at_inside (Input link) cpu memory h = either_inside (cpu.regs.a == 0) _ _ (search inside) (record { is = h })
enable_at_inside Internal cpu memory h = either_inside (cpu.regs.a == 0) _ _ (search inside) (enable_inside cpu memory)

disable_at_inside : (channel : ChannelWord) (cpu : Cpu) (memory : List ℕ) → LinkInside channel → IsInside (disable_at channel cpu memory)
disable_at_inside (Output link) cpu memory h = search inside
disable_at_inside (Input link) cpu memory h = either_inside (cpu.regs.b == 0) _ _ (search inside) (record { is = h })
disable_at_inside Internal cpu memory h = either_inside (cpu.regs.b == 0) _ _ (search inside) (disable_inside cpu memory)

-- ## Instructions

by_row_inside : (regs : Option Regs) (cpu : Cpu) (memory : List ℕ) → IsInside (by_row regs cpu memory)
by_row_inside None cpu memory = search inside
by_row_inside (Some regs) cpu memory = search inside

operate_inside : (op : Op) (cpu : Cpu) (memory : List ℕ) → IsInside (operate op cpu memory)
operate_inside Lb cpu memory = search inside
operate_inside Sb cpu memory = search inside
operate_inside Move cpu memory = search inside
operate_inside Gcall cpu memory = search inside
operate_inside Ret cpu memory = search inside
operate_inside Gajw cpu memory = search inside
operate_inside Ldpi cpu memory = search inside
operate_inside Ldpri cpu memory = search inside
operate_inside Lend cpu memory = search inside depth 8
operate_inside Startp cpu memory = search inside
operate_inside Endp cpu memory = search inside depth 8
operate_inside Runp cpu memory = search inside
operate_inside Stopp cpu memory = search inside
operate_inside Stoperr cpu memory = search inside
operate_inside In cpu memory = input_at_inside _ cpu memory (channel_at_inside cpu.regs.b)
operate_inside Out cpu memory = output_at_inside _ cpu memory (channel_at_inside cpu.regs.b)
operate_inside Outbyte cpu memory = output_word_at_inside _ 1 cpu memory (channel_at_inside cpu.regs.b)
operate_inside Outword cpu memory = output_word_at_inside _ 4 cpu memory (channel_at_inside cpu.regs.b)
operate_inside Alt cpu memory = search inside
operate_inside Enbc cpu memory = enable_at_inside _ cpu memory (channel_at_inside cpu.regs.b)
operate_inside Enbs cpu memory = search inside
operate_inside Altwt cpu memory = search inside
operate_inside Disc cpu memory = disable_at_inside _ cpu memory (channel_at_inside cpu.regs.c)
operate_inside Diss cpu memory = search inside depth 8
operate_inside Altend cpu memory = search inside
operate_inside op cpu memory = by_row_inside (op_row op cpu.regs) cpu memory

operation_inside : (op : Option Op) (cpu : Cpu) (memory : List ℕ) → IsInside (operation op cpu memory)
operation_inside None cpu memory = search inside
operation_inside (Some op) cpu memory = operate_inside op cpu memory

effect_inside : (fun : Fun) (n : ℕ) (cpu : Cpu) (memory : List ℕ) → IsInside (effect fun n cpu memory)
effect_inside J n cpu memory = search inside depth 8
effect_inside Cj n cpu memory = search inside
effect_inside Call n cpu memory = search inside
effect_inside Ajw n cpu memory = search inside
effect_inside Ldlp n cpu memory = search inside
effect_inside Ldl n cpu memory = search inside
effect_inside Stl n cpu memory = search inside
effect_inside Ldnl n cpu memory = search inside
effect_inside Stnl n cpu memory = search inside
effect_inside Opr n cpu memory = operation_inside (op_of n) cpu memory
effect_inside fun n cpu memory = by_row_inside (fun_row fun n cpu.regs) cpu memory

executed_inside : (read : Result Instr DecodeFault) (cpu : Cpu) (memory : List ℕ) → IsInside (executed read cpu memory)
executed_inside (Ok i) cpu memory = effect_inside i.fun (operand_of i) _ memory
executed_inside (Err NeedMore) cpu memory = search inside
executed_inside (Err TooLong) cpu memory = search inside
executed_inside (Err NoOp) cpu memory = search inside

instruction_inside : (cpu : Cpu) (memory : List ℕ) → IsInside (instruction cpu memory)
instruction_inside cpu memory = executed_inside (decoded (drop (offset cpu.iptr) memory)) cpu memory

-- ## Steps

interrupt_inside : (cpu : Cpu) (memory : List ℕ) → IsInside (interrupt cpu memory)
interrupt_inside cpu memory = search inside depth 8

in_state_inside : (state : State) (cpu : Cpu) (memory : List ℕ) → IsInside (in_state state cpu memory)
in_state_inside Idle cpu memory = search inside depth 10
in_state_inside High cpu memory = instruction_inside cpu memory
in_state_inside Low cpu memory = either_inside (cpu.high.front == not_process) _ _ (instruction_inside cpu memory) (interrupt_inside cpu memory)

pub step_inside : (cpu : Cpu) (memory : List ℕ) → IsInside (step_of cpu memory)
unfolding step_of
step_inside cpu memory = either_inside (is_some cpu.halt) Rests _ rests_inside (in_state_inside cpu.state cpu memory)
