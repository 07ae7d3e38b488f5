-- A step of the processor leaves a processor of words and a memory of bytes, as long as it was.
use Rattle.std.proofs.Common.{◌≡◌, ℕ, ◌+◌, ◌*◌, ◌%◌, ◌^◌, ◌<◌, Bool, true, false, cond, List, [], ◌∷◌, ◌++◌, refl, arith, Option, Some, None, drop}
use Rattle.std.specs.Prelude.{◌==◌, is_some, Result, Ok, Err, pos, int_lt}
use Rattle.tp_law_machine.proofs.Lower.{Fun, J, Ldlp, Ldnl, Ldl, Call, Cj, Ajw, Stl, Stnl, Opr, Op, Lb, Endp, Gcall, In, Out, Startp, Outbyte, Outword, Stopp, Ldpi, Ldpri, Ret, Lend, Disc, Diss, Runp, Sb, Gajw, Alt, Altwt, Altend, Enbc, Enbs, Move, Stoperr, Instr, Regs, DecodeFault, NeedMore, TooLong, NoOp, Cpu, Fault, Queue, State, High, Low, ChannelWord, Output, Input, Internal, Wish, Message, Enable, Disable, wrap, less, not_process, signed, bit, offset, byte_at, word_at, is_inside, byte_stored, stored, copied, changed, operand_of, op_of, decoded, op_row, fun_row, Outcome, Next, Halts, Rests, Sends, Receives, leaves, workspace, state_at, saved_at, is_low, descriptor_of, queue_writes, rest_of_queue, started, dispatch_high, dispatch_low, save_writes, stop, past, must_slice, slice_writes, arrive, jump, kept_at, interrupt_writes, interrupt, restore, enabling, waiting, ready, is_alternative, none_chosen, signal_writes, altwt, choice_writes, choose, channel_at, wait_writes, waits_first, meets, waits_for_alternative, input, output, input_at, output_at, output_word_at, enable, enable_at, disable, disable_at, local, call_writes, call, ret, startp, endp, lend, by_row, operate, operation, effect, executed, instruction, idle, in_state, step_of}
use Rattle.tp_model.specs.declared.processor.State.TheVariants.{Idle}
use Rattle.tp_model.specs.Outcome.{◌>>=◌}
use Rattle.tp_law_machine.proofs.Memories.{Holds, HoldsIf, stored_holds, byte_holds, copied_holds, changed_holds, byte_read, word_read}
use Rattle.tp_law_machine.proofs.Processors.{IsCpu, IsQueue, IsWorkspace, is_workspace, with_regs_cpu, with_a_cpu, without_b_cpu, passed_over_cpu, chosen_cpu, with_wptr_cpu, goto_cpu, state_cpu, past_cpu, stopped_cpu, sliced_cpu, queued_cpu, signalled_cpu, started_cpu, high_cpu, low_cpu, restored_cpu, RestsQueue, rest_is_queue}
use Rattle.tp_law_machine.proofs.Rows.{KeepsWords, pushed, popped, op_words, fun_words}
use Rattle.tp_law_machine.proofs.Words.{bit_below, less_below, reads_word}

-- what is asked of a link: the message's pointer and length, and where the process goes on
abbrev pub IsWish : Wish → Type 0
IsWish (Message pointer count) = (pointer < 2 ^ 32) × (count < 2 ^ 32)
IsWish Enable = Unit {0}
IsWish Disable = Unit {0}

abbrev pub LeavesWhole : ℕ → Outcome → Type 0
LeavesWhole n (Next cpu memory) = IsCpu cpu × Holds n memory
LeavesWhole n (Halts fault) = Unit {0}
LeavesWhole n Rests = Unit {0}
LeavesWhole n (Sends request) = (request.pointer < 2 ^ 32) × (request.count < 2 ^ 32) × (request.next < 2 ^ 32)
LeavesWhole n (Receives request) = IsWish request.wish × (request.next < 2 ^ 32)

pub record Keeps (n : ℕ) (outcome : Outcome) : Type 0 where
  pub is : LeavesWhole n outcome

local_words : (operand : ℕ) (cpu : Cpu) → IsCpu cpu → IsWorkspace (local operand cpu)
local_words operand cpu C = let even = C.wptr.aligned in record { small = omega arith; aligned = omega arith }

module _ {n : ℕ} where
  -- ## Forms

  next_keeps : {cpu : Cpu} {memory : List ℕ} → IsCpu cpu → Holds n memory → Keeps n (Next cpu memory)
  next_keeps C H = record { is = (C, H) }

  halts_keeps : (fault : Fault) → Keeps n (Halts fault)
  halts_keeps fault = record { is = tt }

  rests_keeps : Keeps n Rests
  rests_keeps = record { is = tt }

  either_keeps : (b : Bool) (x y : Outcome) → Keeps n x → Keeps n y → Keeps n (cond b x y)
  either_keeps true x y h k = h
  either_keeps false x y h k = k

  leaves_keeps : {cpu : Cpu} (o : Option (List ℕ)) → IsCpu cpu → HoldsIf n o → Keeps n (leaves o cpu)
  leaves_keeps None C H = record { is = tt }
  leaves_keeps (Some memory) C H = record { is = (C, H.is memory refl) }

  writes_keep : {cpu : Cpu} {memory : List ℕ} (writes : List (ℕ × ℕ)) → IsCpu cpu → Holds n memory → Keeps n (leaves (stored memory writes) cpu)
  writes_keep {cpu} {memory} writes C H = leaves_keeps (stored memory writes) C (stored_holds writes H)

  -- a word, or a byte, that was read
  word_keeps : {memory : List ℕ} (address : ℕ) (rest : ℕ → Outcome) → Holds n memory → ((word : ℕ) → word < 2 ^ 32 → Keeps n (rest word)) → Keeps n (word_at memory address >>= rest)
  word_keeps {memory} address rest H h = go (word_at memory address) (word_read memory address H.bytes).is
    where
      go : (o : Option ℕ) → ((x : ℕ) → o ≡ Some x → x < 2 ^ 32) → Keeps n (o >>= rest)
      go None low = record { is = tt }
      go (Some x) low = h x (low x refl)

  byte_keeps : {memory : List ℕ} (address : ℕ) (rest : ℕ → Outcome) → Holds n memory → ((byte : ℕ) → byte < 256 → Keeps n (rest byte)) → Keeps n (byte_at memory address >>= rest)
  byte_keeps {memory} address rest H h = go (byte_at memory address) (byte_read memory address H.bytes).is
    where
      go : (o : Option ℕ) → ((x : ℕ) → o ≡ Some x → x < 256) → Keeps n (o >>= rest)
      go None low = record { is = tt }
      go (Some x) low = h x (low x refl)

  queue_keeps : (o : Option Queue) (rest : Queue → Outcome) → RestsQueue o → ((queue : Queue) → IsQueue queue → Keeps n (rest queue)) → Keeps n (o >>= rest)
  queue_keeps None rest Q h = record { is = tt }
  queue_keeps (Some queue) rest Q h = h queue (Q.is queue refl)

  memory_keeps : (o : Option (List ℕ)) (rest : List ℕ → Outcome) → HoldsIf n o → ((memory : List ℕ) → Holds n memory → Keeps n (rest memory)) → Keeps n (o >>= rest)
  memory_keeps None rest H h = record { is = tt }
  memory_keeps (Some memory) rest H h = h memory (H.is memory refl)

  -- ## Processes

  started_keeps : {cpu : Cpu} {memory : List ℕ} (front : ℕ) (state : State) → IsCpu cpu → Holds n memory → front < 2 ^ 32 → Keeps n (started front state cpu memory)
  started_keeps front state C H low = word_keeps (saved_at front) _ H (λ saved small. next_keeps (started_cpu front saved state C low small) H)

  dispatch_high_keeps : {cpu : Cpu} {memory : List ℕ} → IsCpu cpu → Holds n memory → Keeps n (dispatch_high cpu memory)
  dispatch_high_keeps {cpu} {memory} C H =
      queue_keeps (rest_of_queue cpu.high memory) _ (rest_is_queue cpu.high C.high H) (λ rest Q. started_keeps cpu.high.front High (high_cpu C Q) H C.high.front)

  dispatch_low_keeps : {cpu : Cpu} {memory : List ℕ} → IsCpu cpu → Holds n memory → Keeps n (dispatch_low cpu memory)
  dispatch_low_keeps {cpu} {memory} C H =
      queue_keeps (rest_of_queue cpu.low memory) _ (rest_is_queue cpu.low C.low H) (λ rest Q. started_keeps cpu.low.front Low (low_cpu C Q) H C.low.front)

  stop_keeps : {cpu : Cpu} {memory : List ℕ} → IsCpu cpu → Holds n memory → Keeps n (stop cpu memory)
  stop_keeps {cpu} C H = writes_keep (save_writes cpu) (stopped_cpu C) H

  arrive_keeps : {cpu : Cpu} {memory : List ℕ} (writes : List (ℕ × ℕ)) → IsCpu cpu → Holds n memory → Keeps n (arrive writes cpu memory)
  arrive_keeps {cpu} writes C H = either_keeps (must_slice cpu) _ _ (writes_keep (writes ++ slice_writes cpu) (sliced_cpu C) H) (writes_keep writes C H)

  jump_keeps : {cpu : Cpu} {memory : List ℕ} (to : ℕ) (writes : List (ℕ × ℕ)) → IsCpu cpu → Holds n memory → to < 2 ^ 32 → Keeps n (jump to writes cpu memory)
  jump_keeps to writes C H low = arrive_keeps writes (goto_cpu to C low) H

  interrupt_keeps : {cpu : Cpu} {memory : List ℕ} → IsCpu cpu → Holds n memory → Keeps n (interrupt cpu memory)
  interrupt_keeps {cpu} C H = writes_keep (interrupt_writes cpu) (state_cpu Idle C) H

  restore_keeps : {cpu : Cpu} {memory : List ℕ} (descriptor : ℕ) → IsCpu cpu → Holds n memory → descriptor < 2 ^ 32 → Keeps n (restore descriptor cpu memory)
  restore_keeps descriptor C H low =
      word_keeps (kept_at + 4) _ H (λ iptr hi. word_keeps (kept_at + 8) _ H (λ a ha. word_keeps (kept_at + 12) _ H (λ b hb. word_keeps (kept_at + 16) _ H (λ c hc.
      writes_keep ((kept_at, not_process) ∷ []) (restored_cpu descriptor iptr a b c Low C low hi ha hb hc) H))))

  idle_keeps : {cpu : Cpu} {memory : List ℕ} → IsCpu cpu → Holds n memory → Keeps n (idle cpu memory)
  idle_keeps {cpu} C H =
      either_keeps (cpu.high.front == not_process) _ _
      (word_keeps kept_at _ H (λ kept low.
      either_keeps (kept == not_process) _ _ (either_keeps (cpu.low.front == not_process) _ _ rests_keeps (dispatch_low_keeps C H)) (restore_keeps kept C H low)))
      (dispatch_high_keeps C H)

  -- ## Channels

  waits_first_keeps : {cpu : Cpu} {memory : List ℕ} (channel pointer count : ℕ) → IsCpu cpu → Holds n memory → Keeps n (waits_first channel pointer count cpu memory)
  waits_first_keeps {cpu} {memory} channel pointer count C H =
      either_keeps (is_inside memory pointer count) _ _ (writes_keep (wait_writes channel pointer cpu) (stopped_cpu C) H) (halts_keeps _)

  meets_keeps : {cpu : Cpu} {memory : List ℕ} (to from count channel partner : ℕ) → IsCpu cpu → Holds n memory → partner < 2 ^ 32 → Keeps n (meets to from count channel partner cpu memory)
  meets_keeps {cpu} {memory} to from count channel partner C H low =
      let writes = (channel, not_process) ∷ queue_writes partner cpu in
      leaves_keeps (changed memory to from count writes) (queued_cpu partner C low) (changed_holds to from count writes H)

  waits_for_alternative_keeps : {cpu : Cpu} {memory : List ℕ} (state partner channel pointer count : ℕ) → IsCpu cpu → Holds n memory → partner < 2 ^ 32
      → Keeps n (waits_for_alternative state partner channel pointer count cpu memory)
  waits_for_alternative_keeps {cpu} {memory} state partner channel pointer count C H low =
      either_keeps (is_inside memory pointer count) _ _
      (writes_keep (signal_writes state partner cpu ++ wait_writes channel pointer cpu) (stopped_cpu (signalled_cpu state partner C low)) H) (halts_keeps _)

  input_keeps : {cpu : Cpu} {memory : List ℕ} (count channel pointer : ℕ) → IsCpu cpu → Holds n memory → Keeps n (input count channel pointer cpu memory)
  input_keeps count channel pointer C H =
      word_keeps channel _ H (λ partner low.
      either_keeps (partner == not_process) _ _ (waits_first_keeps channel pointer count C H)
      (word_keeps (state_at (workspace partner)) _ H (λ from small. meets_keeps pointer from count channel partner C H low)))

  output_keeps : {cpu : Cpu} {memory : List ℕ} (count channel pointer : ℕ) → IsCpu cpu → Holds n memory → Keeps n (output count channel pointer cpu memory)
  output_keeps count channel pointer C H =
      word_keeps channel _ H (λ partner low.
      either_keeps (partner == not_process) _ _ (waits_first_keeps channel pointer count C H)
      (word_keeps (state_at (workspace partner)) _ H (λ to small.
      either_keeps (is_alternative to) _ _ (waits_for_alternative_keeps to partner channel pointer count C H low) (meets_keeps to pointer count channel partner C H low))))

  input_at_keeps : {cpu : Cpu} {memory : List ℕ} (channel : ChannelWord) → IsCpu cpu → Holds n memory → Keeps n (input_at channel cpu memory)
  input_at_keeps (Output link) C H = halts_keeps _
  input_at_keeps (Input link) C H = record { is = ((C.regs.c, C.regs.a), C.iptr) }
  input_at_keeps {cpu} Internal C H = input_keeps cpu.regs.a cpu.regs.b cpu.regs.c C H

  output_at_keeps : {cpu : Cpu} {memory : List ℕ} (channel : ChannelWord) → IsCpu cpu → Holds n memory → Keeps n (output_at channel cpu memory)
  output_at_keeps (Output link) C H = record { is = (C.regs.c, C.regs.a, C.iptr) }
  output_at_keeps (Input link) C H = halts_keeps _
  output_at_keeps {cpu} Internal C H = output_keeps cpu.regs.a cpu.regs.b cpu.regs.c C H

  output_word_at_keeps : {cpu : Cpu} {memory : List ℕ} (channel : ChannelWord) (count : ℕ) → IsCpu cpu → Holds n memory → count < 2 ^ 32 → Keeps n (output_word_at channel count cpu memory)
  output_word_at_keeps (Output link) count C H low = record { is = (C.wptr.small, low, C.iptr) }
  output_word_at_keeps (Input link) count C H low = halts_keeps _
  output_word_at_keeps {cpu} {memory} Internal count C H low =
      memory_keeps (stored memory ((cpu.wptr, cpu.regs.a) ∷ [])) _ (stored_holds ((cpu.wptr, cpu.regs.a) ∷ []) H) (λ holding held. output_keeps count cpu.regs.b cpu.wptr C held)

  enable_keeps : {cpu : Cpu} {memory : List ℕ} → IsCpu cpu → Holds n memory → Keeps n (enable cpu memory)
  enable_keeps {cpu} C H =
      word_keeps cpu.regs.b _ H (λ partner low.
      either_keeps (partner == not_process) _ _ (writes_keep ((cpu.regs.b, descriptor_of cpu) ∷ []) (without_b_cpu C) H)
      (either_keeps (partner == descriptor_of cpu) _ _ (next_keeps (without_b_cpu C) H) (writes_keep ((state_at cpu.wptr, ready) ∷ []) (without_b_cpu C) H)))

  enable_at_keeps : {cpu : Cpu} {memory : List ℕ} (channel : ChannelWord) → IsCpu cpu → Holds n memory → Keeps n (enable_at channel cpu memory)
  enable_at_keeps (Output link) C H = halts_keeps _
  enable_at_keeps {cpu} (Input link) C H = either_keeps (cpu.regs.a == 0) _ _ (next_keeps (without_b_cpu C) H) (record { is = (tt, C.iptr) })
  enable_at_keeps {cpu} Internal C H = either_keeps (cpu.regs.a == 0) _ _ (next_keeps (without_b_cpu C) H) (enable_keeps C H)

  choose_keeps : {cpu : Cpu} {memory : List ℕ} → IsCpu cpu → Holds n memory → Keeps n (choose cpu memory)
  choose_keeps {cpu} C H = word_keeps cpu.wptr _ H (λ word low. writes_keep (choice_writes word cpu) (chosen_cpu word C) H)

  disable_keeps : {cpu : Cpu} {memory : List ℕ} → IsCpu cpu → Holds n memory → Keeps n (disable cpu memory)
  disable_keeps {cpu} C H =
      word_keeps cpu.regs.c _ H (λ partner low.
      either_keeps (partner == not_process) _ _ (next_keeps (passed_over_cpu C) H)
      (either_keeps (partner == descriptor_of cpu) _ _ (writes_keep ((cpu.regs.c, not_process) ∷ []) (passed_over_cpu C) H) (choose_keeps C H)))

  disable_at_keeps : {cpu : Cpu} {memory : List ℕ} (channel : ChannelWord) → IsCpu cpu → Holds n memory → Keeps n (disable_at channel cpu memory)
  disable_at_keeps (Output link) C H = halts_keeps _
  disable_at_keeps {cpu} (Input link) C H = either_keeps (cpu.regs.b == 0) _ _ (next_keeps (passed_over_cpu C) H) (record { is = (tt, C.iptr) })
  disable_at_keeps {cpu} Internal C H = either_keeps (cpu.regs.b == 0) _ _ (next_keeps (passed_over_cpu C) H) (disable_keeps C H)

  -- ## Instructions

  ret_keeps : {cpu : Cpu} {memory : List ℕ} → IsCpu cpu → Holds n memory → Keeps n (ret cpu memory)
  ret_keeps {cpu} C H =
      let up : IsWorkspace (wrap (cpu.wptr + 16)) = let even = C.wptr.aligned in record { small = omega arith; aligned = omega arith } in
      word_keeps cpu.wptr _ H (λ back low. next_keeps (goto_cpu back (with_wptr_cpu C up) low) H)

  call_keeps : {cpu : Cpu} {memory : List ℕ} (operand : ℕ) → IsCpu cpu → Holds n memory → Keeps n (call operand cpu memory)
  call_keeps {cpu} operand C H =
      let down : IsWorkspace (less cpu.wptr 16) = let even = C.wptr.aligned in record { small = omega arith; aligned = omega arith } in
      writes_keep (call_writes cpu) (goto_cpu (wrap (cpu.iptr + operand)) (with_wptr_cpu (with_a_cpu cpu.iptr C C.iptr) down) (omega arith)) H

  startp_keeps : {cpu : Cpu} {memory : List ℕ} → IsCpu cpu → Holds n memory → Keeps n (startp cpu memory)
  startp_keeps {cpu} C H =
      let process = workspace cpu.regs.a + bit (is_low cpu) in
      let low : process < 2 ^ 32 = let a = C.regs.a in let b = bit_small (is_low cpu) in omega arith in
      writes_keep ((less cpu.regs.a 4, wrap (cpu.iptr + cpu.regs.b)) ∷ queue_writes process cpu) (queued_cpu process C low) H
    where
      bit_small : (flag : Bool) → bit flag < 2
      bit_small true = omega arith
      bit_small false = omega arith

  endp_keeps : {cpu : Cpu} {memory : List ℕ} → IsCpu cpu → Holds n memory → Keeps n (endp cpu memory)
  endp_keeps {cpu} C H =
      word_keeps (wrap (cpu.regs.a + 4)) _ H (λ count low.
      either_keeps (count == 1) _ _
      (word_keeps cpu.regs.a _ H (λ next small.
      writes_keep ((wrap (cpu.regs.a + 4), less count 1) ∷ []) (goto_cpu next (with_wptr_cpu C (is_workspace cpu.regs.a C.regs.a)) small) H))
      (writes_keep ((wrap (cpu.regs.a + 4), less count 1) ∷ []) (stopped_cpu C) H))

  lend_keeps : {cpu : Cpu} {memory : List ℕ} → IsCpu cpu → Holds n memory → Keeps n (lend cpu memory)
  lend_keeps {cpu} C H =
      word_keeps (wrap (cpu.regs.b + 4)) _ H (λ count low.
      either_keeps (int_lt (pos 1) (signed count)) _ _
      (word_keeps cpu.regs.b _ H (λ index small.
      jump_keeps (less cpu.iptr cpu.regs.a) ((wrap (cpu.regs.b + 4), less count 1) ∷ (cpu.regs.b, wrap (index + 1)) ∷ []) C H (less_below cpu.iptr cpu.regs.a)))
      (writes_keep ((wrap (cpu.regs.b + 4), less count 1) ∷ []) C H))

  altwt_keeps : {cpu : Cpu} {memory : List ℕ} → IsCpu cpu → Holds n memory → Keeps n (altwt cpu memory)
  altwt_keeps {cpu} C H =
      word_keeps (state_at cpu.wptr) _ H (λ state low.
      either_keeps (state == ready) _ _ (writes_keep ((cpu.wptr, none_chosen) ∷ []) C H)
      (writes_keep ((cpu.wptr, none_chosen) ∷ (state_at cpu.wptr, waiting) ∷ save_writes cpu) (stopped_cpu C) H))

  by_row_keeps : {cpu : Cpu} {memory : List ℕ} (row : Option Regs) → IsCpu cpu → Holds n memory → KeepsWords row → Keeps n (by_row row cpu memory)
  by_row_keeps None C H row = halts_keeps _
  by_row_keeps (Some regs) C H row = next_keeps (with_regs_cpu C row.is) H

  operate_keeps : (op : Op) (cpu : Cpu) (memory : List ℕ) → IsCpu cpu → Holds n memory → Keeps n (operate op cpu memory)
  operate_keeps Lb cpu memory C H = byte_keeps cpu.regs.a _ H (λ byte low. next_keeps (with_a_cpu byte C (omega arith)) H)
  operate_keeps Sb cpu memory C H =
      leaves_keeps (byte_stored memory cpu.regs.a (cpu.regs.b % 256)) (with_a_cpu cpu.regs.c C C.regs.c) (byte_holds cpu.regs.a (cpu.regs.b % 256) H (omega arith))
  operate_keeps Move cpu memory C H = leaves_keeps (copied memory cpu.regs.b cpu.regs.c cpu.regs.a) C (copied_holds cpu.regs.b cpu.regs.c cpu.regs.a H)
  operate_keeps Gcall cpu memory C H = next_keeps (goto_cpu cpu.regs.a (with_a_cpu cpu.iptr C C.iptr) C.regs.a) H
  operate_keeps Ret cpu memory C H = ret_keeps C H
  operate_keeps Gajw cpu memory C H = next_keeps (with_wptr_cpu (with_a_cpu cpu.wptr C C.wptr.small) (is_workspace cpu.regs.a C.regs.a)) H
  operate_keeps Ldpi cpu memory C H = next_keeps (with_a_cpu (wrap (cpu.iptr + cpu.regs.a)) C (omega arith)) H
  operate_keeps Ldpri cpu memory C H = next_keeps (with_regs_cpu C (pushed (bit (is_low cpu)) C.regs (bit_below (is_low cpu)))) H
  operate_keeps Lend cpu memory C H = lend_keeps C H
  operate_keeps Startp cpu memory C H = startp_keeps C H
  operate_keeps Endp cpu memory C H = endp_keeps C H
  operate_keeps Runp cpu memory C H = writes_keep (queue_writes cpu.regs.a cpu) (queued_cpu cpu.regs.a C C.regs.a) H
  operate_keeps Stopp cpu memory C H = stop_keeps C H
  operate_keeps Stoperr cpu memory C H = either_keeps cpu.regs.error _ _ (stop_keeps C H) (next_keeps C H)
  operate_keeps In cpu memory C H = input_at_keeps (channel_at cpu.regs.b) C H
  operate_keeps Out cpu memory C H = output_at_keeps (channel_at cpu.regs.b) C H
  operate_keeps Outbyte cpu memory C H = output_word_at_keeps (channel_at cpu.regs.b) 1 C H (omega arith)
  operate_keeps Outword cpu memory C H = output_word_at_keeps (channel_at cpu.regs.b) 4 C H (omega arith)
  operate_keeps Alt cpu memory C H = writes_keep ((state_at cpu.wptr, enabling) ∷ []) C H
  operate_keeps Enbc cpu memory C H = enable_at_keeps (channel_at cpu.regs.b) C H
  operate_keeps Enbs cpu memory C H = either_keeps (cpu.regs.a == 0) _ _ (next_keeps C H) (writes_keep ((state_at cpu.wptr, ready) ∷ []) C H)
  operate_keeps Altwt cpu memory C H = altwt_keeps C H
  operate_keeps Disc cpu memory C H = disable_at_keeps (channel_at cpu.regs.c) C H
  operate_keeps Diss cpu memory C H = either_keeps (cpu.regs.b == 0) _ _ (next_keeps (passed_over_cpu (without_b_cpu C)) H) (choose_keeps (without_b_cpu C) H)
  operate_keeps Altend cpu memory C H = word_keeps cpu.wptr _ H (λ chosen low. next_keeps (goto_cpu (wrap (cpu.iptr + chosen)) C (omega arith)) H)
  operate_keeps op cpu memory C H = by_row_keeps (op_row op cpu.regs) C H (op_words op cpu.regs C.regs)

  operation_keeps : (op : Option Op) (cpu : Cpu) (memory : List ℕ) → IsCpu cpu → Holds n memory → Keeps n (operation op cpu memory)
  operation_keeps None cpu memory C H = halts_keeps _
  operation_keeps (Some op) cpu memory C H = operate_keeps op cpu memory C H

  effect_keeps : (fun : Fun) (operand : ℕ) (cpu : Cpu) (memory : List ℕ) → IsCpu cpu → Holds n memory → operand < 2 ^ 32 → Keeps n (effect fun operand cpu memory)
  effect_keeps J operand cpu memory C H h = jump_keeps (wrap (cpu.iptr + operand)) [] C H (omega arith)
  effect_keeps Cj operand cpu memory C H h =
      either_keeps (cpu.regs.a == 0) _ _ (next_keeps (goto_cpu (wrap (cpu.iptr + operand)) C (omega arith)) H) (next_keeps (with_regs_cpu C (popped C.regs)) H)
  effect_keeps Call operand cpu memory C H h = call_keeps operand C H
  effect_keeps Ajw operand cpu memory C H h = next_keeps (with_wptr_cpu C (local_words operand cpu C)) H
  effect_keeps Ldlp operand cpu memory C H h = next_keeps (with_regs_cpu C (pushed (local operand cpu) C.regs (omega arith))) H
  effect_keeps Ldl operand cpu memory C H h = word_keeps (local operand cpu) _ H (λ word low. next_keeps (with_regs_cpu C (pushed word C.regs low)) H)
  effect_keeps Stl operand cpu memory C H h = writes_keep ((local operand cpu, cpu.regs.a) ∷ []) (with_regs_cpu C (popped C.regs)) H
  effect_keeps Ldnl operand cpu memory C H h = word_keeps (wrap (cpu.regs.a + 4 * operand)) _ H (λ word low. next_keeps (with_a_cpu word C low) H)
  effect_keeps Stnl operand cpu memory C H h = writes_keep ((wrap (cpu.regs.a + 4 * operand), cpu.regs.b) ∷ []) (with_a_cpu cpu.regs.c C C.regs.c) H
  effect_keeps Opr operand cpu memory C H h = operation_keeps (op_of operand) cpu memory C H
  effect_keeps fun operand cpu memory C H h = by_row_keeps (fun_row fun operand cpu.regs) C H (fun_words fun operand cpu.regs C.regs h)

  executed_keeps : (read : Result Instr DecodeFault) (cpu : Cpu) (memory : List ℕ) → IsCpu cpu → Holds n memory → ((i : Instr) → read ≡ Ok i → operand_of i < 2 ^ 32) → Keeps n (executed read cpu memory)
  executed_keeps (Ok i) cpu memory C H word =
      effect_keeps i.fun (operand_of i) (past (wrap (cpu.iptr + i.len)) cpu) memory (past_cpu (wrap (cpu.iptr + i.len)) C (omega arith)) H (word i refl)
  executed_keeps (Err NeedMore) cpu memory C H word = halts_keeps _
  executed_keeps (Err TooLong) cpu memory C H word = halts_keeps _
  executed_keeps (Err NoOp) cpu memory C H word = halts_keeps _

  instruction_keeps : (cpu : Cpu) (memory : List ℕ) → IsCpu cpu → Holds n memory → Keeps n (instruction cpu memory)
  instruction_keeps cpu memory C H = executed_keeps (decoded (drop (offset cpu.iptr) memory)) cpu memory C H (reads_word 0 0 (drop (offset cpu.iptr) memory)).is

  -- ## Steps

  in_state_keeps : (state : State) (cpu : Cpu) (memory : List ℕ) → IsCpu cpu → Holds n memory → Keeps n (in_state state cpu memory)
  in_state_keeps Idle cpu memory C H = idle_keeps C H
  in_state_keeps High cpu memory C H = instruction_keeps cpu memory C H
  in_state_keeps Low cpu memory C H = either_keeps (cpu.high.front == not_process) _ _ (instruction_keeps cpu memory C H) (interrupt_keeps C H)

  pub step_keeps : (cpu : Cpu) (memory : List ℕ) → IsCpu cpu → Holds n memory → Keeps n (step_of cpu memory)
  unfolding step_of
  step_keeps cpu memory C H = either_keeps (is_some cpu.halt) _ _ rests_keeps (in_state_keeps cpu.state cpu memory C H)
