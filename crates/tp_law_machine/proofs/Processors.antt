-- A processor of words, and what keeps it one.
use Rattle.std.proofs.Common.{◌≡◌, ℕ, ◌+◌, ◌%◌, ◌^◌, ◌<◌, ◌≤◌, Bool, true, false, cond, List, refl, subst, arith, Option, Some}
use Rattle.std.specs.Prelude.{◌==◌, nat_lt}
use Rattle.tp_law_machine.proofs.Lower.{option_map, ltb-true, Regs, Cpu, Fault, Queue, State, SLICE, not_process, bit, word_at, workspace, has_low_priority, link_at, is_low, descriptor_of, with_regs, with_a, without_b, with_wptr, goto, joined, queued, rest_of_queue, emptied, stopped, counted, past, sliced, waiting, none_chosen, signalled, chosen, passed_over}
use Rattle.tp_law_machine.proofs.Memories.{Holds, word_read}
use Rattle.tp_law_machine.proofs.Partial.{map_some}
use Rattle.tp_law_machine.proofs.Rows.{AreWords, put_a}
use Rattle.tp_law_machine.proofs.Words.{bit_below}

-- the address of a workspace
pub record IsWorkspace (wptr : ℕ) : Type 0 where
  pub small : wptr < 2 ^ 32
  pub aligned : wptr % 4 ≡ 0

pub record IsQueue (queue : Queue) : Type 0 where
  pub front : queue.front < 2 ^ 32
  pub back : queue.back < 2 ^ 32

pub record IsCpu (cpu : Cpu) : Type 0 where
  pub iptr : cpu.iptr < 2 ^ 32
  pub wptr : IsWorkspace cpu.wptr
  pub regs : AreWords cpu.regs
  pub high : IsQueue cpu.high
  pub low : IsQueue cpu.low
  pub slice : cpu.slice ≤ SLICE

pub is_workspace : (descriptor : ℕ) → descriptor < 2 ^ 32 → IsWorkspace (workspace descriptor)
is_workspace descriptor h = record { small = omega arith; aligned = omega arith }

pub descriptor_below : (cpu : Cpu) → descriptor_of cpu < 2 ^ 32
descriptor_below cpu = omega arith

-- ## Registers and pointers

pub with_regs_cpu : {cpu : Cpu} {regs : Regs} → IsCpu cpu → AreWords regs → IsCpu (with_regs regs cpu)
with_regs_cpu C R = record { iptr = C.iptr; wptr = C.wptr; regs = R; high = C.high; low = C.low; slice = C.slice }

pub with_a_cpu : {cpu : Cpu} (word : ℕ) → IsCpu cpu → word < 2 ^ 32 → IsCpu (with_a word cpu)
with_a_cpu word C h = with_regs_cpu C (put_a word C.regs h)

pub without_b_cpu : {cpu : Cpu} → IsCpu cpu → IsCpu (without_b cpu)
without_b_cpu C = with_regs_cpu C (record { a = C.regs.a; b = C.regs.c; c = C.regs.c })

pub passed_over_cpu : {cpu : Cpu} → IsCpu cpu → IsCpu (passed_over cpu)
passed_over_cpu C = with_a_cpu 0 C (omega arith)

pub chosen_cpu : {cpu : Cpu} (word : ℕ) → IsCpu cpu → IsCpu (chosen word cpu)
chosen_cpu word C = with_a_cpu (bit (word == none_chosen)) C (bit_below (word == none_chosen))

pub with_wptr_cpu : {cpu : Cpu} {wptr : ℕ} → IsCpu cpu → IsWorkspace wptr → IsCpu (with_wptr wptr cpu)
with_wptr_cpu C w = record { iptr = C.iptr; wptr = w; regs = C.regs; high = C.high; low = C.low; slice = C.slice }

pub goto_cpu : {cpu : Cpu} (to : ℕ) → IsCpu cpu → to < 2 ^ 32 → IsCpu (goto to cpu)
goto_cpu to C h = record { iptr = h; wptr = C.wptr; regs = C.regs; high = C.high; low = C.low; slice = C.slice }

pub state_cpu : {cpu : Cpu} (state : State) → IsCpu cpu → IsCpu (record cpu { state = state })
state_cpu state C = record { iptr = C.iptr; wptr = C.wptr; regs = C.regs; high = C.high; low = C.low; slice = C.slice }

pub halted_cpu : {cpu : Cpu} (fault : Fault) → IsCpu cpu → IsCpu (record cpu { halt = Some fault })
halted_cpu fault C = record { iptr = C.iptr; wptr = C.wptr; regs = C.regs; high = C.high; low = C.low; slice = C.slice }

either_cpu : (b : Bool) (x y : Cpu) → IsCpu x → IsCpu y → IsCpu (cond b x y)
either_cpu true x y h k = h
either_cpu false x y h k = k

pub counted_cpu : {cpu : Cpu} → IsCpu cpu → IsCpu (counted cpu)
counted_cpu {cpu} C =
    either_cpu (is_low cpu) _ _
    (record { iptr = C.iptr; wptr = C.wptr; regs = C.regs; high = C.high; low = C.low; slice = most (nat_lt cpu.slice SLICE) refl })
    C
  where
    most : (b : Bool) → nat_lt cpu.slice SLICE ≡ b → cond b (cpu.slice + 1) SLICE ≤ SLICE
    most true e = let h = ltb-true cpu.slice SLICE e in omega arith
    most false e = omega arith

pub past_cpu : {cpu : Cpu} (next : ℕ) → IsCpu cpu → next < 2 ^ 32 → IsCpu (past next cpu)
past_cpu next C h = goto_cpu next (counted_cpu C) h

-- ## Processes and queues

emptied_words : (regs : Regs) → AreWords (emptied regs)
emptied_words regs = record { a = omega arith; b = omega arith; c = omega arith }

pub stopped_cpu : {cpu : Cpu} → IsCpu cpu → IsCpu (stopped cpu)
stopped_cpu {cpu} C =
    record { iptr = omega arith; wptr = record { small = omega arith; aligned = omega arith }; regs = emptied_words cpu.regs; high = C.high; low = C.low; slice = C.slice }

joined_queue : (wptr : ℕ) (queue : Queue) → IsQueue queue → wptr < 2 ^ 32 → IsQueue (joined wptr queue)
joined_queue wptr queue Q h = go (queue.front == not_process)
  where
    go : (b : Bool) → IsQueue (cond b (record { front = wptr; back = wptr }) (record queue { back = wptr }))
    go true = record { front = h; back = h }
    go false = record { front = Q.front; back = h }

pub sliced_cpu : {cpu : Cpu} → IsCpu cpu → IsCpu (sliced cpu)
sliced_cpu {cpu} C =
    let S = stopped_cpu C in
    record { iptr = S.iptr; wptr = S.wptr; regs = S.regs; high = S.high; low = joined_queue cpu.wptr cpu.low C.low C.wptr.small; slice = S.slice }

pub queued_cpu : {cpu : Cpu} (descriptor : ℕ) → IsCpu cpu → descriptor < 2 ^ 32 → IsCpu (queued descriptor cpu)
queued_cpu {cpu} descriptor C h =
    let here : workspace descriptor < 2 ^ 32 = (is_workspace descriptor h).small in
    either_cpu (has_low_priority descriptor) _ _
    (record { iptr = C.iptr; wptr = C.wptr; regs = C.regs; high = C.high; low = joined_queue (workspace descriptor) cpu.low C.low here; slice = C.slice })
    (record { iptr = C.iptr; wptr = C.wptr; regs = C.regs; high = joined_queue (workspace descriptor) cpu.high C.high here; low = C.low; slice = C.slice })

pub signalled_cpu : {cpu : Cpu} (state descriptor : ℕ) → IsCpu cpu → descriptor < 2 ^ 32 → IsCpu (signalled state descriptor cpu)
signalled_cpu state descriptor C h = either_cpu (state == waiting) _ _ (queued_cpu descriptor C h) C

pub started_cpu : {cpu : Cpu} (front saved : ℕ) (state : State) → IsCpu cpu → front < 2 ^ 32 → saved < 2 ^ 32
    → IsCpu (record cpu { iptr = saved; wptr = workspace front; regs = emptied cpu.regs; state = state })
started_cpu {cpu} front saved state C h k =
    record { iptr = k; wptr = is_workspace front h; regs = emptied_words cpu.regs; high = C.high; low = C.low; slice = C.slice }

pub high_cpu : {cpu : Cpu} {rest : Queue} → IsCpu cpu → IsQueue rest → IsCpu (record cpu { high = rest })
high_cpu C Q = record { iptr = C.iptr; wptr = C.wptr; regs = C.regs; high = Q; low = C.low; slice = C.slice }

pub low_cpu : {cpu : Cpu} {rest : Queue} → IsCpu cpu → IsQueue rest → IsCpu (record cpu { low = rest; slice = 0 })
low_cpu C Q = record { iptr = C.iptr; wptr = C.wptr; regs = C.regs; high = C.high; low = Q; slice = omega arith }

pub restored_cpu : {cpu : Cpu} (descriptor iptr a b c : ℕ) (state : State) → IsCpu cpu → descriptor < 2 ^ 32 → iptr < 2 ^ 32 → a < 2 ^ 32 → b < 2 ^ 32 → c < 2 ^ 32
    → IsCpu (record cpu { iptr = iptr; wptr = workspace descriptor; regs = record cpu.regs { a = a; b = b; c = c }; state = state })
restored_cpu descriptor iptr a b c state C hd hi ha hb hc =
    record { iptr = hi; wptr = is_workspace descriptor hd; regs = record { a = ha; b = hb; c = hc }; high = C.high; low = C.low; slice = C.slice }

-- what is left of a queue, if it is known
pub record RestsQueue (rest : Option Queue) : Type 0 where
  pub is : (queue : Queue) → rest ≡ Some queue → IsQueue queue

pub rest_is_queue : {n : ℕ} {memory : List ℕ} (queue : Queue) → IsQueue queue → Holds n memory → RestsQueue (rest_of_queue queue memory)
rest_is_queue {n} {memory} queue Q H = go (queue.front == queue.back)
  where
    go : (b : Bool) → RestsQueue (cond b (Some (record queue { front = not_process })) (option_map (λ next. record queue { front = next }) (word_at memory (link_at queue.front))))
    go true = record { is = λ rest e. let same : record queue { front = not_process } ≡ rest = cc in subst IsQueue same (record { front = omega arith; back = Q.back }) }
    go false = record {
      is = λ rest e.
          let found = map_some (λ (next : ℕ). record queue { front = next }) (word_at memory (link_at queue.front)) rest e in
          subst IsQueue found.2 (record { front = (word_read memory (link_at queue.front) H.bytes).is found.0 found.1; back = Q.back });
    }
