-- The processes that wait at the links of a node.
use Rattle.std.specs.Prelude.{ℕ, Bool, false, ◌==◌, if◌then◌else◌, List, Option, Some, None, slice_get}
use Rattle.tp_node.specs.Lower.{waiting, word_at, ◌>>=◌, NodeState, saved_at, state_at, workspace, InEnd, InIdle, IsInput, Enabled, OutEnd, OutIdle, Waits}
use Rattle.tp_node.specs.declared.waiter.Deed.{Deed}
use Rattle.tp_node.specs.declared.waiter.Deed.TheVariants.{Sends, Inputs, Chooses}
use Rattle.tp_node.specs.declared.waiter.Waiter.{Waiter}

-- where a process that has stopped goes on: the word below its workspace
abbrev pub resumes_at : List ℕ → ℕ → Option ℕ
resumes_at memory process = word_at memory (saved_at (workspace process))

-- there is a word, and it is this one
abbrev pub is_word : Option ℕ → ℕ → Bool
is_word None word = false
is_word (Some found) word = found == word

-- The process of an alternative that enabled an end. It waits once it has made `altwt` and no partner has come. Its workspace says this,
-- and a byte at that end wakes it (`signal_state` of `Node`).
abbrev pub chooser : List ℕ → ℕ → Option Waiter
chooser memory process =
    if is_word (word_at memory (state_at (workspace process))) waiting
    then Some (record { deed = Chooses; process = process; resumes = resumes_at memory process; left = 0 })
    else None

-- the process that waits at an output end: until its message is acknowledged
abbrev pub sender_at : List ℕ → OutEnd → Option Waiter
sender_at memory OutIdle = None
sender_at memory (Waits t) = Some (record { deed = Sends; process = t.process; resumes = resumes_at memory t.process; left = t.left })

-- the process that waits at an input end: until its message has come, or, in an alternative, a byte
abbrev pub listener_at : List ℕ → InEnd → Option Waiter
listener_at memory (InIdle held) = None
listener_at memory (IsInput t) = Some (record { deed = Inputs; process = t.process; resumes = resumes_at memory t.process; left = t.left })
listener_at memory (Enabled process) = chooser memory process

-- the process that waits at the output end, or at the input end, of link k
abbrev pub sender : NodeState → ℕ → Option Waiter
sender node k = slice_get node.outputs k >>= sender_at node.memory

abbrev pub listener : NodeState → ℕ → Option Waiter
listener node k = slice_get node.inputs k >>= listener_at node.memory
