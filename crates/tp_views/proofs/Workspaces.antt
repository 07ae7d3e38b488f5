-- What is printed where a trace stops, part by part.
use Rattle.std.proofs.Common.{◌≡◌, ◌∙◌, ℕ, false, suc, ◌+◌, ◌-◌, ◌*◌, ◌<◌, ◌≤◌, List, [], ◌∷◌, ◌++◌, length, take, drop, ap, sym, arith, append_assoc, append-nil, codes}
use Rattle.tp_views.proofs.Lower.{length-take, u32_at, NodeState, Cpu, hex_word, memory_of}
use Rattle.tp_views.specs.Maps.{Row}
use Rattle.tp_views.specs.NodeText.{cpu_text}
use Rattle.tp_views.specs.Stops.{memory_line, state_text, words_text, workspace_line}
use Rattle.tp_views.specs.declared.trace.stops.Stops.{Stops}

-- a word more
pub words_more : (bytes : List ℕ) (n i : ℕ) → i < n
    → words_text bytes (n - i) (4 * i) ≡ codes " " ++ (hex_word (u32_at bytes (4 * i)) ++ words_text bytes (n - (i + 1)) (4 * (i + 1)))
words_more bytes n i few =
    let left : n - i ≡ suc (n - (i + 1)) = omega (arith, few) in
    let next : 4 * i + 4 ≡ 4 * (i + 1) = omega arith in
    ap (λ k. words_text bytes k (4 * i)) left
    ∙ ap (λ at. codes " " ++ (hex_word (u32_at bytes (4 * i)) ++ words_text bytes (n - (i + 1)) at)) next

-- a front has no more elements than were asked for
pub few_taken : (n : ℕ) (xs all : List ℕ) → xs ≡ take n all → length xs ≤ n
few_taken n xs all is = let same = ap length is ∙ length-take n all in omega (arith, same)

-- three texts, one after the other
joined : (t0 t1 t2 t3 x y z : List ℕ) → t1 ≡ t0 ++ x → t2 ≡ t1 ++ y → t3 ≡ t2 ++ z → t3 ≡ t0 ++ (x ++ (y ++ z))
joined t0 t1 t2 t3 x y z first second third =
    third ∙ ap (λ s. s ++ z) second ∙ append_assoc t1 y z ∙ ap (λ s. s ++ (y ++ z)) first ∙ append_assoc t0 x (y ++ z)

-- the state of a node: its processor, its workspace, and the range that is watched
pub state_said : (rows : List Row) (stops : Stops) (node then last : NodeState) (cpu : Cpu) (bytes t0 t1 t2 t3 : List ℕ) → cpu ≡ node.cpu → bytes ≡ memory_of then cpu.wptr 32 → then ≡ node → last ≡ node
    → t1 ≡ t0 ++ cpu_text false rows cpu → t2 ≡ t1 ++ workspace_line cpu.wptr bytes → t3 ≡ t2 ++ memory_line stops.watch last → t3 ≡ t0 ++ state_text rows stops node
state_said rows stops node then last cpu bytes t0 t1 t2 t3 cpu_is bytes_are then_is last_is first second third =
    let x = ap (cpu_text false rows) cpu_is in
    let y =
    ap (workspace_line cpu.wptr) bytes_are ∙ ap (λ (m : NodeState). workspace_line cpu.wptr (memory_of m cpu.wptr 32)) then_is
    ∙ ap (λ (k : Cpu). workspace_line k.wptr (memory_of node k.wptr 32)) cpu_is in
    let z = ap (memory_line stops.watch) last_is in
    joined t0 t1 t2 t3 (cpu_text false rows cpu) (workspace_line cpu.wptr bytes) (memory_line stops.watch last) first second third
    ∙ ap (λ s. t0 ++ (s ++ (workspace_line cpu.wptr bytes ++ memory_line stops.watch last))) x
    ∙ ap (λ s. t0 ++ (cpu_text false rows node.cpu ++ (s ++ memory_line stops.watch last))) y
    ∙ ap (λ s. t0 ++ (cpu_text false rows node.cpu ++ (workspace_line node.cpu.wptr (memory_of node node.cpu.wptr 32) ++ s))) z

-- words and an address, what a map says of it, an end of line, and a state
pub until_said : (front word spot nl state t0 t1 t2 t3 t4 : List ℕ) → t1 ≡ t0 ++ (front ++ (word ++ [])) → t2 ≡ t1 ++ spot → t3 ≡ t2 ++ nl → t4 ≡ t3 ++ state
    → t4 ≡ t0 ++ (front ++ (word ++ (spot ++ (nl ++ state))))
until_said front word spot nl state t0 t1 t2 t3 t4 first second third fourth =
    let rest = spot ++ (nl ++ state) in
    fourth ∙ ap (λ s. s ++ state) third ∙ append_assoc t2 nl state ∙ ap (λ s. s ++ (nl ++ state)) second ∙ append_assoc t1 spot (nl ++ state)
    ∙ ap (λ s. s ++ rest) first ∙ append_assoc t0 (front ++ (word ++ [])) rest ∙ ap (λ s. t0 ++ s) (append_assoc front (word ++ []) rest)
    ∙ ap (λ s. t0 ++ (front ++ (s ++ rest))) (append-nil word)
