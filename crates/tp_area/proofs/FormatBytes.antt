-- The bytes that a device is formatted with.
use Rattle.std.proofs.Common.{◌≡◌, ℕ, zero, suc, ◌+◌, ◌-◌, ◌*◌, ◌<◌, ◌≤◌, ◌⊎◌, inl, inr, Bool, true, false, List, [], ◌∷◌, ◌++◌, length, take, drop, get_or, map, refl, sym, ap, subst, ◌∙◌, arith, append_assoc, length-append, add-zero, Some, None, Ok}
use Rattle.std.specs.Prelude.{Option, ◌&&◌, ◌==◌, nat_le, flat_map, sum_by, replicate}
use Rattle.tp_area.proofs.Lower.{option_map, concat, and_parts, leb-true, eqb-true, cond_some, take_at, drop-drop, length-replicate, replicate-append-replicate, get_or-drop, take-append-add, sum_by-cons, TwoAreas, Turns, AREA_HEAD_BYTES, GATE_OPEN, GATE_CLOSED, LINE_BYTES, MAX_HELD, PORT_BYTES, u16_bytes, u32_bytes, u64_bytes, zeros, NodeState, ◌>>=◌, Network, Topology, line_count, image_length, cut_length, is_roomy, room, reserve, entry_room, Moment, SameOutside, Write, Sync, written, State, IsSynced, LeavesOnly, areas_end, fits_device, head_bytes, head_length, version_for, page_count, image, node_of, has_idle_links, base_number, line_bytes, port_bytes, cut_bytes, only_if, network_of, front_bytes, fresh_node, fresh_nodes, fresh_port, IsFormatted, image-node_of, length-written, written_same_outside, same_apart, all_done-append, started, weaker, synced_stands, put_calls}
use Rattle.tp_area.specs.Formatting.{Checks, FormatAnswer, area_front, fresh_area, with_areas, Wrote, Formatted, IsOldOrNew}
use Rattle.tp_area.specs.Puts.{ButFor}
use Rattle.tp_area.proofs.PutLaws.{but_for_may}
use Rattle.tp_area.proofs.FormatCalls.{length-area_front}
use Rattle.tp_area.proofs.FreshImages.{image_is}
use Rattle.tp_area.proofs.Frames.{drop_written}

-- ## Images

fresh_is : (pages : ℕ) (bytes : List ℕ) (o : Option NodeState) (n : NodeState) → only_if (λ (m : NodeState). (page_count m.memory == pages) && has_idle_links m) o ≡ Some n
    → (o ≡ Some n) × (page_count n.memory ≡ pages)
fresh_is pages bytes None n h = cc
fresh_is pages bytes (Some m) n h =
    let t = cond_some ((page_count m.memory == pages) && has_idle_links m) m n h in
    let parts = and_parts (page_count m.memory == pages) (has_idle_links m) t.0 in
    (ap (λ (x : NodeState). Some x) t.1, ap (λ (x : NodeState). page_count x.memory) (sym t.1) ∙ eqb-true (page_count m.memory) pages parts.0)

bind_some : {A B : Type 0} (o : Option A) (f : A → Option B) (y : B) → o >>= f ≡ Some y → (x : A) × ((o ≡ Some x) × (f x ≡ Some y))
bind_some None f y h = cc
bind_some (Some x) f y h = (x, (refl, h))

-- the images of the nodes are those bytes, and as long
pub images_are : (pages : List ℕ) (images : List (List ℕ)) (nodes : List NodeState) → fresh_nodes pages images ≡ Some nodes
    → (flat_map image nodes ≡ concat images) × (length (concat images) ≡ sum_by image_length pages)
unfolding fresh_nodes
images_are [] [] nodes h =
    let none : [] ≡ nodes = cc in
    (ap (flat_map image) (sym none), refl)
images_are [] (bytes ∷ images) nodes h = cc
images_are (count ∷ pages) [] nodes h = cc
images_are (count ∷ pages) (bytes ∷ images) nodes h =
    let one = bind_some (fresh_node count bytes) (λ node. fresh_nodes pages images >>= λ rest. Some (node ∷ rest)) nodes h in
    let two = bind_some (fresh_nodes pages images) (λ rest. Some (one.0 ∷ rest)) nodes one.1.1 in
    let same : one.0 ∷ two.0 ≡ nodes = cc in
    let here = fresh_is count bytes (node_of bytes) one.0 one.1.0 in
    let is = image_is bytes one.0 here.0 in
    let rest = images_are pages images two.0 two.1.0 in
    let long : length bytes ≡ image_length count = let size = is.size in let memory = is.memory in omega (arith, here.1) in (
      ap (flat_map image) (sym same) ∙ ap (λ xs. xs ++ flat_map image two.0) (image-node_of bytes one.0 here.0) ∙ ap (λ xs. bytes ++ xs) rest.0,
      length-append bytes (concat images) ∙ ap (λ n. n + length (concat images)) long ∙ ap (λ n. image_length count + n) rest.1 ∙ sym (sum_by-cons image_length count pages),
    )

pub concat-map : {X : Type 0} (f : X → List ℕ) (xs : List X) → concat (map f xs) ≡ flat_map f xs
concat-map f [] = refl
concat-map f (x ∷ xs) = ap (λ ys. f x ++ ys) (concat-map f xs)

checked_some : {A : Type 0} (o : Option A) → Checks o (Ok tt) → (x : A) × (o ≡ Some x)
checked_some (Some x) h = (x, refl)
checked_some None h = elim h [ ]

-- images that were accepted have the bytes that their nodes' pages say
pub checked_length : {X : Type 0} (f : X → List ℕ) (pages : List ℕ) (xs : List X) → Checks (fresh_nodes pages (map f xs)) (Ok tt) → length (flat_map f xs) ≡ sum_by image_length pages
checked_length f pages xs h =
    let t = checked_some (fresh_nodes pages (map f xs)) h in
    ap length (sym (concat-map f xs)) ∙ (images_are pages (map f xs) t.0 t.1).1

-- ## Lines and ports

blank_lines : (n : ℕ) → flat_map line_bytes (replicate n []) ≡ zeros (LINE_BYTES * n)
blank_lines zero = refl
blank_lines (suc n) =
    ap (λ xs. (0 ∷ 0 ∷ 0 ∷ 0 ∷ []) ++ xs) (blank_lines n) ∙ replicate-append-replicate LINE_BYTES (LINE_BYTES * n) 0 ∙ ap zeros (omega arith)

blank_port : (n : ℕ) → u64_bytes 0 ++ (u64_bytes 0 ++ (u16_bytes 0 ++ (u16_bytes 0 ++ (zeros n ++ zeros n)))) ≡ zeros (20 + (n + n))
blank_port n =
    ap (λ xs. zeros 20 ++ xs) (replicate-append-replicate n n 0) ∙ replicate-append-replicate 20 (n + n) 0

blank_ports : (n : ℕ) → flat_map port_bytes (replicate n fresh_port) ≡ zeros (PORT_BYTES * n)
blank_ports zero = refl
blank_ports (suc n) =
    ap (λ xs. xs ++ flat_map port_bytes (replicate n fresh_port)) (blank_port MAX_HELD)
    ∙ ap (λ xs. zeros PORT_BYTES ++ xs) (blank_ports n) ∙ replicate-append-replicate PORT_BYTES (PORT_BYTES * n) 0 ∙ ap zeros (omega arith)

-- ## The first area

-- what comes after the images, with the closed gate
tail_is : (t : Topology) (rest : ℕ) → rest ≡ LINE_BYTES * line_count t + PORT_BYTES * t.ports + 1
    → (flat_map line_bytes (replicate (line_count t) []) ++ flat_map port_bytes (replicate t.ports fresh_port)) ++ GATE_CLOSED ∷ [] ≡ zeros rest
tail_is t rest is =
    let lines = flat_map line_bytes (replicate (line_count t) []) in
    let ports = flat_map port_bytes (replicate t.ports fresh_port) in
    let n : ℕ = LINE_BYTES * line_count t in
    let m : ℕ = PORT_BYTES * t.ports in
    ap (λ xs. (xs ++ ports) ++ GATE_CLOSED ∷ []) (blank_lines (line_count t))
    ∙ ap (λ xs. (zeros n ++ xs) ++ GATE_CLOSED ∷ []) (blank_ports t.ports)
    ∙ ap (λ xs. xs ++ zeros 1) (replicate-append-replicate n m 0)
    ∙ replicate-append-replicate (n + m) 1 0
    ∙ ap zeros (sym is)

-- the network that a device is formatted for
abbrev pub start_with : Topology → List NodeState → Network NodeState
start_with t nodes = network_of t nodes (replicate (line_count t) []) (replicate t.ports fresh_port)

area_is : (t : Topology) (images : List (List ℕ)) (nodes : List NodeState) (cut rest : ℕ) → fresh_nodes t.pages images ≡ Some nodes → cut ≡ cut_length t
    → rest ≡ LINE_BYTES * line_count t + PORT_BYTES * t.ports + 1
    → (area_front cut ++ concat images) ++ zeros rest ≡ fresh_area t (start_with t nodes)
unfolding area_front front_bytes cut_bytes
area_is t images nodes cut rest fresh is_cut is_rest =
    let lines = flat_map line_bytes (replicate (line_count t) []) in
    let ports = flat_map port_bytes (replicate t.ports fresh_port) in
    let same = (images_are t.pages images nodes fresh).0 in
    let tail : concat images ++ zeros rest ≡ (flat_map image nodes ++ (lines ++ ports)) ++ GATE_CLOSED ∷ [] =
    ap (λ xs. concat images ++ xs) (sym (tail_is t rest is_rest))
    ∙ ap (λ xs. xs ++ ((lines ++ ports) ++ GATE_CLOSED ∷ [])) (sym same)
    ∙ sym (append_assoc (flat_map image nodes) (lines ++ ports) (GATE_CLOSED ∷ [])) in
    ap (λ n. (area_front n ++ concat images) ++ zeros rest) is_cut
    ∙ ap (λ xs. GATE_OPEN ∷ (u64_bytes 1 ++ (u32_bytes (cut_length t) ++ (u64_bytes (base_number Turns 0) ++ xs)))) tail

length-area : (t : Topology) (images : List (List ℕ)) (nodes : List NodeState) (cut rest : ℕ) → fresh_nodes t.pages images ≡ Some nodes → cut ≡ cut_length t
    → rest ≡ LINE_BYTES * line_count t + PORT_BYTES * t.ports + 1 → length (fresh_area t (start_with t nodes)) ≡ AREA_HEAD_BYTES + cut_length t + 1
length-area t images nodes cut rest fresh is_cut is_rest =
    let front = length-area_front cut in
    let all = length-append (area_front cut ++ concat images) (zeros rest) in
    let both = length-append (area_front cut) (concat images) in
    let size = (images_are t.pages images nodes fresh).1 in
    let behind : length (zeros rest) ≡ rest = length-replicate rest 0 in
    ap length (sym (area_is t images nodes cut rest fresh is_cut is_rest)) ∙ (omega arith)

-- ## What is on the device

pub record IsRoomy (size : ℕ) (t : Topology) (areas : TwoAreas) : Type 0 where
  pub both : areas_end areas ≤ size
  pub cut : AREA_HEAD_BYTES + cut_length t + 1 < areas.length

pub roomy : (size : ℕ) (t : Topology) (areas : TwoAreas) → fits_device size t areas ≡ true → IsRoomy size t areas
roomy size t areas h =
    let parts = and_parts (nat_le (areas_end areas) size) (is_roomy t areas.length) h in
    let most = leb-true (reserve (line_count t) + entry_room) (room t areas.length) parts.1 in
    record { both = leb-true (areas_end areas) size parts.0; cut = omega arith }

formatted_is : (t : Topology) (areas : TwoAreas) (s : Network NodeState) (old new : List ℕ) → areas.first ≡ head_length (version_for t) → length (head_bytes (version_for t) t areas) ≡ areas.first → areas_end areas ≤ length old
    → length (fresh_area t s) ≤ areas.length → new ≡ written (with_areas (fresh_area t s) areas old) 0 (head_bytes (version_for t) t areas) → IsFormatted t areas Turns s new
formatted_is t areas s old new begins size room most is =
    let front = front_bytes t 1 Turns 0 s in
    let whole = fresh_area t s in
    let head = head_bytes (version_for t) t areas in
    let start = areas.first in
    let behind_first = areas.first + areas.length in
    let one = written old start whole in
    let two = written one behind_first (GATE_CLOSED ∷ []) in
    let three = written two 0 head in
    let long : length whole ≡ 1 + (length front + 1) = ap (λ n. suc n) (length-append front (GATE_CLOSED ∷ [])) ∙ (omega arith) in
    let fit_one : start + length whole ≤ length old = omega arith in
    let size_one : length one ≡ length old = length-written old start whole fit_one in
    let fit_two : behind_first + 1 ≤ length one = omega arith in
    let size_two : length two ≡ length one = length-written one behind_first (GATE_CLOSED ∷ []) fit_two in
    let fit_three : 0 + length head ≤ length two = omega arith in
    let same_two : SameOutside behind_first 1 one two = written_same_outside one behind_first (GATE_CLOSED ∷ []) fit_two in
    let same_three : SameOutside 0 (length head) two three = written_same_outside two 0 head fit_three in
    let behind = drop (start + length whole) old in
    let first : drop start one ≡ whole ++ behind = drop_written old start whole (omega arith) in
    let second : drop behind_first two ≡ GATE_CLOSED ∷ drop (behind_first + 1) one = drop_written one behind_first (GATE_CLOSED ∷ []) (omega arith) in
    let k : ℕ = areas.length - 1 - (length front + 1) in
    let parts : areas.length - 1 ≡ length (front ++ GATE_CLOSED ∷ []) + k = omega (arith, length-append front (GATE_CLOSED ∷ [])) in
    let there : IsFormatted t areas Turns s three = record {
      first = begins;
      head = take_at head (drop (0 + length head) two) start size;
      open_gate = same_three.same start (inr (omega arith)) ∙ same_two.same start (inl (omega arith))
          ∙ ap (λ n. get_or one n 0) (sym (add-zero start)) ∙ sym (get_or-drop start one 0 0) ∙ ap (λ xs. get_or xs 0 0) first;
      closed_gate = same_three.same behind_first (inr (omega arith)) ∙ ap (λ n. get_or two n 0) (sym (add-zero behind_first))
          ∙ sym (get_or-drop behind_first two 0 0) ∙ ap (λ xs. get_or xs 0 0) second;
      rest = take k behind;
      content = same_apart 0 (length head) two three (start + 1) (areas.length - 1) same_three (inr (omega arith))
          ∙ same_apart behind_first 1 one two (start + 1) (areas.length - 1) same_two (inl (omega arith))
          ∙ ap (take (areas.length - 1)) (sym (drop-drop 1 start one) ∙ ap (drop 1) first)
          ∙ ap (λ n. take n ((front ++ GATE_CLOSED ∷ []) ++ behind)) parts
          ∙ take-append-add (front ++ GATE_CLOSED ∷ []) behind k
          ∙ append_assoc front (GATE_CLOSED ∷ []) (take k behind);
    } in
    subst (IsFormatted t areas Turns s) (sym is) there

-- ## The whole

synced_after : (first head : List ℕ) (areas : TwoAreas) (old new : State) → Wrote first head areas old new → IsSynced new
synced_after first head areas old new wrote =
    ap (λ (m : Moment). m.unsynced) (wrote.called.now ∙ all_done-append (put_calls wrote.pieces) (Sync ∷ Write 0 head ∷ Sync ∷ []) old.now)

-- images that were accepted, areas that are large enough, and what was written
pub formatted_by : {X : Type 0} (f : X → List ℕ) (t : Topology) (xs : List X) (pages head : List ℕ) (areas : TwoAreas) (size cut rest : ℕ) (old new : State)
    → pages ≡ t.pages → Checks (fresh_nodes pages (map f xs)) (Ok tt) → fits_device size t areas ≡ true → areas.first ≡ head_length (version_for t) → length old.now.bytes ≡ size
    → head ≡ head_bytes (version_for t) t areas → length head ≡ areas.first → cut ≡ cut_length t → rest ≡ LINE_BYTES * line_count t + PORT_BYTES * t.ports + 1
    → Wrote ((area_front cut ++ flat_map f xs) ++ zeros rest) head areas old new → Formatted t (map f xs) areas old new
formatted_by f t xs pages head areas size cut rest old new is_pages checked large begins whole is_head long is_cut is_rest wrote =
    let images = map f xs in
    let nodes = checked_some (fresh_nodes t.pages images) (subst (λ ps. Checks (fresh_nodes ps images) (Ok tt)) is_pages checked) in
    let start = start_with t nodes.0 in
    let same : (area_front cut ++ flat_map f xs) ++ zeros rest ≡ fresh_area t start =
    ap (λ ys. (area_front cut ++ ys) ++ zeros rest) (sym (concat-map f xs)) ∙ area_is t images nodes.0 cut rest nodes.1 is_cut is_rest in
    let first : Wrote (fresh_area t start) head areas old new = subst (λ ys. Wrote ys head areas old new) same wrote in
    let both : Wrote (fresh_area t start) (head_bytes (version_for t) t areas) areas old new = subst (λ ys. Wrote (fresh_area t start) ys areas old new) is_head first in
    let fit = roomy size t areas large in
    let both_fit = fit.both in
    let room = fit.cut in
    let most = length-area t images nodes.0 cut rest nodes.1 is_cut is_rest in
    record {
      start = start;
      is = ap (option_map (λ ns. start_with t ns)) nodes.1;
      wrote = both;
      synced = synced_after (fresh_area t start) (head_bytes (version_for t) t areas) areas old new both;
      formatted = λ left may. subst (IsFormatted t areas Turns start) (sym (synced_stands new left (synced_after (fresh_area t start) (head_bytes (version_for t) t areas) areas old new both) may))
          (formatted_is t areas start old.now.bytes new.now.bytes begins (ap length (sym is_head) ∙ long) (omega arith) (omega arith) both.bytes);
    }

-- what a crash leaves of formatting with these images and areas, whatever came of the calls
pub format_leaves : {X : Type 0} (f : X → List ℕ) (t : Topology) (xs : List X) (pages : List ℕ) (areas : TwoAreas) (cut rest : ℕ) (old new : State)
    → pages ≡ t.pages → Checks (fresh_nodes pages (map f xs)) (Ok tt) → cut ≡ cut_length t → rest ≡ LINE_BYTES * line_count t + PORT_BYTES * t.ports + 1
    → LeavesOnly old new (λ left. ButFor areas.first (2 * areas.length) old.now left ⊎ SameOutside 0 areas.first (with_areas ((area_front cut ++ flat_map f xs) ++ zeros rest) areas old.now.bytes) left)
    → LeavesOnly old new (IsOldOrNew t (map f xs) areas old)
format_leaves f t xs pages areas cut rest old new is_pages checked is_cut is_rest only =
    let images = map f xs in
    let nodes = checked_some (fresh_nodes t.pages images) (subst (λ ps. Checks (fresh_nodes ps images) (Ok tt)) is_pages checked) in
    let start = start_with t nodes.0 in
    let same : (area_front cut ++ flat_map f xs) ++ zeros rest ≡ fresh_area t start =
    ap (λ ys. (area_front cut ++ ys) ++ zeros rest) (sym (concat-map f xs)) ∙ area_is t images nodes.0 cut rest nodes.1 is_cut is_rest in
    weaker old new (λ left. ButFor areas.first (2 * areas.length) old.now left ⊎ SameOutside 0 areas.first (with_areas ((area_front cut ++ flat_map f xs) ++ zeros rest) areas old.now.bytes) left)
    (IsOldOrNew t images areas old)
    (λ left either. elim either [
      | inl before ↦ inl before
      | inr complete ↦ inr (record {
        start = start;
        is = ap (option_map (λ ns. start_with t ns)) nodes.1;
        same = subst (λ first. SameOutside 0 areas.first (with_areas first areas old.now.bytes) left) same complete;
      })
    ]) only

-- no call yet
pub early_leaves : (t : Topology) (images : List (List ℕ)) (areas : TwoAreas) (s : State) → LeavesOnly s s (IsOldOrNew t images areas s)
early_leaves t images areas s = started s (IsOldOrNew t images areas s) (λ left may. inl (but_for_may areas.first (2 * areas.length) s.now left may))

-- the answers
pub answers_done : {A B : Type 0} (o : Option A) (f : A → B) (large : Bool) → Checks o (Ok tt) → large ≡ true → FormatAnswer (option_map f o) large (Ok tt)
answers_done (Some x) f true h is = tt
answers_done (Some x) f false h is = cc
answers_done None f large h is = elim h [ ]
