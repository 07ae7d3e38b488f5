-- Pieces at their places are a content.
use Rattle.std.proofs.Common.{◌≡◌, ℕ, suc, ◌+◌, ◌-◌, ◌<◌, ◌≤◌, ◌⊎◌, inl, inr, true, List, [], ◌∷◌, ◌++◌, length, take, drop, get_or, refl, sym, ap, subst, ◌∙◌, arith, append_assoc, length-append, Some, slice_get}
use Rattle.std.specs.Prelude.{map, sum_by, flat_map}
use Rattle.tp_law_device.proofs.Lower.{AllByRecursion, cases_lt, sum_by-cons, get_or_append_left, get_or-append_right, Entry, GATE_CLOSED, NUMBER_LIMIT, u32_bytes, u64_bytes, Turns, NodeState, t414, t414_ends, image, page_count, AreNumbered, after, Held, written, IsSpelt, Topology, is_topology, image_length, images_length, cut_length, base_number, line_bytes, port_bytes, cut_bytes, front_bytes, groups_bytes, entries_in, IsGroup, SpellsArea, nodes_place, lines_place, ports_place, groups_place, get_or-written_outside, get_or-written_inside, CopySpelt, IsThere, IsSized, PiecesStand}
use Rattle.tp_law_device.proofs.Contents.{drop_there}
use Rattle.tp_law_device.proofs.Forms.{are_of_turns}
use Rattle.tp_law_device.proofs.Wires.{has_shape}
use Rattle.tp_law_device.proofs.SpeltCuts.{IsReadBack, image_size, length-images, length-lines, length-ports, pages_of}
use Rattle.tp_law_device.proofs.Content.{cut_back}

-- ## Bytes that are there

pub there_written : (content : List ℕ) (at : ℕ) (bytes : List ℕ) → at + length bytes ≤ length content → IsThere (written content at bytes) at bytes
there_written content at bytes room k low = get_or-written_inside content at bytes room k low

pub there_kept : (content : List ℕ) (at : ℕ) (bytes : List ℕ) (place : ℕ) (more : List ℕ) → place + length more ≤ length content
    → (at + length bytes ≤ place) ⊎ (place + length more ≤ at) → IsThere content at bytes → IsThere (written content place more) at bytes
there_kept content at bytes place more room (inl front) there k low = get_or-written_outside content place more room (at + k) (inl (omega (arith, front, low))) ∙ there k low
there_kept content at bytes place more room (inr behind) there k low = get_or-written_outside content place more room (at + k) (inr (omega (arith, behind))) ∙ there k low

pub there_append : (content : List ℕ) (at next : ℕ) (xs ys : List ℕ) → at + length xs ≡ next → IsThere content at xs → IsThere content next ys → IsThere content at (xs ++ ys)
there_append content at next xs ys size first rest k low = elim (cases_lt k (length xs)) [
  | inl front ↦ first k front ∙ sym (get_or_append_left xs ys 0 k front)
  | inr behind ↦
      ap (λ place. get_or content place 0) (omega (arith, size, behind))
      ∙ rest (k - length xs) (omega (arith, low, behind, length-append xs ys))
      ∙ sym (get_or-append_right xs ys (length xs) k 0 refl behind)
]

pub there_whole : (content xs : List ℕ) → length xs ≤ length content → IsThere content 0 xs → content ≡ xs ++ drop (length xs) content
there_whole content xs room there = drop_there content xs 0 (omega (arith, room)) there

-- images, one after the other
there_images : (content : List ℕ) (at : ℕ) (nodes : List NodeState) (pages : List ℕ) → AllByRecursion IsReadBack nodes → pages_of nodes ≡ pages
    → ((i : ℕ) (node : NodeState) → slice_get nodes i ≡ Some node → IsThere content (at + sum_by image_length (take i pages)) (image node)) → IsThere content at (flat_map image nodes)
there_images content at [] pages back are each = λ k low. absurd (omega (arith, low))
there_images content at (n ∷ ns) [] back are each = cc
there_images content at (n ∷ ns) (p ∷ ps) back are each =
    let here : page_count n.memory ≡ p = cc in
    let rest : pages_of ns ≡ ps = cc in
    let size : length (image n) ≡ image_length p = image_size (image n) n back.0 ∙ ap image_length here in
    there_append content at (at + image_length p) (image n) (flat_map image ns) (ap (λ k. at + k) size)
    (subst (λ place. IsThere content place (image n)) (omega arith) (each 0 n refl))
    (there_images content (at + image_length p) ns ps back.1 rest
    (λ i node found. subst (λ place. IsThere content place (image node)) (omega (arith, sum_by-cons image_length p (take i ps))) (each (suc i) node found)))

-- ## The content

pub groups_are : (groups : List (List (Entry × ℕ))) → AllByRecursion IsSized groups → AllByRecursion (λ (e : Entry × ℕ). IsSpelt e.0 e.1) (entries_in groups) → AllByRecursion IsGroup groups
groups_are [] sized spelt = tt
groups_are (group ∷ groups) sized spelt =
    let split = all_split group (entries_in groups) spelt in
    (record { some = sized.0.0; few = sized.0.1; each = split.0 }, groups_are groups sized.1 split.1)
  where
    all_split : (xs ys : List (Entry × ℕ)) → AllByRecursion (λ (e : Entry × ℕ). IsSpelt e.0 e.1) (xs ++ ys)
        → AllByRecursion (λ (e : Entry × ℕ). IsSpelt e.0 e.1) xs × AllByRecursion (λ (e : Entry × ℕ). IsSpelt e.0 e.1) ys
    all_split [] ys h = (tt, h)
    all_split (x ∷ xs) ys h = let rest = all_split xs ys h.1 in ((h.0, rest.0), rest.1)

pub pieces_spell : (t : Topology) (content : List ℕ) (generation : ℕ) (copy : Held NodeState) (tail : List (Entry × ℕ)) (groups : List (List (Entry × ℕ))) → is_topology t ≡ true → generation < NUMBER_LIMIT
    → (C : CopySpelt t copy tail) → entries_in groups ≡ tail → AllByRecursion IsSized groups → PiecesStand t content generation copy groups
    → SpellsArea t414 t414_ends t content generation Turns copy.base copy.network groups C.now
unfolding front_bytes cut_bytes
pieces_spell t content generation copy tail groups topology young C all sized P =
    let s = copy.network in
    let L = has_shape t topology in
    let B = cut_back t414_ends t copy.base s C.cut in
    let images = flat_map image s.nodes in
    let lines = flat_map line_bytes s.lines in
    let ports = flat_map port_bytes s.ports in
    let bytes = groups_bytes groups in
    let base = u64_bytes (base_number Turns copy.base) in
    let length_field = u32_bytes (cut_length t) in
    let age = u64_bytes generation in
    let front = front_bytes t generation Turns copy.base s in
    let a : length images ≡ images_length t = length-images s.nodes B.nodes ∙ ap (sum_by image_length) B.pages in
    let b = length-lines t.wires s.lines B.lines in
    let c = length-ports copy.base s.ports B.ports in
    let imaged = there_images content nodes_place s.nodes t.pages B.nodes B.pages P.images in
    let to_ports : IsThere content (lines_place t) (lines ++ ports) = there_append content (lines_place t) (ports_place t) lines ports (omega (arith, b, L.lines)) P.lines P.ports in
    let to_lines : IsThere content nodes_place (images ++ (lines ++ ports)) = there_append content nodes_place (lines_place t) images (lines ++ ports) (omega (arith, a)) imaged to_ports in
    let joined : (age ++ (length_field ++ base)) ++ (images ++ (lines ++ ports)) ≡ front =
    append_assoc age (length_field ++ base) (images ++ (lines ++ ports)) ∙ ap (λ xs. age ++ xs) (append_assoc length_field base (images ++ (lines ++ ports))) in
    let whole : IsThere content 0 front = subst (IsThere content 0) joined (there_append content 0 nodes_place (age ++ (length_field ++ base)) (images ++ (lines ++ ports)) refl P.fields to_lines) in
    let size : length front ≡ groups_place t = ap length (sym joined) ∙ omega (arith, a, b, c, L.lines, B.count, length-append images (lines ++ ports), length-append lines ports, length-append (age ++ (length_field ++ base)) (images ++ (lines ++ ports))) in
    let both : IsThere content 0 (front ++ (bytes ++ GATE_CLOSED ∷ [])) = there_append content 0 (groups_place t) front (bytes ++ GATE_CLOSED ∷ []) (omega (arith, size)) whole P.behind in
    let long : length (front ++ (bytes ++ GATE_CLOSED ∷ [])) ≤ length content = omega (arith, P.room, size, length-append front (bytes ++ GATE_CLOSED ∷ []), length-append bytes (GATE_CLOSED ∷ [])) in
    let rest = drop (length (front ++ (bytes ++ GATE_CLOSED ∷ []))) content in
    record {
      gate = GATE_CLOSED;
      rest = rest;
      shut = refl;
      spelled = there_whole content (front ++ (bytes ++ GATE_CLOSED ∷ [])) long both ∙ append_assoc front (bytes ++ GATE_CLOSED ∷ []) rest ∙ ap (λ xs. front ++ xs) (append_assoc bytes (GATE_CLOSED ∷ []) rest);
      generation_fits = young;
      cut = C.cut;
      each = groups_are groups sized (subst (AllByRecursion (λ (e : Entry × ℕ). IsSpelt e.0 e.1)) (sym all) C.spelt);
      of_form = are_of_turns (entries_in groups);
      numbers = subst (λ es. AreNumbered 0 copy.base (map (λ (e : Entry × ℕ). e.1) es)) (sym all) C.numbers;
      last = omega (arith, C.last, ap length all);
      leads = ap (λ es. after t414 s (map (λ (e : Entry × ℕ). e.0) es)) all ∙ ap (after t414 s) C.entries ∙ C.leads;
    }
