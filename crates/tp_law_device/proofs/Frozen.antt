-- The image of a node that recorded stays until the trim, and is that of the cut; its pieces are the image.
use Rattle.std.proofs.Common.{◌≡◌, ◌≢◌, ℕ, zero, suc, ◌+◌, ◌*◌, ◌/◌, ◌%◌, ◌<◌, false, List, [], ◌∷◌, length, take, drop, get_or, refl, sym, ap, subst, ◌∙◌, arith, Option, Some, None, slice_get, length-take, length-drop, length-append, get_or-set_other}
use Rattle.std.specs.Prelude.{nat_le, ◌==◌, ◌&&◌, is_some}
use Rattle.tp_law_device.proofs.Lower.{option_map, and_parts, eqb-true, true≢false, get_or-take, get_or-drop, Machine, on_line, process, takes, before, MarkedNetwork, has_recorded, collected, with_count, closed_over, WholeCut, all_some, Act, Begin, Record, Journal, Close, Trim, happens, NodeState, IMAGE_HEAD_BYTES, PAGE_BYTES, MIN_PAGES, MAX_PAGES, IsNode, image, image_head, page_count, rules_of, node_of-image, is_trim, HasCut, map_some, slice_get-set_other, begin_parts, record_parts, close_parts, journal_parts, IsThere, IsFrozenAs}
use Rattle.tp_law_device.proofs.SpeltCuts.{image_size}
use Rattle.tp_law_device.proofs.TailRoom.{same_counts}
use Rattle.tp_law_device.proofs.Pieces.{there_append}

pub frozen_as_stays : {Node : Type 0} (M : Machine Node) (w v : MarkedNetwork Node) (act : Act) (i : ℕ) (node : Node) → is_trim act ≡ false → happens M w act ≡ Some v → IsFrozenAs w i node → IsFrozenAs v i node
unfolding happens
frozen_as_stays M w v Begin i node t e F = absurd (let none = (begin_parts w v w.snapshot e).0 in let some = F.runs in cc)
frozen_as_stays M w v (Record j) i node t e F =
    let P = record_parts w v w.snapshot j e in
    let alike : Some F.snap ≡ Some P.0 = sym F.runs ∙ P.1 in
    let is : F.snap ≡ P.0 = cc in
    let apart : i ≢ j = λ same. true≢false (sym F.recorded ∙ ap (λ s. has_recorded s i) is ∙ ap (has_recorded P.0) same ∙ P.3) in
    subst (λ u. IsFrozenAs u i node) P.4 (record {
      snap = with_count P.0 j _;
      runs = refl;
      recorded = ap is_some (get_or-set_other P.0.counts j i (Some _) (Some 0) apart) ∙ ap (λ s. has_recorded s i) (sym is) ∙ F.recorded;
      is = slice_get-set_other w.frozen j i (slice_get w.live.nodes j) apart ∙ F.is;
    })
frozen_as_stays M w v (Journal entry) i node t e F =
    let P = journal_parts w v M entry e in
    subst (λ u. IsFrozenAs u i node) P.2 (record {
      snap = collected (process w.start.wires (length w.start.nodes) entry) (takes w.live.wires (length w.live.nodes) entry) F.snap;
      runs = ap (option_map (collected (process w.start.wires (length w.start.nodes) entry) (takes w.live.wires (length w.live.nodes) entry))) F.runs;
      recorded = ap (λ counts. is_some (get_or counts i (Some 0))) (same_counts (process w.start.wires (length w.start.nodes) entry) (takes w.live.wires (length w.live.nodes) entry) F.snap) ∙ F.recorded;
      is = F.is;
    })
frozen_as_stays M w v (Close line) i node t e F =
    let P = close_parts w v w.snapshot line e in
    let alike : Some F.snap ≡ Some P.0 = sym F.runs ∙ P.1 in
    let is : F.snap ≡ P.0 = cc in
    subst (λ u. IsFrozenAs u i node) P.4 (record { snap = closed_over P.0 line (before (on_line w.live.lines line)); runs = refl; recorded = ap (λ s. has_recorded s i) (sym is) ∙ F.recorded; is = F.is })
frozen_as_stays M w v Trim i node t e F = absurd (true≢false t)

all_some_at : {A : Type 0} (given : List (Option A)) (items : List A) (i : ℕ) (x : A) → all_some given ≡ Some items → slice_get given i ≡ Some (Some x) → slice_get items i ≡ Some x
all_some_at [] items i x e at = cc
all_some_at (None ∷ given) items i x e at = cc
all_some_at (Some y ∷ given) items zero x e at =
    let Q = map_some (λ ys. y ∷ ys) (all_some given) items e in
    let same : y ≡ x = cc in
    ap (λ ys. slice_get ys 0) (sym Q.2) ∙ ap Some same
all_some_at (Some y ∷ given) items (suc i) x e at =
    let Q = map_some (λ ys. y ∷ ys) (all_some given) items e in
    ap (λ ys. slice_get ys (suc i)) (sym Q.2) ∙ all_some_at given Q.0 i x Q.1 at

-- the nodes of a whole cut are those that were frozen
pub cut_frozen : {Node : Type 0} (w : MarkedNetwork Node) (cut : WholeCut) (nodes : List Node) (i : ℕ) (node : Node) → HasCut w cut nodes → IsFrozenAs w i node → slice_get nodes i ≡ Some node
cut_frozen w cut nodes i node has F = all_some_at w.frozen nodes i node has.images F.is

-- ## An image in pieces

image_there : (content : List ℕ) (at : ℕ) (node : NodeState) (pages : ℕ) → length (image_head node) ≡ IMAGE_HEAD_BYTES → length node.memory ≡ PAGE_BYTES * pages → IsThere content at (image_head node)
    → ((page : ℕ) → page < pages → IsThere content (at + IMAGE_HEAD_BYTES + PAGE_BYTES * page) (take PAGE_BYTES (drop (PAGE_BYTES * page) node.memory))) → IsThere content at (image node)
unfolding image
image_there content at node pages head long first each =
    there_append content at (at + IMAGE_HEAD_BYTES) (image_head node) node.memory (omega (arith, head)) first memory
  where
    memory : IsThere content (at + IMAGE_HEAD_BYTES) node.memory
    memory k low =
        let page = k / PAGE_BYTES in
        let rest = k % PAGE_BYTES in
        let split : PAGE_BYTES * page + rest ≡ k = omega arith in
        let within : rest < PAGE_BYTES = omega arith in
        let there : page < pages = omega (arith, long, low, split, within) in
        let size : rest < length (take PAGE_BYTES (drop (PAGE_BYTES * page) node.memory)) = omega (arith, long, low, split, within, length-take PAGE_BYTES (drop (PAGE_BYTES * page) node.memory), length-drop (PAGE_BYTES * page) node.memory) in
        ap (λ place. get_or content place 0) (omega (arith, split))
        ∙ each page there rest size
        ∙ get_or-take PAGE_BYTES (drop (PAGE_BYTES * page) node.memory) rest 0 within
        ∙ get_or-drop (PAGE_BYTES * page) node.memory rest 0
        ∙ ap (λ place. get_or node.memory place 0) split

-- of a node that has an image, each of its pages there
pub image_in_pieces : (content : List ℕ) (at : ℕ) (node : NodeState) → IsNode node → IsThere content at (image_head node)
    → ((page : ℕ) → page < page_count node.memory → IsThere content (at + IMAGE_HEAD_BYTES + PAGE_BYTES * page) (take PAGE_BYTES (drop (PAGE_BYTES * page) node.memory))) → IsThere content at (image node)
unfolding image
image_in_pieces content at node N first each =
    let R = rules_of node N.keeps in
    let pages = page_count node.memory in
    let long : length node.memory ≡ PAGE_BYTES * pages = eqb-true (length node.memory) (PAGE_BYTES * pages) (and_parts (length node.memory == PAGE_BYTES * pages) (nat_le MIN_PAGES pages && nat_le pages MAX_PAGES) R.memory).0 in
    let whole = image_size (image node) node (node_of-image node N) in
    image_there content at node pages (omega (arith, long, whole, length-append (image_head node) node.memory)) long first each
