-- Pieces of frozen images stay where they were put, also once others are put beside them.
use Rattle.std.proofs.Common.{◌≡◌, ◌≢◌, ◌⊎◌, inl, inr, ℕ, zero, suc, ◌+◌, ◌*◌, ◌<◌, ◌≤◌, List, [], ◌∷◌, length, take, get_or, slice_get, Some, sym, ap, subst, ◌∙◌, arith, length-take}
use Rattle.std.specs.Prelude.{drop, flat_map, sum_by}
use Rattle.tp_flush.proofs.Lower.{cases_lt, sum_by-cons, IMAGE_HEAD_BYTES, PAGE_BYTES, NodeState, IsNode, image, image_head, page_count, MarkedNetwork, WholeCut, HasCut, IsFrozenAs, IsThere, written, image_length, nodes_place, Topology, piece_length, piece_place, place_in_image, length-written, cut_frozen, image_in_pieces, there_kept, there_written, written_nothing, written_twice, AreFrozenPages, IsFrozenHead, IsFrozenPage, content_beside}
use Rattle.tp_flush.specs.Flushing.{Flushing}
use Rattle.tp_flush.specs.Ends.{NothingStored}
use Rattle.tp_flush.specs.Copying.{IsPartOut}
use Rattle.tp_flush.proofs.Puts.{length_suc, piece_ends, place_suc}

-- ## Pieces are apart

front_sum : (pages : List ℕ) (i j : ℕ) → i < j → j < length pages → sum_by image_length (take i pages) + image_length (get_or pages i 0) ≤ sum_by image_length (take j pages)
front_sum [] i j low there = absurd (omega (arith, there))
front_sum (p ∷ ps) i zero low there = absurd (omega (arith, low))
front_sum (p ∷ ps) zero (suc j) low there = omega (arith, sum_by-cons image_length p (take j ps))
front_sum (p ∷ ps) (suc i) (suc j) low there =
    omega (arith, front_sum ps i j (omega (arith, low)) (omega (arith, there)), sum_by-cons image_length p (take i ps), sum_by-cons image_length p (take j ps))

-- a piece ends before `at`, or begins after `count` bytes from there
abbrev pub LiesApart : Topology → ℕ → ℕ → ℕ → ℕ → Type 0
LiesApart t i p at count = (piece_place t i p + piece_length p ≤ at) ⊎ (at + count ≤ piece_place t i p)

-- from bytes of another node's image
pub nodes_apart : (t : Topology) (i p j at count : ℕ) → i ≢ j → i < length t.pages → j < length t.pages → p ≤ get_or t.pages i 0 → piece_place t j 0 ≤ at
    → at + count ≤ piece_place t j 0 + image_length (get_or t.pages j 0) → LiesApart t i p at count
nodes_apart t i p j at count other i_there j_there low from until = elim (cases_lt i j) [
  | inl before ↦ inl (omega (arith, front_sum t.pages i j before j_there, piece_ends p (get_or t.pages i 0) low, from))
  | inr high ↦ inr (omega (arith, front_sum t.pages j i (behind high) i_there, until))
]
  where
    behind : j ≤ i → j < i
    behind from = elim (cases_lt j i) [
      | inl less ↦ less
      | inr least ↦ absurd (other (omega (arith, from, least)))
    ]

in_order : (p q : ℕ) → p < q → place_in_image p + piece_length p ≤ place_in_image q
in_order p zero low = absurd (omega (arith, low))
in_order zero (suc q) low = omega (arith, place_suc q)
in_order (suc p) (suc q) low = omega (arith, low, place_suc p, place_suc q, length_suc p)

pub pieces_apart : (t : Topology) (i p q count : ℕ) → p < q → LiesApart t i p (piece_place t i q) count
pieces_apart t i p q count low = inl (omega (arith, in_order p q low))

-- ## Pieces stay

piece_kept : (content : List ℕ) (t : Topology) (i p at : ℕ) (bytes more : List ℕ) → length bytes ≤ piece_length p → LiesApart t i p at (length more) → at + length more ≤ length content
    → IsThere content (piece_place t i p) bytes → IsThere (written content at more) (piece_place t i p) bytes
piece_kept content t i p at bytes more few (inl front) room there = there_kept content (piece_place t i p) bytes at more room (inl (omega (arith, front, few))) there
piece_kept content t i p at bytes more few (inr behind) room there = there_kept content (piece_place t i p) bytes at more room (inr behind) there

module _ (t : Topology) (net : MarkedNetwork NodeState) (content : List ℕ) (at : ℕ) (more : List ℕ) (room : at + length more ≤ length content) where
  -- what was there stays beside bytes that are put
  pub part_kept : (i count : ℕ) → LiesApart t i 0 at (length more) → ((page : ℕ) → page < count → LiesApart t i (suc page) at (length more)) → IsPartOut t net content i count
      → IsPartOut t net (written content at more) i count
  part_kept i count head each P = record {
    node = P.node;
    frozen = P.frozen;
    long = P.long;
    head = piece_kept content t i 0 at (image_head P.node) more (omega (arith, P.long)) head room P.head;
    pages = λ page low.
        piece_kept content t i (suc page) at (take PAGE_BYTES (drop (PAGE_BYTES * page) P.node.memory)) more (omega (arith, length_suc page, length-take PAGE_BYTES (drop (PAGE_BYTES * page) P.node.memory)))
        (each page low) room (P.pages page low);
  }

  -- of another node
  pub other_kept : (i j : ℕ) → i ≢ j → i < length t.pages → j < length t.pages → piece_place t j 0 ≤ at → at + length more ≤ piece_place t j 0 + image_length (get_or t.pages j 0)
      → IsPartOut t net content i (get_or t.pages i 0) → IsPartOut t net (written content at more) i (get_or t.pages i 0)
  other_kept i j other i_there j_there from until =
      part_kept i (get_or t.pages i 0) (nodes_apart t i 0 j at (length more) other i_there j_there (omega arith) from until)
      (λ page low. nodes_apart t i (suc page) j at (length more) other i_there j_there (omega (arith, low)) from until)

same_frozen : (net : MarkedNetwork NodeState) (i : ℕ) (a b : NodeState) → IsFrozenAs net i a → IsFrozenAs net i b → a ≡ b
same_frozen net i a b F G = let first = F.is in let second = G.is in cc

-- the head is the first piece
pub head_out : (t : Topology) (net : MarkedNetwork NodeState) (content : List ℕ) (i : ℕ) (bytes : List ℕ) → IsFrozenHead net i bytes → length bytes ≡ IMAGE_HEAD_BYTES
    → piece_place t i 0 + IMAGE_HEAD_BYTES ≤ length content → IsPartOut t net (written content (piece_place t i 0) bytes) i 0
head_out t net content i bytes H long room = record {
  node = H.node;
  frozen = H.frozen;
  long = ap length (sym H.is) ∙ long;
  head = subst (λ xs. IsThere (written content (piece_place t i 0) bytes) (piece_place t i 0) xs) H.is (there_written content (piece_place t i 0) bytes (omega (arith, room, long)));
  pages = λ page low. absurd (omega (arith, low));
}

-- a page after those that are there
pub page_out : (t : Topology) (net : MarkedNetwork NodeState) (content : List ℕ) (i count : ℕ) (bytes : List ℕ) → IsPartOut t net content i count → IsFrozenPage net i count bytes → length bytes ≡ PAGE_BYTES
    → piece_place t i (suc count) + PAGE_BYTES ≤ length content → IsPartOut t net (written content (piece_place t i (suc count)) bytes) i (suc count)
unfolding part_kept
page_out t net content i count bytes P F long room =
    let K = part_kept t net content (piece_place t i (suc count)) bytes (omega (arith, room, long)) i count (pieces_apart t i 0 (suc count) (length bytes) (omega arith))
    (λ page low. pieces_apart t i (suc page) (suc count) (length bytes) (omega (arith, low))) P in
    let here : F.node ≡ P.node = same_frozen net i F.node P.node F.frozen P.frozen in
    let is : bytes ≡ take PAGE_BYTES (drop (PAGE_BYTES * count) P.node.memory) = F.is ∙ ap (λ (n : NodeState). take PAGE_BYTES (drop (PAGE_BYTES * count) n.memory)) here in
    let new : List ℕ = written content (piece_place t i (suc count)) bytes in
    let last : IsThere new (piece_place t i (suc count)) (take PAGE_BYTES (drop (PAGE_BYTES * count) P.node.memory)) =
    subst (λ xs. IsThere new (piece_place t i (suc count)) xs) is (there_written content (piece_place t i (suc count)) bytes (omega (arith, room, long))) in
    record {
      node = K.node;
      frozen = K.frozen;
      long = K.long;
      head = K.head;
      pages = λ page low. elim (cases_lt page count) [
        | inl before ↦ K.pages page before
        | inr from ↦
            let same : page ≡ count = omega (arith, low, from) in
            subst (λ (k : ℕ). IsThere new (piece_place t i (suc k)) (take PAGE_BYTES (drop (PAGE_BYTES * k) P.node.memory))) (sym same) last
      ];
    }

-- the first page's place, and the next one's
page_next : (t : Topology) (i page : ℕ) → piece_place t i (suc page) + PAGE_BYTES ≡ piece_place t i (suc (suc page))
page_next t i page = omega (arith, place_suc page, place_suc (suc page))

-- pages after those that are there, in one piece
pub pages_out : (t : Topology) (net : MarkedNetwork NodeState) (content : List ℕ) (i first : ℕ) (pages : List (List ℕ)) → IsPartOut t net content i first → AreFrozenPages net i first (length pages) pages
    → ((k : ℕ) → k < length pages → length (get_or pages k []) ≡ PAGE_BYTES) → piece_place t i (suc first) + PAGE_BYTES * length pages ≤ length content
    → IsPartOut t net (written content (piece_place t i (suc first)) (flat_map (λ page. page) pages)) i (first + length pages)
pages_out t net content i first [] P frozen long room =
    let none : first ≡ first + 0 = omega arith in
    subst (λ xs. IsPartOut t net xs i (first + 0)) (sym (written_nothing content (piece_place t i (suc first)))) (subst (IsPartOut t net content i) none P)
pages_out t net content i first (page ∷ pages) P frozen long room =
    let at = piece_place t i (suc first) in
    let size : length page ≡ PAGE_BYTES = long 0 (omega arith) in
    let here : first + 0 ≡ first = omega arith in
    let one : IsPartOut t net (written content at page) i (suc first) =
    page_out t net content i first page P (subst (λ n. IsFrozenPage net i n page) here (frozen 0 (omega arith))) size (omega (arith, room)) in
    let next : at + length page ≡ piece_place t i (suc (suc first)) = omega (arith, size, page_next t i first) in
    let many : suc first + length pages ≡ first + suc (length pages) = omega arith in
    let rest =
    pages_out t net (written content at page) i (suc first) pages one
    (λ k low. let up : first + suc k ≡ suc first + k = omega arith in subst (λ n. IsFrozenPage net i n (get_or pages k [])) up (frozen (suc k) (omega (arith, low))))
    (λ k low. long (suc k) (omega (arith, low))) (omega (arith, room, page_next t i first, length-written content at page (omega (arith, room, size)))) in
    subst (λ xs. IsPartOut t net xs i (first + suc (length pages))) (written_twice content at page (flat_map (λ p. p) pages) (omega (arith, room)))
    (subst (λ n. IsPartOut t net (written (written content at page) n (flat_map (λ p. p) pages)) i (first + suc (length pages))) (sym next)
    (subst (IsPartOut t net (written (written content at page) (piece_place t i (suc (suc first))) (flat_map (λ p. p) pages)) i) many rest))

-- ## The images of a cut

pub image_out : (t : Topology) (net : MarkedNetwork NodeState) (content : List ℕ) (i : ℕ) (cut : WholeCut) (nodes : List NodeState) (node : NodeState) → IsPartOut t net content i (get_or t.pages i 0) → HasCut net cut nodes
    → slice_get nodes i ≡ Some node → IsNode node → page_count node.memory ≡ get_or t.pages i 0 → IsThere content (nodes_place + sum_by image_length (take i t.pages)) (image node)
image_out t net content i cut nodes node P has at N count =
    let there : slice_get nodes i ≡ Some P.node = cut_frozen net cut nodes i P.node has P.frozen in
    let same : P.node ≡ node = cc in
    let place : piece_place t i 0 ≡ nodes_place + sum_by image_length (take i t.pages) = omega arith in
    image_in_pieces content (nodes_place + sum_by image_length (take i t.pages)) node N
    (subst (λ (n : NodeState). IsThere content (nodes_place + sum_by image_length (take i t.pages)) (image_head n)) same (subst (λ k. IsThere content k (image_head P.node)) place P.head))
    (λ page low.
    let here : piece_place t i (suc page) ≡ nodes_place + sum_by image_length (take i t.pages) + IMAGE_HEAD_BYTES + PAGE_BYTES * page = omega (arith, place_suc page) in
    subst (λ (n : NodeState). IsThere content (nodes_place + sum_by image_length (take i t.pages) + IMAGE_HEAD_BYTES + PAGE_BYTES * page) (take PAGE_BYTES (drop (PAGE_BYTES * page) n.memory))) same
    (subst (λ k. IsThere content k (take PAGE_BYTES (drop (PAGE_BYTES * page) P.node.memory))) here (P.pages page (omega (arith, low, count)))))

-- ## After reading the book, and after a piece was put

pub part_looked : (a b : Flushing) → NothingStored a b → b.state ≡ a.state → b.topology ≡ a.topology → (i count : ℕ) → IsPartOut a.topology a.world.net (content_beside a.place a.state) i count
    → IsPartOut b.topology b.world.net (content_beside b.place b.state) i count
part_looked a b W state topology i count P =
    let here : IsPartOut a.topology b.world.net (content_beside a.place a.state) i count =
    record { node = P.node; frozen = W.frozen i P.node P.frozen; long = P.long; head = P.head; pages = P.pages } in
    let same : content_beside a.place a.state ≡ content_beside b.place b.state = λ j. content_beside (sym W.place j) (sym state j) in
    subst (λ (t : Topology). IsPartOut t b.world.net (content_beside b.place b.state) i count) (sym topology) (subst (λ xs. IsPartOut a.topology b.world.net xs i count) same here)

pub part_put : (b d : Flushing) (xs : List ℕ) (i count : ℕ) → content_beside d.place d.state ≡ xs → d.world.net ≡ b.world.net → d.topology ≡ b.topology → IsPartOut b.topology b.world.net xs i count
    → IsPartOut d.topology d.world.net (content_beside d.place d.state) i count
part_put b d xs i count content net topology P =
    subst (λ (t : Topology). IsPartOut t d.world.net (content_beside d.place d.state) i count) (sym topology)
    (subst (λ n. IsPartOut b.topology n (content_beside d.place d.state) i count) (sym net) (subst (λ ys. IsPartOut b.topology b.world.net ys i count) (sym content) P))
