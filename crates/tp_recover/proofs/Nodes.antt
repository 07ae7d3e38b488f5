-- Images that are read one after the other.
use Rattle.std.proofs.Common.{◌≡◌, ℕ, ◌+◌, ◌*◌, ◌<◌, ◌≤◌, List, [], ◌∷◌, ◌++◌, length, take, drop, get_or, refl, sym, ap, ◌∙◌, arith, append-nil, Bool, true, false, cond, subst, Some, None, Ok, Err, length-drop}
use Rattle.std.specs.Prelude.{nat_eq, Result, sum_by}
use Rattle.tp_recover.proofs.Lower.{eq-eqb, take_all, take-append-drop, take-take, drop-take, drop-drop, drop_more, drop_all, sum_by_more, sum_by_more_le, IMAGE_HEAD_BYTES, PAGE_BYTES, node_with, nodes_in, only_if, or_damaged, Moment, node_at, node_of, page_count, image_length, NodeState, ◌>>=◌, NodeContents}
use Rattle.tp_recover.specs.declared.unopened.Unopened.{Unopened}
use Rattle.tp_recover.specs.Nodes.{AreAllThawed}
use Rattle.tp_recover.specs.Reading.{ReadAnswer}
use Rattle.tp_recover.proofs.Records.{behind, with_first, step_read, step_error}

-- ## One image

only_if-cond : (test : NodeState → Bool) (t : Bool) (n : NodeState) → test n ≡ true → only_if test (cond t (Some n) None) ≡ cond t (Some n) None
only_if-cond test true n is = ap (λ b. cond b (Some n) None) is
only_if-cond test false n is = refl

-- how many pages a node of a number of bytes has
node_of-pages : (pages : ℕ) (bytes : List ℕ) → length bytes ≡ image_length pages → only_if (λ n. nat_eq (page_count n.memory) pages) (node_of bytes) ≡ node_of bytes
unfolding node_of node_at
node_of-pages pages bytes len =
    only_if-cond (λ n. nat_eq (page_count n.memory) pages) _ (node_at bytes) (eq-eqb (page_count (drop IMAGE_HEAD_BYTES bytes)) pages (omega (arith, length-drop IMAGE_HEAD_BYTES bytes)))

pub node_with-whole : (pages : ℕ) (bytes : List ℕ) → length bytes ≡ image_length pages → node_with pages bytes ≡ node_of bytes
node_with-whole pages bytes len =
    ap (λ xs. only_if (λ n. nat_eq (page_count n.memory) pages) (node_of xs)) (take_all (image_length pages) bytes (omega (arith, len))) ∙ node_of-pages pages bytes len

-- an image in longer bytes
pub node_with-take : (pages : ℕ) (bytes : List ℕ) → node_with pages (take (image_length pages) bytes) ≡ node_with pages bytes
node_with-take pages bytes =
    ap (λ xs. only_if (λ n. nat_eq (page_count n.memory) pages) (node_of xs)) (take-take (image_length pages) (image_length pages) bytes (omega arith))

pub node_read : (at pages : ℕ) (xs bytes : List ℕ) → bytes ≡ take (image_length pages) (drop at xs) → or_damaged at (node_with pages (drop at xs)) ≡ or_damaged at (node_with pages bytes)
node_read at pages xs bytes front = ap (or_damaged at) (sym (node_with-take pages (drop at xs)) ∙ ap (node_with pages) (sym front))

-- a head and the memory after it, read one after the other
take_both : (n m : ℕ) (xs : List ℕ) → take (n + m) xs ≡ take n xs ++ take m (drop n xs)
take_both n m xs = sym (take-append-drop n (take (n + m) xs)) ∙ ap (λ ys. ys ++ drop n (take (n + m) xs)) (take-take n (n + m) xs (omega arith)) ∙ ap (λ ys. take n xs ++ ys) (drop-take n m xs)

pub image_apart : (at place pages : ℕ) (old now : Moment) (head memory : List ℕ) → place ≡ at + IMAGE_HEAD_BYTES → now ≡ old
    → head ≡ take IMAGE_HEAD_BYTES (drop at old.bytes) → memory ≡ take (PAGE_BYTES * pages) (drop place now.bytes)
    → head ++ memory ≡ take (image_length pages) (drop at old.bytes)
image_apart at place pages old now head memory there kept front rest =
    ap (λ xs. xs ++ memory) front
    ∙ ap (λ ys. take IMAGE_HEAD_BYTES (drop at old.bytes) ++ ys)
    (rest ∙ ap (λ (m : Moment). take (PAGE_BYTES * pages) (drop place m.bytes)) kept ∙ ap (λ p. take (PAGE_BYTES * pages) (drop p old.bytes)) there
    ∙ ap (take (PAGE_BYTES * pages)) (sym (drop-drop IMAGE_HEAD_BYTES at old.bytes)))
    ∙ sym (take_both IMAGE_HEAD_BYTES (PAGE_BYTES * pages) (drop at old.bytes))

-- ## One after the other

nodes_in-cons : (at pages : ℕ) (more : List ℕ) (bytes : List ℕ)
    → nodes_in at (pages ∷ more) bytes ≡ (or_damaged at (node_with pages bytes) >>= (λ node. with_first node (nodes_in (at + image_length pages) more (drop (image_length pages) bytes))))
unfolding nodes_in
nodes_in-cons at pages more bytes = refl

nodes_in-none : (at : ℕ) (pages bytes : List ℕ) → pages ≡ [] → nodes_in at pages bytes ≡ Ok []
unfolding nodes_in
nodes_in-none at pages bytes is = ap (λ ps. nodes_in at ps bytes) is

-- the nodes that are left, by the next one
nodes_left : (place i : ℕ) (pages xs : List ℕ) → i < length pages
    → nodes_in place (drop i pages) (drop place xs)
    ≡ (or_damaged place (node_with (get_or pages i 0) (drop place xs)) >>= (λ node. with_first node (nodes_in (place + image_length (get_or pages i 0)) (drop (i + 1) pages) (drop (place + image_length (get_or pages i 0)) xs))))
nodes_left place i pages xs lt =
    ap (λ ps. nodes_in place ps (drop place xs)) (drop_more pages i 0 lt)
    ∙ nodes_in-cons place (get_or pages i 0) (drop (i + 1) pages) (drop place xs)
    ∙ ap (λ ys. or_damaged place (node_with (get_or pages i 0) (drop place xs)) >>= (λ node. with_first node (nodes_in (place + image_length (get_or pages i 0)) (drop (i + 1) pages) ys))) (drop-drop (image_length (get_or pages i 0)) place xs)

pub nodes_in-step : (at place next i : ℕ) (pages : List ℕ) (old now : Moment) (items new : List NodeState) (node : NodeState) → i < length pages
    → nodes_in at pages (drop at old.bytes) ≡ behind items (nodes_in place (drop i pages) (drop place old.bytes))
    → now ≡ old → or_damaged place (node_with (get_or pages i 0) (drop place now.bytes)) ≡ Ok node → new ≡ items ++ node ∷ [] → next ≡ place + image_length (get_or pages i 0)
    → nodes_in at pages (drop at old.bytes) ≡ behind new (nodes_in next (drop (i + 1) pages) (drop next old.bytes))
nodes_in-step at place next i pages old now items new node lt so_far kept read push there =
    step_read items new node (nodes_in at pages (drop at old.bytes)) (or_damaged place (node_with (get_or pages i 0) (drop place old.bytes)))
    (nodes_in (place + image_length (get_or pages i 0)) (drop (i + 1) pages) (drop (place + image_length (get_or pages i 0)) old.bytes))
    (so_far ∙ ap (behind items) (nodes_left place i pages old.bytes lt))
    (ap (λ m. or_damaged place (node_with (get_or pages i 0) (drop place m.bytes))) (sym kept) ∙ read) push
    ∙ ap (λ p. behind new (nodes_in p (drop (i + 1) pages) (drop p old.bytes))) (sym there)

pub nodes_in-error : {A C : Type 0} (seen : A → NodeState) (seen_then : C → List NodeState) (at place i : ℕ) (pages : List ℕ) (old now : Moment) (items : List NodeState) (error : Unopened) (answer : Result C Unopened) → i < length pages
    → nodes_in at pages (drop at old.bytes) ≡ behind items (nodes_in place (drop i pages) (drop place old.bytes))
    → now ≡ old → ReadAnswer seen (or_damaged place (node_with (get_or pages i 0) (drop place now.bytes))) (Err error) → answer ≡ Err error
    → ReadAnswer seen_then (nodes_in at pages (drop at old.bytes)) answer
nodes_in-error seen seen_then at place i pages old now items error answer lt so_far kept read is =
    step_error seen seen_then items (nodes_in at pages (drop at old.bytes)) (or_damaged place (node_with (get_or pages i 0) (drop place old.bytes)))
    (nodes_in (place + image_length (get_or pages i 0)) (drop (i + 1) pages) (drop (place + image_length (get_or pages i 0)) old.bytes)) error answer
    (so_far ∙ ap (behind items) (nodes_left place i pages old.bytes lt))
    (subst (λ m. ReadAnswer seen (or_damaged place (node_with (get_or pages i 0) (drop place m.bytes))) (Err error)) kept read) is

pub nodes_in-end : (at place i : ℕ) (pages xs : List ℕ) (items : List NodeState) → length pages ≤ i
    → nodes_in at pages (drop at xs) ≡ behind items (nodes_in place (drop i pages) (drop place xs)) → nodes_in at pages (drop at xs) ≡ Ok items
nodes_in-end at place i pages xs items le so_far =
    so_far ∙ ap (behind items) (nodes_in-none place (drop i pages) (drop place xs) (drop_all i pages le)) ∙ ap Ok (append-nil items)

-- the place after a number of images, and the room for one more
pub place_more : (at place i : ℕ) (pages : List ℕ) → i < length pages → place ≡ at + sum_by image_length (take i pages)
    → place + image_length (get_or pages i 0) ≡ at + sum_by image_length (take (i + 1) pages)
place_more at place i pages lt is = omega (arith, sum_by_more image_length pages i 0 lt)

pub place_inside : (at place i : ℕ) (pages : List ℕ) → i < length pages → place ≡ at + sum_by image_length (take i pages)
    → place + image_length (get_or pages i 0) ≤ at + sum_by image_length pages
place_inside at place i pages lt is = omega (arith, sum_by_more_le image_length pages i 0 lt)

-- one more that isn't frozen
pub thawed_push : (nodes : List NodeContents) (node : NodeContents) → AreAllThawed nodes → node.frozen ≡ None → AreAllThawed (nodes ++ node ∷ [])
thawed_push [] node are is = (is, tt)
thawed_push (first ∷ nodes) node are is = (are.0, thawed_push nodes node are.1 is)
