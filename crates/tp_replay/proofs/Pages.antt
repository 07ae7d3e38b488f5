-- A memory read page by page.
use Rattle.std.proofs.Common.{◌≡◌, ℕ, ◌+◌, ◌-◌, ◌*◌, ◌≤◌, List, [], ◌∷◌, ◌++◌, length, map, take, drop, sym, refl, ap, ◌∙◌, arith, append_assoc}
use Rattle.tp_replay.proofs.Lower.{take_all, take-append-drop, drop-take, take-take, PAGE_BYTES, image, NodeContents, page_of}

-- a number of pages and a number more
take_both : (n m : ℕ) (xs : List ℕ) → take (n + m) xs ≡ take n xs ++ take m (drop n xs)
take_both n m xs = sym (take-append-drop n (take (n + m) xs)) ∙ ap (λ ys. ys ++ drop n (take (n + m) xs)) (take-take n (n + m) xs (omega arith)) ∙ ap (λ ys. take n xs ++ ys) (drop-take n m xs)

-- one page more
pub page_more : (head memory : List ℕ) (i : ℕ) (was before page now : List ℕ) → before ≡ was ++ (head ++ take (PAGE_BYTES * i) memory) → page ≡ page_of memory i → now ≡ before ++ page
    → now ≡ was ++ (head ++ take (PAGE_BYTES * (i + 1)) memory)
page_more head memory i was before page now begun is then =
    let next : PAGE_BYTES * i + PAGE_BYTES ≡ PAGE_BYTES * (i + 1) = omega arith in
    let size : PAGE_BYTES * i + PAGE_BYTES - PAGE_BYTES * i ≡ PAGE_BYTES = omega arith in
    let more : take (PAGE_BYTES * (i + 1)) memory ≡ take (PAGE_BYTES * i) memory ++ page = ap (λ n. take n memory) (sym next) ∙ take_both (PAGE_BYTES * i) PAGE_BYTES memory ∙ ap (λ ys. take (PAGE_BYTES * i) memory ++ ys) (ap (λ n. take n (drop (PAGE_BYTES * i) memory)) (sym size) ∙ sym is) in
    then ∙ ap (λ xs. xs ++ page) begun ∙ append_assoc was (head ++ take (PAGE_BYTES * i) memory) page
    ∙ ap (λ xs. was ++ xs) (append_assoc head (take (PAGE_BYTES * i) memory) page ∙ ap (λ xs. head ++ xs) (sym more))

-- after the last page it is whole
pub page_last : (memory : List ℕ) (i : ℕ) → length memory ≤ PAGE_BYTES * i → take (PAGE_BYTES * i) memory ≡ memory
page_last memory i whole = take_all (PAGE_BYTES * i) memory whole

-- the images of live nodes
pub images_live : (nodes : List NodeContents) → map (λ node. image node.live) nodes ≡ map image (map (λ node. node.live) nodes)
images_live [] = refl
images_live (node ∷ nodes) = ap (λ images. image node.live ∷ images) (images_live nodes)
