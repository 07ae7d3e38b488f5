-- The pages of nodes are numbers of pages.
use Rattle.std.proofs.Common.{◌≡◌, ℕ, true, List, ◌++◌, take, drop, sym, ap, ◌∙◌}
use Rattle.tp_area.proofs.Lower.{list_all, and_parts, take-append-drop, list_all-append, Topology, is_page_count, is_topology, has_shape}

-- those of a topology
pub pages_counted : (t : Topology) (pages : List ℕ) → is_topology t ≡ true → pages ≡ t.pages → list_all is_page_count pages ≡ true
pages_counted t pages rules is = let shape = has_shape t rules in ap (list_all is_page_count) is ∙ shape.pages

-- and those of its first nodes
pub first_pages_counted : (t : Topology) (pages : List ℕ) (n : ℕ) → is_topology t ≡ true → pages ≡ t.pages → list_all is_page_count (take n pages) ≡ true
first_pages_counted t pages n rules is =
    let all : list_all is_page_count (take n pages ++ drop n pages) ≡ true = ap (list_all is_page_count) (take-append-drop n pages) ∙ pages_counted t pages rules is in
    (and_parts (list_all is_page_count (take n pages)) (list_all is_page_count (drop n pages)) (sym (list_all-append is_page_count (take n pages) (drop n pages)) ∙ all)).0
