-- Images that a device may be formatted with.
use Rattle.std.proofs.Common.{◌≡◌, ℕ, ◌+◌, ◌*◌, ◌<◌, ◌≤◌, ◌≢◌, Bool, true, false, cond, List, [], ◌∷◌, length, take, drop, get_or, refl, sym, ap, subst, ◌∙◌, arith, length-drop, Some, None, Ok, Err}
use Rattle.std.specs.Prelude.{Option, ◌&&◌, ◌==◌, nat_le, is_some, bytes_eq}
use Rattle.tp_area.proofs.Lower.{list_all, and_parts, leb-true, eqb-true, eq-eqb, true≢false, cond_some, drop_all, drop_more, IMAGE_HEAD_BYTES, PAGE_BYTES, MIN_PAGES, MAX_PAGES, NodeState, ◌>>=◌, out_end_at, in_end_at, ends_at, is_idle_out, is_idle_in, page_count, is_memory, is_node, node_at, node_of, image_head, has_idle_links, only_if, fresh_node, fresh_nodes, image_read, NodeContents, ReadsImage}
use Rattle.tp_area.specs.declared.fault.FormatFault.{FormatFault}
use Rattle.tp_area.specs.Formatting.{Checks}

-- ## Images

-- the node of an image, and how long the image is
pub record IsImageOf (bytes : List ℕ) (n : NodeState) : Type 0 where
  pub outputs : n.outputs ≡ ends_at out_end_at 4 (drop 44 bytes)
  pub inputs : n.inputs ≡ ends_at in_end_at 4 (drop 108 bytes)
  pub memory : length n.memory ≡ PAGE_BYTES * page_count n.memory
  pub size : length bytes ≡ IMAGE_HEAD_BYTES + length n.memory

node_at_is : (bytes : List ℕ) → is_node (node_at bytes) ≡ true → IsImageOf bytes (node_at bytes)
unfolding node_at is_node
node_at_is bytes keeps =
    let memory = drop IMAGE_HEAD_BYTES bytes in
    let t = and_parts (is_memory memory) _ keeps in
    let parts = and_parts (length memory == PAGE_BYTES * page_count memory) (nat_le MIN_PAGES (page_count memory) && nat_le (page_count memory) MAX_PAGES) t.0 in
    let pages = and_parts (nat_le MIN_PAGES (page_count memory)) (nat_le (page_count memory) MAX_PAGES) parts.1 in
    let whole : length memory ≡ PAGE_BYTES * page_count memory = eqb-true (length memory) (PAGE_BYTES * page_count memory) parts.0 in
    record {
      outputs = refl;
      inputs = refl;
      memory = whole;
      size = omega (arith, leb-true MIN_PAGES (page_count memory) pages.0, whole, length-drop IMAGE_HEAD_BYTES bytes);
    }

pub image_is : (bytes : List ℕ) (n : NodeState) → node_of bytes ≡ Some n → IsImageOf bytes n
unfolding node_of
image_is bytes n e =
    let found = cond_some (is_node (node_at bytes) && bytes_eq (take IMAGE_HEAD_BYTES bytes) (image_head (node_at bytes))) (node_at bytes) n e in
    subst (IsImageOf bytes) found.1 (node_at_is bytes (and_parts (is_node (node_at bytes)) _ found.0).0)

-- what the node of an image has at its links
pub links_at : (bytes : List ℕ)
    → has_idle_links (node_at bytes) ≡ (list_all is_idle_out (ends_at out_end_at 4 (drop 44 bytes)) && list_all is_idle_in (ends_at in_end_at 4 (drop 108 bytes)))
unfolding node_at
links_at bytes = refl

-- ## The answers

pub good_image : {A : Type 0} (o : Option A) (x : A) → o ≡ Some x → Checks o (Ok tt)
good_image (Some y) x is = tt
good_image None x is = cc

pub bad_image : {A : Type 0} (o : Option A) → o ≡ None → Checks o (Err FormatFault.BadImage)
bad_image (Some y) is = cc
bad_image None is = tt

-- its pages and its links decide
image_checked : (pages count : ℕ) (bytes : List ℕ) (node : NodeContents) (answer : Bool) → ReadsImage (node_of bytes) (Ok node) → length node.live.memory ≡ PAGE_BYTES * count
    → answer ≡ (list_all is_idle_out (ends_at out_end_at 4 (drop 44 bytes)) && list_all is_idle_in (ends_at in_end_at 4 (drop 108 bytes)))
    → fresh_node pages bytes ≡ cond ((count == pages) && answer) (Some node.live) None
image_checked pages count bytes node answer read size has =
    let n = node.live in
    let found : node_of bytes ≡ Some n = image_read (node_of bytes) node read in
    let is = image_is bytes n found in
    let k : page_count n.memory ≡ count = omega (arith, size) in
    ap (only_if (λ (m : NodeState). (page_count m.memory == pages) && has_idle_links m)) found
    ∙ ap (λ c. cond ((c == pages) && (list_all is_idle_out n.outputs && list_all is_idle_in n.inputs)) (Some n) None) k
    ∙ ap (λ ends. cond ((count == pages) && (list_all is_idle_out ends && list_all is_idle_in n.inputs)) (Some n) None) is.outputs
    ∙ ap (λ ends. cond ((count == pages) && (list_all is_idle_out (ends_at out_end_at 4 (drop 44 bytes)) && list_all is_idle_in ends)) (Some n) None) is.inputs
    ∙ ap (λ b. cond ((count == pages) && b) (Some n) None) (sym has)

pub other_links : (pages count : ℕ) (bytes : List ℕ) (node : NodeContents) (answer : Bool) → ReadsImage (node_of bytes) (Ok node) → length node.live.memory ≡ PAGE_BYTES * count → count ≡ pages
    → answer ≡ (list_all is_idle_out (ends_at out_end_at 4 (drop 44 bytes)) && list_all is_idle_in (ends_at in_end_at 4 (drop 108 bytes)))
    → answer ≡ false → Checks (fresh_node pages bytes) (Err FormatFault.BadImage)
other_links pages count bytes node answer read size same has not =
    bad_image (fresh_node pages bytes)
    (image_checked pages count bytes node answer read size has ∙ ap (λ b. cond ((count == pages) && b) (Some node.live) None) not
    ∙ ap (λ b. cond (b && false) (Some node.live) None) (eq-eqb count pages same))

pub fresh_image : (pages count : ℕ) (bytes : List ℕ) (node : NodeContents) (answer : Bool) → ReadsImage (node_of bytes) (Ok node) → length node.live.memory ≡ PAGE_BYTES * count → count ≡ pages
    → answer ≡ (list_all is_idle_out (ends_at out_end_at 4 (drop 44 bytes)) && list_all is_idle_in (ends_at in_end_at 4 (drop 108 bytes)))
    → answer ≡ true → Checks (fresh_node pages bytes) (Ok tt)
fresh_image pages count bytes node answer read size same has so =
    good_image (fresh_node pages bytes) node.live
    (image_checked pages count bytes node answer read size has ∙ ap (λ b. cond ((count == pages) && b) (Some node.live) None) so
    ∙ ap (λ b. cond (b && true) (Some node.live) None) (eq-eqb count pages same))

-- a refusal of one image refuses them all
pub all_refused : {A B : Type 0} (o : Option A) (all : Option B) (fault : FormatFault) → Checks o (Err fault) → (is_some o ≡ false → is_some all ≡ false) → Checks all (Err fault)
all_refused (Some x) (Some y) FormatFault.Memory h none = tt
all_refused (Some x) None FormatFault.Memory h none = tt
all_refused None (Some y) FormatFault.Memory h none = tt
all_refused None None FormatFault.Memory h none = tt
all_refused (Some x) all FormatFault.BadImage h none = elim h [ ]
all_refused None (Some y) FormatFault.BadImage h none = absurd (true≢false (none refl))
all_refused None None FormatFault.BadImage h none = tt
all_refused (Some x) all FormatFault.AreaFull h none = elim h [ ]
all_refused None all FormatFault.AreaFull h none = elim h [ ]
all_refused (Some x) all FormatFault.DeviceFailed h none = elim h [ ]
all_refused None all FormatFault.DeviceFailed h none = elim h [ ]

-- one image more
nodes_some : {A B : Type 0} (o : Option A) (all : Option B) (f : A → B → B) → is_some (o >>= λ x. all >>= λ y. Some (f x y)) ≡ (is_some o && is_some all)
nodes_some None all f = refl
nodes_some (Some x) None f = refl
nodes_some (Some x) (Some y) f = refl

pub fresh_more : (pages : List ℕ) (images : List (List ℕ)) (i count : ℕ) (image : List ℕ) → i < length pages → i < length images → count ≡ get_or pages i count → image ≡ get_or images i image
    → is_some (fresh_nodes (drop i pages) (drop i images)) ≡ (is_some (fresh_node count image) && is_some (fresh_nodes (drop (i + 1) pages) (drop (i + 1) images)))
unfolding fresh_nodes
fresh_more pages images i count image lt lt_image c m =
    let rest_pages = drop (i + 1) pages in
    let rest = drop (i + 1) images in
    ap (λ xs. is_some (fresh_nodes xs (drop i images))) (drop_more pages i count lt)
    ∙ ap (λ xs. is_some (fresh_nodes (get_or pages i count ∷ rest_pages) xs)) (drop_more images i image lt_image)
    ∙ nodes_some (fresh_node (get_or pages i count) (get_or images i image)) (fresh_nodes rest_pages rest) (λ node nodes. node ∷ nodes)
    ∙ ap (λ n. is_some (fresh_node n (get_or images i image)) && is_some (fresh_nodes rest_pages rest)) (sym c)
    ∙ ap (λ xs. is_some (fresh_node count xs) && is_some (fresh_nodes rest_pages rest)) (sym m)

-- too many or too few
pub fresh_counts : (pages : List ℕ) (images : List (List ℕ)) → length pages ≢ length images → fresh_nodes pages images ≡ None
unfolding fresh_nodes
fresh_counts [] [] h = absurd (h refl)
fresh_counts [] (image ∷ images) h = refl
fresh_counts (count ∷ pages) [] h = refl
fresh_counts (count ∷ pages) (image ∷ images) h =
    none_behind (fresh_node count image) (fresh_nodes pages images) (fresh_counts pages images (λ same. h (omega arith)))
  where
    none_behind : {A : Type 0} (o : Option A) (all : Option (List A)) → all ≡ None → (o >>= λ x. all >>= λ xs. Some (x ∷ xs)) ≡ None
    none_behind None all is = refl
    none_behind (Some x) None is = refl
    none_behind (Some x) (Some xs) is = cc

-- none is left
pub fresh_none : (pages : List ℕ) (images : List (List ℕ)) (i : ℕ) → length pages ≤ i → length images ≤ i → is_some (fresh_nodes (drop i pages) (drop i images)) ≡ true
unfolding fresh_nodes
fresh_none pages images i le le_image =
    ap (λ xs. is_some (fresh_nodes xs (drop i images))) (drop_all i pages le) ∙ ap (λ xs. is_some (fresh_nodes [] xs)) (drop_all i images le_image)

-- an image that was accepted leaves it to the others
some_is : {A : Type 0} (o : Option A) → Checks o (Ok tt) → is_some o ≡ true
some_is (Some x) h = refl
some_is None h = elim h [ ]

pub image_passed : (pages : List ℕ) (images : List (List ℕ)) (i count : ℕ) (image : List ℕ) → i < length pages → i < length images → count ≡ get_or pages i count → image ≡ get_or images i image
    → Checks (fresh_node count image) (Ok tt)
    → is_some (fresh_nodes (drop (i + 1) pages) (drop (i + 1) images)) ≡ is_some (fresh_nodes (drop i pages) (drop i images))
image_passed pages images i count image lt lt_image c m h =
    sym (fresh_more pages images i count image lt lt_image c m ∙ ap (λ b. b && is_some (fresh_nodes (drop (i + 1) pages) (drop (i + 1) images))) (some_is (fresh_node count image) h))

pub image_refused : (pages : List ℕ) (images : List (List ℕ)) (i count : ℕ) (image : List ℕ) (fault : FormatFault) → i < length pages → i < length images → count ≡ get_or pages i count → image ≡ get_or images i image
    → is_some (fresh_nodes (drop i pages) (drop i images)) ≡ is_some (fresh_nodes pages images)
    → Checks (fresh_node count image) (Err fault) → Checks (fresh_nodes pages images) (Err fault)
image_refused pages images i count image fault lt lt_image c m goes h =
    all_refused (fresh_node count image) (fresh_nodes pages images) fault h
    (λ none. sym goes ∙ fresh_more pages images i count image lt lt_image c m ∙ ap (λ b. b && is_some (fresh_nodes (drop (i + 1) pages) (drop (i + 1) images))) none)

pub some_checks : {A : Type 0} (o : Option A) → is_some o ≡ true → Checks o (Ok tt)
some_checks (Some x) is = tt
some_checks None is = cc
