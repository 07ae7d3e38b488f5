-- Which pages stay shared after writes.
use Rattle.std.proofs.Common.{◌≡◌, ℕ, zero, suc, ◌+◌, ◌-◌, ◌*◌, ◌/◌, ◌<◌, ◌≤◌, Bool, true, false, not, ◌&&◌, ◌||◌, if◌then◌else◌, List, All, [], ◌∷◌, length, get_or, set, drop, refl, sym, ap, ◌∙◌, arith, ltb}
use Rattle.tp_mem.proofs.Lower.{ltb-true, and_parts, or_parts, drop-cons, list_any, PAGE_BYTES, word_offset, Kept, word_ranges, touches, shared_from, wanted_from, private_in, kept_behind, LacksFrames}
use Rattle.tp_mem.specs.Ranges.{are_inside}

-- the words that are written, as ranges
pub list_any-word_ranges : (p : ℕ × ℕ → Bool) (words : List (ℕ × ℕ)) → list_any p (word_ranges words) ≡ list_any (λ word. p (word_offset word.0, 4)) words
list_any-word_ranges p [] = refl
list_any-word_ranges p (word ∷ words) = ap (λ b. p (word_offset word.0, 4) || b) (list_any-word_ranges p words)

pub ruleset words_touch = (list_any-word_ranges)

-- the first n pages, from one on, as ranges leave them
abbrev pub parted_to : ℕ → ℕ → List Bool → List (ℕ × ℕ) → List Bool
parted_to page n [] ranges = []
parted_to page zero (is_shared ∷ pages) ranges = is_shared ∷ pages
parted_to page (suc n) (is_shared ∷ pages) ranges = (is_shared && not (list_any (touches page) ranges)) ∷ parted_to (page + 1) n pages ranges

pub parted_to-none : (page : ℕ) (pages : List Bool) (ranges : List (ℕ × ℕ)) → parted_to page 0 pages ranges ≡ pages
parted_to-none page [] ranges = refl
parted_to-none page (is_shared ∷ pages) ranges = refl

pub parted_to-all : (page n : ℕ) (pages : List Bool) (ranges : List (ℕ × ℕ)) → length pages ≤ n → parted_to page n pages ranges ≡ shared_from page pages ranges
parted_to-all page n [] ranges all = refl
parted_to-all page zero (is_shared ∷ pages) ranges all = absurd (omega arith)
parted_to-all page (suc n) (is_shared ∷ pages) ranges all = ap (λ ps. (is_shared && not (list_any (touches page) ranges)) ∷ ps) (parted_to-all (page + 1) n pages ranges (omega arith))

pub length-parted_to : (page n : ℕ) (pages : List Bool) (ranges : List (ℕ × ℕ)) → length (parted_to page n pages ranges) ≡ length pages
length-parted_to page n [] ranges = refl
length-parted_to page zero (is_shared ∷ pages) ranges = refl
length-parted_to page (suc n) (is_shared ∷ pages) ranges = ap suc (length-parted_to (page + 1) n pages ranges)

-- the next page is as it was
pub get_or-parted_to : (page n : ℕ) (pages : List Bool) (ranges : List (ℕ × ℕ)) → get_or (parted_to page n pages ranges) n false ≡ get_or pages n false
get_or-parted_to page n [] ranges = refl
get_or-parted_to page zero (is_shared ∷ pages) ranges = refl
get_or-parted_to page (suc n) (is_shared ∷ pages) ranges = get_or-parted_to (page + 1) n pages ranges

pub parted_to-next : (page n : ℕ) (pages : List Bool) (ranges : List (ℕ × ℕ)) → set (parted_to page n pages ranges) n (get_or pages n false && not (list_any (touches (page + n)) ranges)) ≡ parted_to page (n + 1) pages ranges
parted_to-next page n [] ranges = refl
parted_to-next page zero (is_shared ∷ pages) ranges =
    let here : page + 0 ≡ page = omega arith in
    ap (λ p. (is_shared && not (list_any (touches p) ranges)) ∷ pages) here ∙ ap (λ ps. (is_shared && not (list_any (touches page) ranges)) ∷ ps) (sym (parted_to-none (page + 1) pages ranges))
parted_to-next page (suc n) (is_shared ∷ pages) ranges =
    let here : page + suc n ≡ page + 1 + n = omega arith in
    let next : suc n + 1 ≡ suc (n + 1) = omega arith in
    ap (λ p. (is_shared && not (list_any (touches page) ranges)) ∷ set (parted_to (page + 1) n pages ranges) n (get_or pages n false && not (list_any (touches p) ranges))) here
    ∙ ap (λ ps. (is_shared && not (list_any (touches page) ranges)) ∷ ps) (parted_to-next (page + 1) n pages ranges)
    ∙ ap (λ k. parted_to page k (is_shared ∷ pages) ranges) (sym next)

-- one if a shared page is touched
abbrev pub want : Bool → Bool → ℕ
want is_shared is_touched = if is_shared && is_touched then 1 else 0

private_want : (is_shared is_touched : Bool) → (if is_shared && not is_touched then 0 else 1) ≡ (if is_shared then 0 else 1) + want is_shared is_touched
private_want true true = refl
private_want true false = refl
private_want false is_touched = refl

-- the sum of the pages that aren't shared and of those that still need a frame stays
pub private_in-parted_to : (page n : ℕ) (pages : List Bool) (ranges : List (ℕ × ℕ)) → private_in (parted_to page n pages ranges) + wanted_from (page + n) (drop n pages) ranges ≡ private_in pages + wanted_from page pages ranges
private_in-parted_to page zero [] ranges = refl
private_in-parted_to page (suc n) [] ranges = refl
private_in-parted_to page zero (is_shared ∷ pages) ranges =
    let here : page + 0 ≡ page = omega arith in ap (λ p. private_in (is_shared ∷ pages) + wanted_from p (is_shared ∷ pages) ranges) here
private_in-parted_to page (suc n) (is_shared ∷ pages) ranges =
    let here : page + suc n ≡ page + 1 + n = omega arith in
    let same = ap (λ p. wanted_from p (drop n pages) ranges) here in
    omega (arith, same, private_in-parted_to (page + 1) n pages ranges, private_want is_shared (list_any (touches page) ranges))

pub wanted_from-next : (page n : ℕ) (pages : List Bool) (ranges : List (ℕ × ℕ)) → n < length pages
    → wanted_from (page + n) (drop n pages) ranges ≡ want (get_or pages n false) (list_any (touches (page + n)) ranges) + wanted_from (page + n + 1) (drop (n + 1) pages) ranges
wanted_from-next page n pages ranges within =
    let next : n + 1 ≡ suc n = omega arith in
    ap (λ ps. wanted_from (page + n) ps ranges) (drop-cons pages n false within)
    ∙ ap (λ k. want (get_or pages n false) (list_any (touches (page + n)) ranges) + wanted_from (page + n + 1) (drop k pages) ranges) (sym next)

-- ranges that have bytes in equal pages
pub shared_from-same : (page : ℕ) (pages : List Bool) (ranges others : List (ℕ × ℕ)) → ((p : ℕ) → list_any (touches p) ranges ≡ list_any (touches p) others) → shared_from page pages ranges ≡ shared_from page pages others
shared_from-same page [] ranges others same = refl
shared_from-same page (is_shared ∷ pages) ranges others same =
    ap (λ b. (is_shared && not b) ∷ shared_from (page + 1) pages ranges) (same page) ∙ ap (λ ps. (is_shared && not (list_any (touches page) others)) ∷ ps) (shared_from-same (page + 1) pages ranges others same)

pub wanted_from-same : (page : ℕ) (pages : List Bool) (ranges others : List (ℕ × ℕ)) → ((p : ℕ) → list_any (touches p) ranges ≡ list_any (touches p) others) → wanted_from page pages ranges ≡ wanted_from page pages others
wanted_from-same page [] ranges others same = refl
wanted_from-same page (is_shared ∷ pages) ranges others same =
    ap (λ b. want is_shared b + wanted_from (page + 1) pages ranges) (same page) ∙ ap (λ n. want is_shared (list_any (touches page) others) + n) (wanted_from-same (page + 1) pages ranges others same)

and_not : (is_shared is_touched : Bool) → (is_shared ≡ true → is_touched ≡ false) → (is_shared && not is_touched) ≡ is_shared
and_not false is_touched none = refl
and_not true is_touched none = ap not (none refl)

-- if no shared page is touched, all stay as they are
pub shared_from-untouched : (page : ℕ) (pages : List Bool) (ranges : List (ℕ × ℕ)) → ((i : ℕ) → get_or pages i false ≡ true → list_any (touches (page + i)) ranges ≡ false) → shared_from page pages ranges ≡ pages
shared_from-untouched page [] ranges none = refl
shared_from-untouched page (is_shared ∷ pages) ranges none =
    let here : page + 0 ≡ page = omega arith in
    ap (λ b. b ∷ shared_from (page + 1) pages ranges) (and_not is_shared (list_any (touches page) ranges) (λ shared. ap (λ p. list_any (touches p) ranges) (sym here) ∙ none 0 shared))
    ∙ ap (λ ps. is_shared ∷ ps) (shared_from-untouched (page + 1) pages ranges (λ i shared. let place : page + 1 + i ≡ page + suc i = omega arith in ap (λ p. list_any (touches p) ranges) place ∙ none (suc i) shared))

pub shared_from-nothing : (page : ℕ) (pages : List Bool) (ranges : List (ℕ × ℕ)) → ((p : ℕ) → list_any (touches p) ranges ≡ false) → shared_from page pages ranges ≡ pages
shared_from-nothing page pages ranges none = shared_from-untouched page pages ranges (λ i shared. none (page + i))

-- what is kept after other ranges that have bytes in equal pages
pub kept_behind-same : (kept : Kept) (ranges others : List (ℕ × ℕ)) → ((p : ℕ) → list_any (touches p) ranges ≡ list_any (touches p) others)
    → record kept { shared = shared_from 0 kept.shared ranges } ≡ kept_behind kept others
kept_behind-same kept ranges [] same = ap (λ pages. record kept { shared = pages }) (shared_from-nothing 0 kept.shared ranges same)
kept_behind-same kept ranges (other ∷ others) same = ap (λ pages. record kept { shared = pages }) (shared_from-same 0 kept.shared ranges (other ∷ others) same)

pub LacksFrames-same : (kept : Kept) (ranges others : List (ℕ × ℕ)) → ((p : ℕ) → list_any (touches p) ranges ≡ list_any (touches p) others) → LacksFrames kept ranges → LacksFrames kept others
LacksFrames-same kept ranges others same lacks = record { frozen = lacks.frozen; outnumbered = omega (arith, lacks.outnumbered, wanted_from-same 0 kept.shared ranges others same) }

-- ---- ranges in shared pages
pub not_true : (b : Bool) → ¬ (b ≡ true) → b ≡ false
not_true true not_so = absurd (not_so refl)
not_true false not_so = refl

-- a range has bytes in a page
pub record Meets (page at len : ℕ) : Type 0 where
  pub some : 0 < len
  pub begins : at < PAGE_BYTES * page + PAGE_BYTES
  pub ends : PAGE_BYTES * page < at + len

pub touches-meets : (page at len : ℕ) → touches page (at, len) ≡ true → Meets page at len
touches-meets page at len touched =
    let outer = and_parts (ltb 0 len && ltb at (PAGE_BYTES * page + PAGE_BYTES)) (ltb (PAGE_BYTES * page) (at + len)) touched in
    let inner = and_parts (ltb 0 len) (ltb at (PAGE_BYTES * page + PAGE_BYTES)) outer.0 in
    record { some = ltb-true 0 len inner.0; begins = ltb-true at (PAGE_BYTES * page + PAGE_BYTES) inner.1; ends = ltb-true (PAGE_BYTES * page) (at + len) outer.1 }

-- pages that a loop over a range found not to be shared
pub range_untouched : (pages : List Bool) (at len page : ℕ) → ((p : ℕ) → at / PAGE_BYTES ≤ p → p < (at + len + (PAGE_BYTES - 1)) / PAGE_BYTES → get_or pages p false ≡ false) → get_or pages page false ≡ true → touches page (at, len) ≡ false
range_untouched pages at len page none shared = not_true (touches page (at, len)) (λ touched.
    let meets = touches-meets page at len touched in
    let not_shared = none page (omega (arith, meets.begins)) (omega (arith, meets.ends)) in absurd (cc))

word_untouched : (pages : List Bool) (address page : ℕ) → get_or pages (word_offset address / PAGE_BYTES) false ≡ false → get_or pages page false ≡ true → touches page (word_offset address, 4) ≡ false
word_untouched pages address page none shared = not_true (touches page (word_offset address, 4)) (λ touched.
    let meets = touches-meets page (word_offset address) 4 touched in
    let here : word_offset address / PAGE_BYTES ≡ page = omega (arith, meets.begins, meets.ends) in
    let not_shared : get_or pages page false ≡ false = ap (λ p. get_or pages p false) (sym here) ∙ none in absurd (cc))

pub words_untouched : (pages : List Bool) (words : List (ℕ × ℕ)) (page : ℕ) → list_any (λ word. get_or pages (word_offset word.0 / PAGE_BYTES) false) words ≡ false → get_or pages page false ≡ true → list_any (touches page) (word_ranges words) ≡ false
words_untouched pages [] page none shared = refl
words_untouched pages (word ∷ words) page none shared =
    let parts = or_parts (get_or pages (word_offset word.0 / PAGE_BYTES) false) (list_any (λ w. get_or pages (word_offset w.0 / PAGE_BYTES) false) words) none in
    ap (λ b. b || list_any (touches page) (word_ranges words)) (word_untouched pages word.0 page parts.0 shared) ∙ words_untouched pages words page parts.1 shared

pub or_false : (a b c : Bool) → a ≡ false → b ≡ false → c ≡ false → (a || (b || c)) ≡ false
or_false a b c none_a none_b none_c = ap (λ x. x || (b || c)) none_a ∙ ap (λ x. x || c) none_b ∙ none_c

-- ---- from the first page on
pub zero_plus : (n : ℕ) → 0 + n ≡ n
zero_plus n = omega arith

pub parted-next : (n : ℕ) (pages : List Bool) (ranges : List (ℕ × ℕ))
    → set (parted_to 0 n pages ranges) n (get_or (parted_to 0 n pages ranges) n false && not (list_any (touches n) ranges)) ≡ parted_to 0 (n + 1) pages ranges
parted-next n pages ranges =
    ap (λ b. set (parted_to 0 n pages ranges) n (b && not (list_any (touches n) ranges))) (get_or-parted_to 0 n pages ranges)
    ∙ ap (λ k. set (parted_to 0 n pages ranges) n (get_or pages n false && not (list_any (touches k) ranges))) (sym (zero_plus n)) ∙ parted_to-next 0 n pages ranges

pub parted-room : (n : ℕ) (pages : List Bool) (ranges : List (ℕ × ℕ)) → n < length pages
    → private_in (parted_to 0 n pages ranges) + want (get_or (parted_to 0 n pages ranges) n false) (list_any (touches n) ranges) ≤ private_in pages + wanted_from 0 pages ranges
parted-room n pages ranges within =
    let here = ap (λ b. want b (list_any (touches n) ranges)) (get_or-parted_to 0 n pages ranges) ∙ ap (λ k. want (get_or pages n false) (list_any (touches k) ranges)) (sym (zero_plus n)) in
    omega (arith, here, private_in-parted_to 0 n pages ranges, wanted_from-next 0 n pages ranges within)

and_false : (b : Bool) → (b && false) ≡ false
and_false true = refl
and_false false = refl

want_none : (is_shared is_touched : Bool) → (is_shared ≡ true → is_touched ≡ false) → want is_shared is_touched ≡ 0
want_none false is_touched none = refl
want_none true is_touched none = ap (λ b. want true b) (none refl)

pub wanted_from-untouched : (page : ℕ) (pages : List Bool) (ranges : List (ℕ × ℕ)) → ((i : ℕ) → get_or pages i false ≡ true → list_any (touches (page + i)) ranges ≡ false) → wanted_from page pages ranges ≡ 0
wanted_from-untouched page [] ranges none = refl
wanted_from-untouched page (is_shared ∷ pages) ranges none =
    let here : page + 0 ≡ page = omega arith in
    let rest = wanted_from-untouched (page + 1) pages ranges (λ i shared. let place : page + 1 + i ≡ page + suc i = omega arith in ap (λ p. list_any (touches p) ranges) place ∙ none (suc i) shared) in
    let not_here = want_none is_shared (list_any (touches page) ranges) (λ shared. ap (λ p. list_any (touches p) ranges) (sym here) ∙ none 0 shared) in
    omega (arith, rest, not_here)

pub or_none : (b : Bool) → (b || false) ≡ b
or_none true = refl
or_none false = refl

-- a word of those that are inside
pub inside_at : (len : ℕ) (words : List (ℕ × ℕ)) (k : ℕ) → are_inside len words ≡ true → k < length words → word_offset (get_or words k (0, 0)).0 < len
inside_at len [] k inside within = absurd (omega arith)
inside_at len (word ∷ words) zero inside within = ltb-true (word_offset word.0) len (and_parts (ltb (word_offset word.0) len) (are_inside len words) inside).0
inside_at len (word ∷ words) (suc k) inside within = inside_at len words k (and_parts (ltb (word_offset word.0) len) (are_inside len words) inside).1 (omega arith)

-- two words, and four
pub two_untouched : (pages : List Bool) (words : List (ℕ × ℕ)) → length words ≡ 2
    → (get_or pages (word_offset (get_or words 0 (0, 0)).0 / PAGE_BYTES) false || get_or pages (word_offset (get_or words 1 (0, 0)).0 / PAGE_BYTES) false) ≡ false
    → list_any (λ (word : ℕ × ℕ). get_or pages (word_offset word.0 / PAGE_BYTES) false) words ≡ false
two_untouched pages [] long none = absurd (omega arith)
two_untouched pages (one ∷ []) long none = absurd (omega arith)
two_untouched pages (one ∷ two ∷ []) long none =
    ap (λ b. get_or pages (word_offset one.0 / PAGE_BYTES) false || b) (or_none (get_or pages (word_offset two.0 / PAGE_BYTES) false)) ∙ none
two_untouched pages (one ∷ two ∷ three ∷ words) long none = absurd (omega arith)

pub four_untouched : (pages : List Bool) (words : List (ℕ × ℕ)) → length words ≡ 4
    → All (λ (address : ℕ). get_or pages (word_offset address / PAGE_BYTES) false ≡ false) ((get_or words 0 (0, 0)).0 ∷ (get_or words 1 (0, 0)).0 ∷ (get_or words 2 (0, 0)).0 ∷ (get_or words 3 (0, 0)).0 ∷ [])
    → list_any (λ (word : ℕ × ℕ). get_or pages (word_offset word.0 / PAGE_BYTES) false) words ≡ false
four_untouched pages [] long none = absurd (omega arith)
four_untouched pages (one ∷ []) long none = absurd (omega arith)
four_untouched pages (one ∷ two ∷ []) long none = absurd (omega arith)
four_untouched pages (one ∷ two ∷ three ∷ []) long none = absurd (omega arith)
four_untouched pages (one ∷ two ∷ three ∷ four ∷ []) long none =
    let at_one : get_or pages (word_offset one.0 / PAGE_BYTES) false ≡ false = none 0 0 (omega arith) in
    let at_two : get_or pages (word_offset two.0 / PAGE_BYTES) false ≡ false = none 1 0 (omega arith) in
    let at_three : get_or pages (word_offset three.0 / PAGE_BYTES) false ≡ false = none 2 0 (omega arith) in
    let at_four : get_or pages (word_offset four.0 / PAGE_BYTES) false ≡ false = none 3 0 (omega arith) in
    rw (at_one, at_two, at_three, at_four) refl
four_untouched pages (one ∷ two ∷ three ∷ four ∷ five ∷ words) long none = absurd (omega arith)

-- a page that stays shared
and_true : (a b : Bool) → (a && not b) ≡ true → b ≡ false
and_true true true so = absurd (cc)
and_true true false so = refl
and_true false b so = absurd (cc)

pub shared_from-true : (page : ℕ) (pages : List Bool) (ranges : List (ℕ × ℕ)) (i : ℕ) → get_or (shared_from page pages ranges) i false ≡ true → list_any (touches (page + i)) ranges ≡ false
shared_from-true page [] ranges i shared = absurd (cc)
shared_from-true page (is_shared ∷ pages) ranges zero shared =
    let here : page + 0 ≡ page = omega arith in ap (λ p. list_any (touches p) ranges) here ∙ and_true is_shared (list_any (touches page) ranges) shared
shared_from-true page (is_shared ∷ pages) ranges (suc i) shared =
    let place : page + suc i ≡ page + 1 + i = omega arith in ap (λ p. list_any (touches p) ranges) place ∙ shared_from-true (page + 1) pages ranges i shared

-- words in one page have bytes in no other
pub words_alone : (words : List (ℕ × ℕ)) (page other : ℕ) → All (λ word. word_offset word.0 / PAGE_BYTES ≡ page) words → ¬ (other ≡ page) → list_any (touches other) (word_ranges words) ≡ false
words_alone [] page other all differs = refl
words_alone (word ∷ words) page other all differs =
    let here : word_offset word.0 / PAGE_BYTES ≡ page = all 0 word (omega arith) in
    let untouched = not_true (touches other (word_offset word.0, 4)) (λ touched. let meets = touches-meets other (word_offset word.0) 4 touched in differs (omega (arith, here, meets.begins, meets.ends))) in
    ap (λ b. b || list_any (touches other) (word_ranges words)) untouched ∙ words_alone words page other (λ k d within. all (suc k) d (omega (arith, within))) differs

-- ---- if one page alone is touched
and_touched : (is_shared is_touched : Bool) → is_touched ≡ true → (is_shared && not is_touched) ≡ false
and_touched is_shared is_touched touched = ap (λ b. is_shared && not b) touched ∙ and_false is_shared

first_differs : (i : ℕ) → ¬ (0 ≡ suc i)
first_differs i same = absurd (omega (arith, same))

module _ (ranges : List (ℕ × ℕ)) where
  -- among the pages from `page` on, at most the one `i` after it has bytes of the ranges
  abbrev pub Alone : ℕ → ℕ → Type 0
  Alone page i = (j : ℕ) → ¬ (j ≡ i) → list_any (touches (page + j)) ranges ≡ false

  at_next : (page j : ℕ) → list_any (touches (page + suc j)) ranges ≡ false → list_any (touches (page + 1 + j)) ranges ≡ false
  at_next page j none = let place : page + 1 + j ≡ page + suc j = omega arith in ap (λ p. list_any (touches p) ranges) place ∙ none

  at_first : (page : ℕ) → list_any (touches page) ranges ≡ list_any (touches (page + 0)) ranges
  at_first page = let here : page + 0 ≡ page = omega arith in ap (λ p. list_any (touches p) ranges) (sym here)

  next_alone : (page i : ℕ) → Alone page (suc i) → Alone (page + 1) i
  next_alone page i alone j differs = at_next page j (alone (suc j) (λ same. differs (omega (arith, same))))

  touched_next : (page i : ℕ) → list_any (touches (page + suc i)) ranges ≡ true → list_any (touches (page + 1 + i)) ranges ≡ true
  touched_next page i touched = let place : page + 1 + i ≡ page + suc i = omega arith in ap (λ p. list_any (touches p) ranges) place ∙ touched

  behind_first : (page : ℕ) → Alone page 0 → (pages : List Bool) (i : ℕ) → get_or pages i false ≡ true → list_any (touches (page + 1 + i)) ranges ≡ false
  behind_first page alone pages i shared = at_next page i (alone (suc i) (λ same. absurd (omega (arith, same))))

  -- that page is shared no more
  shared_from-one : (page : ℕ) (pages : List Bool) (i : ℕ) → list_any (touches (page + i)) ranges ≡ true → Alone page i → shared_from page pages ranges ≡ set pages i false
  shared_from-one page [] i touched alone = refl
  shared_from-one page (is_shared ∷ pages) zero touched alone =
      ap (λ b. b ∷ shared_from (page + 1) pages ranges) (and_touched is_shared (list_any (touches page) ranges) (at_first page ∙ touched))
      ∙ ap (λ ps. false ∷ ps) (shared_from-untouched (page + 1) pages ranges (behind_first page alone pages))
  shared_from-one page (is_shared ∷ pages) (suc i) touched alone =
      ap (λ b. b ∷ shared_from (page + 1) pages ranges) (and_not is_shared (list_any (touches page) ranges) (λ shared. at_first page ∙ alone 0 (first_differs i)))
      ∙ ap (λ ps. is_shared ∷ ps) (shared_from-one (page + 1) pages i (touched_next page i touched) (next_alone page i alone))

  -- it needs a frame if it is shared
  wanted_from-one : (page : ℕ) (pages : List Bool) (i : ℕ) → list_any (touches (page + i)) ranges ≡ true → Alone page i → wanted_from page pages ranges ≡ (if get_or pages i false then 1 else 0)
  wanted_from-one page [] i touched alone = refl
  wanted_from-one page (true ∷ pages) zero touched alone =
      let here : want true (list_any (touches page) ranges) ≡ 1 = ap (want true) (at_first page ∙ touched) in
      omega (arith, here, wanted_from-untouched (page + 1) pages ranges (behind_first page alone pages))
  wanted_from-one page (false ∷ pages) zero touched alone = omega (arith, wanted_from-untouched (page + 1) pages ranges (behind_first page alone pages))
  wanted_from-one page (is_shared ∷ pages) (suc i) touched alone =
      let here = want_none is_shared (list_any (touches page) ranges) (λ shared. at_first page ∙ alone 0 (first_differs i)) in
      omega (arith, here, wanted_from-one (page + 1) pages i (touched_next page i touched) (next_alone page i alone))

  -- from the first page on
  from_first : (i : ℕ) → list_any (touches i) ranges ≡ true → list_any (touches (0 + i)) ranges ≡ true
  from_first i touched = ap (λ p. list_any (touches p) ranges) (zero_plus i) ∙ touched

  alone_first : (i : ℕ) → ((j : ℕ) → ¬ (j ≡ i) → list_any (touches j) ranges ≡ false) → Alone 0 i
  alone_first i alone j differs = ap (λ p. list_any (touches p) ranges) (zero_plus j) ∙ alone j differs

  pub shared_from-page : (pages : List Bool) (i : ℕ) → list_any (touches i) ranges ≡ true → ((j : ℕ) → ¬ (j ≡ i) → list_any (touches j) ranges ≡ false) → shared_from 0 pages ranges ≡ set pages i false
  shared_from-page pages i touched alone = shared_from-one 0 pages i (from_first i touched) (alone_first i alone)

  pub wanted_from-page : (pages : List Bool) (i : ℕ) → list_any (touches i) ranges ≡ true → ((j : ℕ) → ¬ (j ≡ i) → list_any (touches j) ranges ≡ false) → wanted_from 0 pages ranges ≡ (if get_or pages i false then 1 else 0)
  wanted_from-page pages i touched alone = wanted_from-one 0 pages i (from_first i touched) (alone_first i alone)
