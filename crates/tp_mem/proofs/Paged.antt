-- What is true of every memory that copies pages before it writes stays true.
use Rattle.std.proofs.Common.{◌≡◌, ℕ, zero, suc, ◌+◌, ◌*◌, ◌<◌, ◌≤◌, Bool, true, false, cond, List, [], ◌∷◌, length, Option, Some, None, get_or, set, replicate, refl, sym, ap, subst, ◌∙◌, arith, IsSome, IsNone}
use Rattle.tp_mem.proofs.Lower.{length-set, length-replicate, MAX_PAGES, PAGE_BYTES, Frames, frame, held_owners, owners_of, free_in, private_in}
use Rattle.tp_mem.proofs.Frames.{vacancy, free_in-set}
use Rattle.tp_mem.specs.Contents.{page_of}
use Rattle.tp_mem.specs.Copies.{Paged, frozen_of, spare_in, shared_of, copied_in, AreCopies, IsPaged}
use Rattle.tp_mem.proofs.Copies.{copy_of, AreCopies-with, copied_in-with, shared_of-with, shared_of-thawed, private_in-shared_of, length-shared_of, shared_at, frozen_from-with}

abbrev pub paged : List ℕ → Option (List ℕ) → List Bool → ℕ → Paged
paged live frozen shared spare = record { live = live; frozen = frozen; shared = shared; spare = spare }

-- an entry that is written twice
pub set-twice : {A : Type 0} (xs : List A) (i : ℕ) (x y : A) → set (set xs i x) i y ≡ set xs i y
set-twice [] i x y = refl
set-twice (here ∷ xs) zero x y = refl
set-twice (here ∷ xs) (suc i) x y = ap (λ ys. here ∷ ys) (set-twice xs i x y)

-- what contracts see, part by part
pub paged_same : (live : List ℕ) (frozen others : Option (List ℕ)) (shared pages : List Bool) (spare frames : ℕ) → frozen ≡ others → shared ≡ pages → spare ≡ frames
    → paged live frozen shared spare ≡ paged live others pages frames
paged_same live frozen others shared pages spare frames a b c = ap (λ x. paged live x shared spare) a ∙ ap (λ x. paged live others x spare) b ∙ ap (λ x. paged live others pages x) c

pub with_shared : (memory : Paged) (pages : List Bool) → pages ≡ memory.shared → memory ≡ record memory { shared = pages }
with_shared memory pages same = ap (λ ps. record memory { shared = ps }) (sym same)

pub frozen_is : (is_frozen : Bool) (bytes : List ℕ) → IsSome (cond is_frozen (Some bytes) None) → is_frozen ≡ true
frozen_is true bytes some = refl
frozen_is false bytes some = absurd (let no : false ≡ true = some in cc)

pub not_frozen : (is_frozen : Bool) (bytes : List ℕ) → IsNone (cond is_frozen (Some bytes) None) → is_frozen ≡ false
not_frozen true bytes none = absurd (let no : true ≡ false = none in cc)
not_frozen false bytes none = refl

module _ (live : List ℕ) (shared : List Bool) (copies : List (Option ℕ)) (frames : Frames) (is_frozen : Bool) (paged : IsPaged live shared copies frames is_frozen) where
  pub few_flags : length shared ≤ MAX_PAGES
  few_flags = omega (arith, ap length paged.flags, length-shared_of is_frozen copies, paged.few)

  -- a page that is shared
  pub at_page : (page : ℕ) → get_or shared page false ≡ true → (is_frozen ≡ true) × (get_or copies page None ≡ None) × (page < length copies)
  at_page page is_shared = shared_at is_frozen copies page (ap (λ pages. get_or pages page false) (sym paged.flags) ∙ is_shared)

  pub page_inside : (page : ℕ) → get_or shared page false ≡ true → PAGE_BYTES * page + PAGE_BYTES ≤ length live
  page_inside page is_shared = omega (arith, (at_page page is_shared).2, paged.whole)

  -- while memory is frozen, the pages that aren't shared have a copy
  pub private_is : is_frozen ≡ true → private_in shared ≡ copied_in copies
  private_is frozen = ap private_in (paged.flags ∙ ap (λ b. shared_of b copies) frozen) ∙ private_in-shared_of copies

  -- a frame is free if the pages that aren't shared are fewer than the frames
  pub room_is : (page : ℕ) → get_or shared page false ≡ true → private_in shared < spare_in copies frames → 0 < free_in frames
  room_is page is_shared room = omega (arith, private_is (at_page page is_shared).0)

  module _ (page : ℕ) (is_shared : get_or shared page false ≡ true) (id : ℕ) (within : id < length frames) (free : frame frames id ≡ None) (old bytes : List ℕ) (long : length bytes ≡ PAGE_BYTES) (same : bytes ≡ page_of live page)
      (taken filled : Frames) (takes : taken ≡ set frames id (copy_of old)) (fills : filled ≡ set taken id (copy_of bytes)) where
    after : filled ≡ set frames id (copy_of bytes)
    after = fills ∙ ap (λ fs. set fs id (copy_of bytes)) takes ∙ set-twice frames id (copy_of old) (copy_of bytes)

    nobody : owners_of frames id ≡ 0
    nobody = ap held_owners free

    here : (is_frozen ≡ true) × (get_or copies page None ≡ None) × (page < length copies)
    here = at_page page is_shared

    pub IsPaged-parted : IsPaged live (set shared page false) (set copies page (Some id)) filled is_frozen
    IsPaged-parted = record {
      whole = omega (arith, paged.whole, length-set copies page (Some id));
      few = omega (arith, paged.few, length-set copies page (Some id));
      flags = ap (λ pages. set pages page false) (paged.flags ∙ ap (λ b. shared_of b copies) here.0) ∙ sym (shared_of-with copies page id) ∙ ap (λ b. shared_of b (set copies page (Some id))) (sym here.0);
      own = subst (λ fs. AreCopies fs (set copies page (Some id))) (sym after) (AreCopies-with frames copies page id bytes within long nobody here.2 paged.own);
      thawed = λ thawed. absurd (let no = sym here.0 ∙ thawed in cc);
    }

    pub frozen_of-parted : frozen_of is_frozen live (set copies page (Some id)) filled ≡ frozen_of is_frozen live copies frames
    frozen_of-parted =
        ap (λ fs. frozen_of is_frozen live (set copies page (Some id)) fs) after
        ∙ ap (λ bs. cond is_frozen (Some bs) None) (frozen_from-with 0 live copies frames page id bytes within nobody paged.own here.1 (same ∙ ap (λ p. page_of live p) (let e : page ≡ 0 + page = omega arith in e)))

    pub spare_in-parted : spare_in (set copies page (Some id)) filled ≡ spare_in copies frames
    spare_in-parted =
        let vacant : vacancy (frame frames id) ≡ 1 = ap vacancy free in
        omega (arith, ap free_in after, free_in-set frames id (copy_of bytes) within, copied_in-with copies page id here.2 here.1)

-- a memory that is new
no_copies : (frames : Frames) (n : ℕ) → AreCopies frames (replicate n None)
no_copies frames zero = tt
no_copies frames (suc n) = no_copies frames n

none_copied : (n : ℕ) → copied_in (replicate n None) ≡ 0
none_copied zero = refl
none_copied (suc n) = none_copied n

all_free : (n : ℕ) → free_in (replicate n None) ≡ n
all_free zero = refl
all_free (suc n) = omega (arith, all_free n)

pub IsPaged-fresh : (live : List ℕ) (pages : ℕ) (frames : Frames) → length live ≡ PAGE_BYTES * pages → pages ≤ MAX_PAGES → IsPaged live (replicate pages false) (replicate pages None) frames false
IsPaged-fresh live pages frames whole few = record {
  whole = omega (arith, length-replicate {A = Option ℕ} pages None);
  few = omega (arith, length-replicate {A = Option ℕ} pages None);
  flags = sym (shared_of-thawed (replicate pages None) ∙ ap (λ n. replicate n false) (length-replicate pages None));
  own = no_copies frames pages;
  thawed = λ _. none_copied pages;
}

pub spare_in-fresh : (pages spare : ℕ) → spare_in (replicate pages None) (replicate spare None) ≡ spare
spare_in-fresh pages spare = omega (arith, none_copied pages, all_free spare)
