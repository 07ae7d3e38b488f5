-- What a write leaves of a memory that copied the pages before.
use Rattle.std.proofs.Common.{◌≡◌, ℕ, ◌+◌, ◌-◌, ◌*◌, ◌<◌, Bool, true, false, List, ◌++◌, length, Option, Some, None, Ok, Err, get_or, take, drop, refl, sym, ap, ◌∙◌, arith, IsSome}
use Rattle.std.specs.Prelude.{is_some, IfSome}
use Rattle.tp_mem.proofs.Lower.{take-append_seam, list_any, PAGE_BYTES, Frames, touches, shared_from, wanted_from, private_in, kept_behind, LacksFrames}
use Rattle.tp_mem.specs.Contents.{page_of}
use Rattle.tp_mem.specs.Copies.{Paged, kept_of, frozen_bytes, frozen_of, spare_in, IsPaged}
use Rattle.tp_mem.specs.Stored.{IsStored}
use Rattle.tp_mem.specs.declared.fault.WriteFault.TheVariants.{NoFrame}
use Rattle.tp_mem.proofs.Changes.{KeepsPages}
use Rattle.tp_mem.proofs.Copies.{frozen_from-written, page_of-frozen_from, length-frozen_from}
use Rattle.tp_mem.proofs.Paged.{paged}
use Rattle.tp_mem.proofs.Touches.{shared_from-true, kept_behind-same, LacksFrames-same, zero_plus}

-- a list that is written back whole
pub items_again : {A : Type 0} (items new : List A) (n : ℕ) → length new ≡ n → take n (new ++ drop (length new) items) ≡ new
items_again items new n long = ap (λ k. take k (new ++ drop (length new) items)) (sym long) ∙ take-append_seam new (drop (length new) items)

module _ (live : List ℕ) (shared : List Bool) (copies : List (Option ℕ)) (frames : Frames) where
  frozen_of-written : (is_frozen : Bool) (after : List ℕ) (pages : List Bool) (ranges others : List (ℕ × ℕ)) → IsPaged live shared copies frames is_frozen → shared ≡ shared_from 0 pages ranges
      → ((p : ℕ) → list_any (touches p) ranges ≡ list_any (touches p) others) → KeepsPages others live after → frozen_of is_frozen after copies frames ≡ frozen_of is_frozen live copies frames
  frozen_of-written false after pages ranges others paged behind same keeps = refl
  frozen_of-written true after pages ranges others paged behind same keeps =
      ap Some (frozen_from-written 0 live after copies frames (λ i is_shared.
      let here = ap (λ ps. get_or ps i false) (sym behind ∙ paged.flags) ∙ is_shared in
      keeps.page (0 + i) (sym (same (0 + i)) ∙ shared_from-true 0 pages ranges i here)))

  -- the pages that are written aren't shared any more, and nothing else that is kept changes
  pub kept_written : (is_frozen : Bool) (after : List ℕ) (old between : Paged) (ranges others : List (ℕ × ℕ)) → IsPaged live shared copies frames is_frozen
      → paged live (frozen_of is_frozen live copies frames) shared (spare_in copies frames) ≡ between → between ≡ record old { shared = shared_from 0 old.shared ranges }
      → ((p : ℕ) → list_any (touches p) ranges ≡ list_any (touches p) others) → KeepsPages others live after
      → kept_of (paged after (frozen_of is_frozen after copies frames) shared (spare_in copies frames)) ≡ kept_behind (kept_of old) others
  kept_written is_frozen after old between ranges others paged_is view separated same keeps =
      let whole = view ∙ separated in
      ap (λ f. kept_of (paged after f shared (spare_in copies frames))) (frozen_of-written is_frozen after old.shared ranges others paged_is (ap (λ (m : Paged). m.shared) whole) same keeps)
      ∙ ap kept_of whole ∙ kept_behind-same (kept_of old) ranges others same

  -- if no page is shared, the live bytes may be any
  pub kept_bare : (is_frozen : Bool) (after : List ℕ) → IsPaged live shared copies frames is_frozen → ((page : ℕ) → get_or shared page false ≡ false)
      → kept_of (paged after (frozen_of is_frozen after copies frames) shared (spare_in copies frames)) ≡ kept_of (paged live (frozen_of is_frozen live copies frames) shared (spare_in copies frames))
  kept_bare false after paged_is none = refl
  kept_bare true after paged_is none =
      ap (λ f. kept_of (paged live (Some f) shared (spare_in copies frames))) (frozen_from-written 0 live after copies frames (λ i is_shared.
      absurd (let no = sym (none i) ∙ ap (λ ps. get_or ps i false) paged_is.flags ∙ is_shared in cc)))

  -- the frozen bytes, page by page
  pub frozen_page_is : (is_frozen : Bool) (page : ℕ) → IsPaged live shared copies frames is_frozen → page < length copies → IfSome (frozen_of is_frozen live copies frames) (λ kept. page_of kept page ≡ frozen_bytes page live (get_or copies page None) frames)
  frozen_page_is false page paged within = tt
  frozen_page_is true page paged within =
      page_of-frozen_from 0 live copies frames page within (omega (arith, paged.whole)) paged.own ∙ ap (λ p. frozen_bytes p live (get_or copies page None) frames) (zero_plus page)

  pub length-frozen_of : (is_frozen : Bool) → IsPaged live shared copies frames is_frozen → IfSome (frozen_of is_frozen live copies frames) (λ kept. length kept ≡ PAGE_BYTES * length copies)
  length-frozen_of false paged = tt
  length-frozen_of true paged = length-frozen_from 0 live copies frames (omega (arith, paged.whole)) paged.own

pub lacks : (old : Paged) (ranges others : List (ℕ × ℕ)) → IsSome old.frozen → old.spare - private_in old.shared < wanted_from 0 old.shared ranges
    → ((p : ℕ) → list_any (touches p) ranges ≡ list_any (touches p) others) → LacksFrames (kept_of old) others
lacks old ranges others frozen few same = LacksFrames-same (kept_of old) ranges others same (record { frozen = frozen; outnumbered = few })

-- what a write that failed, or was done, is
pub refused : (written : Option (List ℕ)) (before now : List ℕ) → is_some written ≡ true → now ≡ before → IsStored written before (Err NoFrame) now
refused None before now some same = absurd (cc)
refused (Some after) before now some same = same

pub done : (written : Option (List ℕ)) (before now : List ℕ) → written ≡ Some now → IsStored written before (Ok tt) now
done None before now is = absurd (cc)
done (Some after) before now is = let e : after ≡ now = cc in sym e

pub IfSome-map : {A : Type 0} (o : Option A) (P Q : A → Type 0) → ((x : A) → P x → Q x) → IfSome o P → IfSome o Q
IfSome-map None P Q step so = tt
IfSome-map (Some x) P Q step so = step x so
