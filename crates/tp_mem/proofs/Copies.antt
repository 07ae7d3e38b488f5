-- Pages of the frozen bytes, and the frames that hold copies.
use Rattle.std.proofs.Common.{◌≡◌, ℕ, zero, suc, ◌+◌, ◌-◌, ◌*◌, ◌<◌, ◌≤◌, Bool, true, false, List, [], ◌∷◌, ◌++◌, length, Option, Some, None, get_or, set, take, drop, replicate, refl, sym, ap, subst, ◌∙◌, arith}
use Rattle.tp_mem.proofs.Lower.{ForSome, get_or-set_same, get_or-set_other, length-append, length-take-le, length-drop, take-append-drop, drop-drop, take-append_seam, PAGE_BYTES, HeldFrame, Frames, frame, held_owners, held_bytes, owners_of, bytes_of, free_in, private_in}
use Rattle.tp_mem.proofs.Frames.{vacancy, free_in-set}
use Rattle.tp_mem.specs.Contents.{page_of}
use Rattle.tp_mem.specs.Copies.{frozen_bytes, frozen_from, shared_of, copied_in, without_copy, IsElsewhere, AreCopies}

-- a frame with one owner, and another entry in its place
abbrev pub copy_of : List ℕ → Option HeldFrame
copy_of bytes = Some (record { owners = 1; bytes = bytes })

-- ---- frames elsewhere
IsElsewhere-at : (id : ℕ) (copies : List (Option ℕ)) (i other : ℕ) → IsElsewhere id copies → get_or copies i None ≡ Some other → ¬ (id ≡ other)
IsElsewhere-at id [] i other apart at = absurd (cc)
IsElsewhere-at id (None ∷ copies) zero other apart at = absurd (cc)
IsElsewhere-at id (Some here ∷ copies) zero other apart at = λ same. apart.0 (let e : here ≡ other = cc in same ∙ sym e)
IsElsewhere-at id (None ∷ copies) (suc i) other apart at = IsElsewhere-at id copies i other apart at
IsElsewhere-at id (Some here ∷ copies) (suc i) other apart at = IsElsewhere-at id copies i other apart.1 at

IsElsewhere-without : (id : ℕ) (copies : List (Option ℕ)) (i : ℕ) → IsElsewhere id copies → IsElsewhere id (set copies i None)
IsElsewhere-without id [] i apart = apart
IsElsewhere-without id (None ∷ copies) zero apart = apart
IsElsewhere-without id (Some here ∷ copies) zero apart = apart.1
IsElsewhere-without id (None ∷ copies) (suc i) apart = IsElsewhere-without id copies i apart
IsElsewhere-without id (Some here ∷ copies) (suc i) apart = (apart.0, IsElsewhere-without id copies i apart.1)

IsElsewhere-with : (id : ℕ) (copies : List (Option ℕ)) (i other : ℕ) → ¬ (id ≡ other) → IsElsewhere id copies → IsElsewhere id (set copies i (Some other))
IsElsewhere-with id [] i other not_it apart = apart
IsElsewhere-with id (None ∷ copies) zero other not_it apart = (not_it, apart)
IsElsewhere-with id (Some here ∷ copies) zero other not_it apart = (not_it, apart.1)
IsElsewhere-with id (None ∷ copies) (suc i) other not_it apart = IsElsewhere-with id copies i other not_it apart
IsElsewhere-with id (Some here ∷ copies) (suc i) other not_it apart = (apart.0, IsElsewhere-with id copies i other not_it apart.1)

-- a frame that nobody owns is among no copies
pub IsElsewhere-fresh : (frames : Frames) (id : ℕ) (copies : List (Option ℕ)) → owners_of frames id ≡ 0 → AreCopies frames copies → IsElsewhere id copies
IsElsewhere-fresh frames id [] fresh own = tt
IsElsewhere-fresh frames id (None ∷ copies) fresh own = IsElsewhere-fresh frames id copies fresh own
IsElsewhere-fresh frames id (Some here ∷ copies) fresh own =
    ((λ same. let other : owners_of frames id ≡ 1 = ap (λ k. owners_of frames k) same ∙ own.0 in absurd (omega arith)), IsElsewhere-fresh frames id copies fresh own.3)

-- ---- copies outlive a change of another frame
owners-other : (frames : Frames) (id other : ℕ) (entry : Option HeldFrame) → ¬ (id ≡ other) → owners_of (set frames id entry) other ≡ owners_of frames other
owners-other frames id other entry apart = ap held_owners (get_or-set_other frames id other entry None (λ same. apart (sym same)))

bytes-other : (frames : Frames) (id other : ℕ) (entry : Option HeldFrame) → ¬ (id ≡ other) → bytes_of (set frames id entry) other ≡ bytes_of frames other
bytes-other frames id other entry apart = ap held_bytes (get_or-set_other frames id other entry None (λ same. apart (sym same)))

AreCopies-elsewhere : (frames : Frames) (id : ℕ) (entry : Option HeldFrame) (copies : List (Option ℕ)) → IsElsewhere id copies → AreCopies frames copies → AreCopies (set frames id entry) copies
AreCopies-elsewhere frames id entry [] apart own = tt
AreCopies-elsewhere frames id entry (None ∷ copies) apart own = AreCopies-elsewhere frames id entry copies apart own
AreCopies-elsewhere frames id entry (Some here ∷ copies) apart own =
    (owners-other frames id here entry apart.0 ∙ own.0, ap length (bytes-other frames id here entry apart.0) ∙ own.1, own.2, AreCopies-elsewhere frames id entry copies apart.1 own.3)

-- what is true of one of the copies
pub AreCopies-at : (frames : Frames) (copies : List (Option ℕ)) (i id : ℕ) → AreCopies frames copies → get_or copies i None ≡ Some id → (owners_of frames id ≡ 1) × (length (bytes_of frames id) ≡ PAGE_BYTES)
AreCopies-at frames [] i id own at = absurd (cc)
AreCopies-at frames (None ∷ copies) zero id own at = absurd (cc)
AreCopies-at frames (Some here ∷ copies) zero id own at =
    let e : here ≡ id = cc in (ap (λ k. owners_of frames k) (sym e) ∙ own.0, ap (λ k. length (bytes_of frames k)) (sym e) ∙ own.1)
AreCopies-at frames (None ∷ copies) (suc i) id own at = AreCopies-at frames copies i id own at
AreCopies-at frames (Some here ∷ copies) (suc i) id own at = AreCopies-at frames copies i id own.3 at

-- one of the copies goes
pub AreCopies-without : (frames : Frames) (copies : List (Option ℕ)) (i id : ℕ) (entry : Option HeldFrame) → AreCopies frames copies → get_or copies i None ≡ Some id → AreCopies (set frames id entry) (set copies i None)
AreCopies-without frames [] i id entry own at = absurd (cc)
AreCopies-without frames (None ∷ copies) zero id entry own at = absurd (cc)
AreCopies-without frames (Some here ∷ copies) zero id entry own at =
    let e : here ≡ id = cc in AreCopies-elsewhere frames id entry copies (subst (λ k. IsElsewhere k copies) e own.2) own.3
AreCopies-without frames (None ∷ copies) (suc i) id entry own at = AreCopies-without frames copies i id entry own at
AreCopies-without frames (Some here ∷ copies) (suc i) id entry own at =
    let apart : ¬ (id ≡ here) = λ same. IsElsewhere-at here copies i id own.2 at (sym same) in (
      owners-other frames id here entry apart ∙ own.0,
      ap length (bytes-other frames id here entry apart) ∙ own.1,
      IsElsewhere-without here copies i own.2,
      AreCopies-without frames copies i id entry own.3 at,
    )

-- a copy more
pub AreCopies-with : (frames : Frames) (copies : List (Option ℕ)) (i id : ℕ) (bytes : List ℕ) → id < length frames → length bytes ≡ PAGE_BYTES → owners_of frames id ≡ 0 → i < length copies
    → AreCopies frames copies → AreCopies (set frames id (copy_of bytes)) (set copies i (Some id))
AreCopies-with frames [] i id bytes within long fresh inside own = absurd (omega arith)
AreCopies-with frames (None ∷ copies) zero id bytes within long fresh inside own = (
  ap held_owners (get_or-set_same frames id (copy_of bytes) None within),
  ap (λ e. length (held_bytes e)) (get_or-set_same frames id (copy_of bytes) None within) ∙ long,
  IsElsewhere-fresh frames id copies fresh own,
  AreCopies-elsewhere frames id (copy_of bytes) copies (IsElsewhere-fresh frames id copies fresh own) own,
)
AreCopies-with frames (Some here ∷ copies) zero id bytes within long fresh inside own = (
  ap held_owners (get_or-set_same frames id (copy_of bytes) None within),
  ap (λ e. length (held_bytes e)) (get_or-set_same frames id (copy_of bytes) None within) ∙ long,
  IsElsewhere-fresh frames id copies fresh own.3,
  AreCopies-elsewhere frames id (copy_of bytes) copies (IsElsewhere-fresh frames id copies fresh own.3) own.3,
)
AreCopies-with frames (None ∷ copies) (suc i) id bytes within long fresh inside own = AreCopies-with frames copies i id bytes within long fresh (omega arith) own
AreCopies-with frames (Some here ∷ copies) (suc i) id bytes within long fresh inside own =
    let apart : ¬ (id ≡ here) = λ same. (let one : owners_of frames id ≡ 1 = ap (λ k. owners_of frames k) same ∙ own.0 in absurd (omega arith)) in (
      owners-other frames id here (copy_of bytes) apart ∙ own.0,
      ap length (bytes-other frames id here (copy_of bytes) apart) ∙ own.1,
      IsElsewhere-with here copies i id (λ same. apart (sym same)) own.2,
      AreCopies-with frames copies i id bytes within long fresh (omega arith) own.3,
    )

pub copied_in-with : (copies : List (Option ℕ)) (i id : ℕ) → i < length copies → get_or copies i None ≡ None → copied_in (set copies i (Some id)) ≡ 1 + copied_in copies
copied_in-with [] i id inside none = absurd (omega arith)
copied_in-with (None ∷ copies) zero id inside none = refl
copied_in-with (Some here ∷ copies) zero id inside none = absurd (cc)
copied_in-with (None ∷ copies) (suc i) id inside none = copied_in-with copies i id (omega arith) none
copied_in-with (Some here ∷ copies) (suc i) id inside none = omega (arith, copied_in-with copies i id (omega arith) none)

pub copied_in-without : (copies : List (Option ℕ)) (i id : ℕ) → get_or copies i None ≡ Some id → copied_in (set copies i None) + 1 ≡ copied_in copies
copied_in-without [] i id at = absurd (cc)
copied_in-without (None ∷ copies) zero id at = absurd (cc)
copied_in-without (Some here ∷ copies) zero id at = omega arith
copied_in-without (None ∷ copies) (suc i) id at = copied_in-without copies i id at
copied_in-without (Some here ∷ copies) (suc i) id at = omega (arith, copied_in-without copies i id at)

copied_in-drop : (copies : List (Option ℕ)) (i : ℕ) → copied_in (drop i copies) ≤ copied_in copies
copied_in-drop copies zero = omega arith
copied_in-drop [] (suc i) = omega arith
copied_in-drop (None ∷ copies) (suc i) = copied_in-drop copies i
copied_in-drop (Some id ∷ copies) (suc i) = omega (arith, copied_in-drop copies i)

drop_all : (copies : List (Option ℕ)) (i : ℕ) → length copies ≤ i → drop i copies ≡ []
drop_all [] zero past = refl
drop_all [] (suc i) past = refl
drop_all (copy ∷ copies) zero past = absurd (omega arith)
drop_all (copy ∷ copies) (suc i) past = drop_all copies i (omega arith)

-- the copy of a page, if it has one, goes
owned_within : (frames : Frames) (id : ℕ) → 0 < owners_of frames id → id < length frames
owned_within [] id owned = absurd (omega arith)
owned_within (entry ∷ frames) zero owned = omega arith
owned_within (entry ∷ frames) (suc id) owned = omega (arith, owned_within frames id owned)

owned_vacancy : (entry : Option HeldFrame) → 0 < held_owners entry → vacancy entry ≡ 0
owned_vacancy None owned = absurd (omega arith)
owned_vacancy (Some held) owned = refl

set_none : (copies : List (Option ℕ)) (i : ℕ) → get_or copies i None ≡ None → set copies i None ≡ copies
set_none [] i none = refl
set_none (copy ∷ copies) zero none = ap (λ c. c ∷ copies) (sym none)
set_none (copy ∷ copies) (suc i) none = ap (λ cs. copy ∷ cs) (set_none copies i none)

pub AreCopies-gone : (frames : Frames) (copies : List (Option ℕ)) (i : ℕ) (copy : Option ℕ) → get_or copies i None ≡ copy → AreCopies frames copies → AreCopies (without_copy frames copy) (set copies i None)
AreCopies-gone frames copies i None at own = subst (λ cs. AreCopies frames cs) (sym (set_none copies i at)) own
AreCopies-gone frames copies i (Some id) at own = AreCopies-without frames copies i id None own at

pub free_in-gone : (frames : Frames) (copies : List (Option ℕ)) (i : ℕ) (copy : Option ℕ) → get_or copies i None ≡ copy → AreCopies frames copies
    → free_in (without_copy frames copy) + copied_in (set copies i None) ≡ free_in frames + copied_in copies
free_in-gone frames copies i None at own = ap (λ cs. free_in frames + copied_in cs) (set_none copies i at)
free_in-gone frames copies i (Some id) at own =
    let one = (AreCopies-at frames copies i id own at).0 in let some : 0 < owners_of frames id = omega arith in
    omega (arith, free_in-set frames id None (owned_within frames id some), owned_vacancy (frame frames id) some, copied_in-without copies i id at)

-- what is left to go after a page
pub copied_in-next : (copies : List (Option ℕ)) (i : ℕ) → i < length copies → copied_in copies ≡ copied_in (drop i copies) → copied_in (set copies i None) ≡ copied_in (drop (i + 1) (set copies i None))
copied_in-next [] i within all = absurd (omega arith)
copied_in-next (copy ∷ copies) zero within all = refl
copied_in-next (None ∷ copies) (suc i) within all = copied_in-next copies i (omega arith) all ∙ ap (λ n. copied_in (drop n (None ∷ set copies i None))) (let e : suc (i + 1) ≡ suc i + 1 = omega arith in e)
copied_in-next (Some id ∷ copies) (suc i) within all = absurd (omega (arith, copied_in-drop copies i))

pub copied_in-past : (copies : List (Option ℕ)) (i : ℕ) → length copies ≤ i → copied_in copies ≡ copied_in (drop i copies) → copied_in copies ≡ 0
copied_in-past copies i past all = all ∙ ap copied_in (drop_all copies i past)

-- ---- flags
pub length-shared_of : (is_frozen : Bool) (copies : List (Option ℕ)) → length (shared_of is_frozen copies) ≡ length copies
length-shared_of is_frozen [] = refl
length-shared_of is_frozen (copy ∷ copies) = ap suc (length-shared_of is_frozen copies)

pub shared_of-thawed : (copies : List (Option ℕ)) → shared_of false copies ≡ replicate (length copies) false
shared_of-thawed [] = refl
shared_of-thawed (copy ∷ copies) = ap (λ pages. false ∷ pages) (shared_of-thawed copies)

pub shared_of-none : (copies : List (Option ℕ)) → copied_in copies ≡ 0 → shared_of true copies ≡ replicate (length copies) true
shared_of-none [] none = refl
shared_of-none (None ∷ copies) none = ap (λ pages. true ∷ pages) (shared_of-none copies none)
shared_of-none (Some id ∷ copies) none = absurd (omega arith)

pub shared_of-with : (copies : List (Option ℕ)) (i id : ℕ) → shared_of true (set copies i (Some id)) ≡ set (shared_of true copies) i false
shared_of-with [] i id = refl
shared_of-with (copy ∷ copies) zero id = refl
shared_of-with (None ∷ copies) (suc i) id = ap (λ pages. true ∷ pages) (shared_of-with copies i id)
shared_of-with (Some here ∷ copies) (suc i) id = ap (λ pages. false ∷ pages) (shared_of-with copies i id)

pub private_in-shared_of : (copies : List (Option ℕ)) → private_in (shared_of true copies) ≡ copied_in copies
private_in-shared_of [] = refl
private_in-shared_of (None ∷ copies) = omega (arith, private_in-shared_of copies)
private_in-shared_of (Some id ∷ copies) = omega (arith, private_in-shared_of copies)

-- a page that is shared has no copy, and memory is frozen
pub shared_at : (is_frozen : Bool) (copies : List (Option ℕ)) (i : ℕ) → get_or (shared_of is_frozen copies) i false ≡ true → (is_frozen ≡ true) × (get_or copies i None ≡ None) × (i < length copies)
shared_at is_frozen [] i shared = absurd (cc)
shared_at true (None ∷ copies) zero shared = (refl, refl, omega arith)
shared_at true (Some id ∷ copies) zero shared = absurd (cc)
shared_at false (copy ∷ copies) zero shared = absurd (cc)
shared_at is_frozen (copy ∷ copies) (suc i) shared = let rest = shared_at is_frozen copies i shared in (rest.0, rest.1, omega (arith, rest.2))

-- ---- the frozen bytes
drop_past : (n : ℕ) (bytes : List ℕ) → length bytes ≤ n → drop n bytes ≡ []
drop_past zero [] past = refl
drop_past zero (byte ∷ bytes) past = absurd (omega arith)
drop_past (suc n) [] past = refl
drop_past (suc n) (byte ∷ bytes) past = drop_past n bytes (omega arith)

drop-append : (front rest : List ℕ) (n : ℕ) → drop (length front + n) (front ++ rest) ≡ drop n rest
drop-append [] rest n = ap (λ k. drop k rest) (let e : 0 + n ≡ n = omega arith in e)
drop-append (byte ∷ front) rest n = let e : length (byte ∷ front) + n ≡ suc (length front + n) = omega arith in ap (λ k. drop k (byte ∷ (front ++ rest))) e ∙ drop-append front rest n

frozen_from-elsewhere : (page : ℕ) (live : List ℕ) (copies : List (Option ℕ)) (frames : Frames) (id : ℕ) (entry : Option HeldFrame) → IsElsewhere id copies → frozen_from page live copies (set frames id entry) ≡ frozen_from page live copies frames
frozen_from-elsewhere page live [] frames id entry apart = refl
frozen_from-elsewhere page live (None ∷ copies) frames id entry apart = ap (λ rest. page_of live page ++ rest) (frozen_from-elsewhere (page + 1) live copies frames id entry apart)
frozen_from-elsewhere page live (Some here ∷ copies) frames id entry apart =
    ap (λ front. front ++ frozen_from (page + 1) live copies (set frames id entry)) (bytes-other frames id here entry apart.0)
    ∙ ap (λ rest. bytes_of frames here ++ rest) (frozen_from-elsewhere (page + 1) live copies frames id entry apart.1)

pub page_of-take : (bytes : List ℕ) (page : ℕ) → page_of bytes page ≡ take PAGE_BYTES (drop (PAGE_BYTES * page) bytes)
page_of-take bytes page = let size : PAGE_BYTES * page + PAGE_BYTES - PAGE_BYTES * page ≡ PAGE_BYTES = omega arith in ap (λ n. take n (drop (PAGE_BYTES * page) bytes)) size

pub length-page_of : (bytes : List ℕ) (page : ℕ) → PAGE_BYTES * page + PAGE_BYTES ≤ length bytes → length (page_of bytes page) ≡ PAGE_BYTES
length-page_of bytes page inside = ap length (page_of-take bytes page) ∙ length-take-le PAGE_BYTES (drop (PAGE_BYTES * page) bytes) (omega (arith, length-drop (PAGE_BYTES * page) bytes))

length-frozen_bytes : (page : ℕ) (live : List ℕ) (copy : Option ℕ) (copies : List (Option ℕ)) (frames : Frames) → PAGE_BYTES * page + PAGE_BYTES ≤ length live → AreCopies frames (copy ∷ copies) → length (frozen_bytes page live copy frames) ≡ PAGE_BYTES
length-frozen_bytes page live None copies frames inside own = length-page_of live page inside
length-frozen_bytes page live (Some id) copies frames inside own = own.1

AreCopies-rest : (frames : Frames) (copy : Option ℕ) (copies : List (Option ℕ)) → AreCopies frames (copy ∷ copies) → AreCopies frames copies
AreCopies-rest frames None copies own = own
AreCopies-rest frames (Some id) copies own = own.3

pub length-frozen_from : (page : ℕ) (live : List ℕ) (copies : List (Option ℕ)) (frames : Frames) → PAGE_BYTES * page + PAGE_BYTES * length copies ≤ length live → AreCopies frames copies → length (frozen_from page live copies frames) ≡ PAGE_BYTES * length copies
length-frozen_from page live [] frames inside own = refl
length-frozen_from page live (copy ∷ copies) frames inside own =
    omega (
      arith,
      length-append (frozen_bytes page live copy frames) (frozen_from (page + 1) live copies frames),
      length-frozen_bytes page live copy copies frames (omega arith) own,
      length-frozen_from (page + 1) live copies frames (omega arith) (AreCopies-rest frames copy copies own),
    )

-- if no page has a copy, they are the live bytes
pub frozen_from-none : (page : ℕ) (live : List ℕ) (copies : List (Option ℕ)) (frames : Frames) → PAGE_BYTES * page + PAGE_BYTES * length copies ≡ length live → copied_in copies ≡ 0 → frozen_from page live copies frames ≡ drop (PAGE_BYTES * page) live
frozen_from-none page live [] frames all none = let past : length live ≤ PAGE_BYTES * page = omega arith in sym (drop_past (PAGE_BYTES * page) live past)
frozen_from-none page live (None ∷ copies) frames all none =
    let next : PAGE_BYTES * (page + 1) ≡ PAGE_BYTES * page + PAGE_BYTES = omega arith in
    ap (λ bytes. bytes ++ frozen_from (page + 1) live copies frames) (page_of-take live page)
    ∙ ap (λ bytes. take PAGE_BYTES (drop (PAGE_BYTES * page) live) ++ bytes) (frozen_from-none (page + 1) live copies frames (omega arith) none ∙ ap (λ n. drop n live) next ∙ sym (drop-drop PAGE_BYTES (PAGE_BYTES * page) live))
    ∙ take-append-drop PAGE_BYTES (drop (PAGE_BYTES * page) live)
frozen_from-none page live (Some id ∷ copies) frames all none = absurd (omega arith)

-- a copy of a page that was shared
pub frozen_from-with : (page : ℕ) (live : List ℕ) (copies : List (Option ℕ)) (frames : Frames) (i id : ℕ) (bytes : List ℕ) → id < length frames → owners_of frames id ≡ 0 → AreCopies frames copies
    → get_or copies i None ≡ None → bytes ≡ page_of live (page + i) → frozen_from page live (set copies i (Some id)) (set frames id (copy_of bytes)) ≡ frozen_from page live copies frames
frozen_from-with page live [] frames i id bytes within fresh own none same = refl
frozen_from-with page live (None ∷ copies) frames zero id bytes within fresh own none same =
    let here : bytes_of (set frames id (copy_of bytes)) id ≡ page_of live page = ap held_bytes (get_or-set_same frames id (copy_of bytes) None within) ∙ same ∙ ap (λ p. page_of live p) (let e : page + 0 ≡ page = omega arith in e) in
    ap (λ front. front ++ frozen_from (page + 1) live copies (set frames id (copy_of bytes))) here
    ∙ ap (λ rest. page_of live page ++ rest) (frozen_from-elsewhere (page + 1) live copies frames id (copy_of bytes) (IsElsewhere-fresh frames id copies fresh own))
frozen_from-with page live (Some here ∷ copies) frames zero id bytes within fresh own none same = absurd (cc)
frozen_from-with page live (None ∷ copies) frames (suc i) id bytes within fresh own none same =
    let place : page + suc i ≡ page + 1 + i = omega arith in
    ap (λ rest. page_of live page ++ rest) (frozen_from-with (page + 1) live copies frames i id bytes within fresh own none (same ∙ ap (λ p. page_of live p) place))
frozen_from-with page live (Some here ∷ copies) frames (suc i) id bytes within fresh own none same =
    let place : page + suc i ≡ page + 1 + i = omega arith in
    let apart : ¬ (id ≡ here) = λ e. (let one : owners_of frames id ≡ 1 = ap (λ k. owners_of frames k) e ∙ own.0 in absurd (omega arith)) in
    ap (λ front. front ++ frozen_from (page + 1) live (set copies i (Some id)) (set frames id (copy_of bytes))) (bytes-other frames id here (copy_of bytes) apart)
    ∙ ap (λ rest. bytes_of frames here ++ rest) (frozen_from-with (page + 1) live copies frames i id bytes within fresh own.3 none (same ∙ ap (λ p. page_of live p) place))

-- each page of them
pub page_of-frozen_from : (page : ℕ) (live : List ℕ) (copies : List (Option ℕ)) (frames : Frames) (i : ℕ) → i < length copies → PAGE_BYTES * page + PAGE_BYTES * length copies ≤ length live → AreCopies frames copies
    → page_of (frozen_from page live copies frames) i ≡ frozen_bytes (page + i) live (get_or copies i None) frames
page_of-frozen_from page live [] frames i within inside own = absurd (omega arith)
page_of-frozen_from page live (copy ∷ copies) frames zero within inside own =
    let front = frozen_bytes page live copy frames in let rest = frozen_from (page + 1) live copies frames in
    let long : PAGE_BYTES ≡ length front = sym (length-frozen_bytes page live copy copies frames (omega arith) own) in
    page_of-take (front ++ rest) 0 ∙ ap (λ n. take n (front ++ rest)) long ∙ take-append_seam front rest
    ∙ ap (λ p. frozen_bytes p live copy frames) (let e : page ≡ page + 0 = omega arith in e)
page_of-frozen_from page live (copy ∷ copies) frames (suc i) within inside own =
    let front = frozen_bytes page live copy frames in let rest = frozen_from (page + 1) live copies frames in
    let long : length front ≡ PAGE_BYTES = length-frozen_bytes page live copy copies frames (omega arith) own in
    let place : PAGE_BYTES * suc i ≡ length front + PAGE_BYTES * i = omega arith in
    let page_is : page + 1 + i ≡ page + suc i = omega arith in
    page_of-take (front ++ rest) (suc i) ∙ ap (λ n. take PAGE_BYTES (drop n (front ++ rest))) place ∙ ap (take PAGE_BYTES) (drop-append front rest (PAGE_BYTES * i)) ∙ sym (page_of-take rest i)
    ∙ page_of-frozen_from (page + 1) live copies frames i (omega arith) (omega arith) (AreCopies-rest frames copy copies own)
    ∙ ap (λ p. frozen_bytes p live (get_or copies i None) frames) page_is

pub copy_single : (frames : Frames) (copies : List (Option ℕ)) (i : ℕ) (copy : Option ℕ) → get_or copies i None ≡ copy → AreCopies frames copies → ForSome copy (λ id. owners_of frames id ≡ 1)
copy_single frames copies i None at own = λ id is. absurd (cc)
copy_single frames copies i (Some here) at own = λ id is. let e : here ≡ id = cc in ap (λ k. owners_of frames k) (sym e) ∙ (AreCopies-at frames copies i here own at).0

pub take_past : (n : ℕ) (bytes : List ℕ) → length bytes ≤ n → take n bytes ≡ bytes
take_past zero [] past = refl
take_past zero (byte ∷ bytes) past = absurd (omega arith)
take_past (suc n) [] past = refl
take_past (suc n) (byte ∷ bytes) past = ap (λ bs. byte ∷ bs) (take_past n bytes (omega arith))

-- if no page has a copy, any frames do
pub AreCopies-none : (frames : Frames) (copies : List (Option ℕ)) → copied_in copies ≡ 0 → AreCopies frames copies
AreCopies-none frames [] none = tt
AreCopies-none frames (None ∷ copies) none = AreCopies-none frames copies none
AreCopies-none frames (Some id ∷ copies) none = absurd (omega arith)

-- the live bytes may change in pages that have a copy
pub frozen_from-written : (page : ℕ) (live after : List ℕ) (copies : List (Option ℕ)) (frames : Frames) → ((i : ℕ) → get_or (shared_of true copies) i false ≡ true → page_of after (page + i) ≡ page_of live (page + i))
    → frozen_from page after copies frames ≡ frozen_from page live copies frames
frozen_from-written page live after [] frames same = refl
frozen_from-written page live after (None ∷ copies) frames same =
    let here : page + 0 ≡ page = omega arith in
    ap (λ bytes. bytes ++ frozen_from (page + 1) after copies frames) (ap (page_of after) (sym here) ∙ same 0 refl ∙ ap (page_of live) here)
    ∙ ap (λ rest. page_of live page ++ rest) (frozen_from-written (page + 1) live after copies frames (λ i shared. let place : page + 1 + i ≡ page + suc i = omega arith in ap (page_of after) place ∙ same (suc i) shared ∙ ap (page_of live) (sym place)))
frozen_from-written page live after (Some id ∷ copies) frames same =
    ap (λ rest. bytes_of frames id ++ rest) (frozen_from-written (page + 1) live after copies frames (λ i shared. let place : page + 1 + i ≡ page + suc i = omega arith in ap (page_of after) place ∙ same (suc i) shared ∙ ap (page_of live) (sym place)))
