-- The frames of counts and a region: what each is, and what a change of one makes of them.
use Rattle.std.proofs.Common.{◌≡◌, ℕ, zero, suc, ◌+◌, ◌<◌, List, [], ◌∷◌, Option, Some, None, get_or, set, length, refl, ap, ◌∙◌, arith}
use Rattle.tp_model.specs.Frames.{HeldFrame, Frames, frame, owned, held_owners, held_bytes, owners_of, bytes_of, with_frame, free_in}
use Rattle.tp_mem.specs.FreeList.{frames_of}

pub length-frames_of : (counts : List ℕ) (region : List (List ℕ)) → length counts ≡ length region → length (frames_of counts region) ≡ length counts
length-frames_of [] region same = refl
length-frames_of (count ∷ counts) [] same = absurd (omega arith)
length-frames_of (count ∷ counts) (bytes ∷ region) same = ap suc (length-frames_of counts region (omega arith))

pub frame-frames_of : (counts : List ℕ) (region : List (List ℕ)) (i : ℕ) → length counts ≡ length region
    → frame (frames_of counts region) i ≡ owned (get_or counts i 0) (get_or region i [])
frame-frames_of [] region i same = refl
frame-frames_of (count ∷ counts) [] i same = absurd (omega arith)
frame-frames_of (count ∷ counts) (bytes ∷ region) zero same = refl
frame-frames_of (count ∷ counts) (bytes ∷ region) (suc i) same = frame-frames_of counts region i (omega arith)

pub frames_of-set : (counts : List ℕ) (region : List (List ℕ)) (i count : ℕ) (bytes : List ℕ) → length counts ≡ length region
    → frames_of (set counts i count) (set region i bytes) ≡ with_frame (frames_of counts region) i count bytes
frames_of-set [] region i count bytes same = refl
frames_of-set (here ∷ counts) [] i count bytes same = absurd (omega arith)
frames_of-set (here ∷ counts) (there ∷ region) zero count bytes same = refl
frames_of-set (here ∷ counts) (there ∷ region) (suc i) count bytes same = ap (λ fs. owned here there ∷ fs) (frames_of-set counts region i count bytes (omega arith))

pub held_owners-owned : (count : ℕ) (bytes : List ℕ) → held_owners (owned count bytes) ≡ count
held_owners-owned zero bytes = refl
held_owners-owned (suc count) bytes = refl

pub held_bytes-owned : (count : ℕ) (bytes : List ℕ) → 0 < count → held_bytes (owned count bytes) ≡ bytes
held_bytes-owned zero bytes some = absurd (omega arith)
held_bytes-owned (suc count) bytes some = refl

pub owners_of-frames_of : (counts : List ℕ) (region : List (List ℕ)) (i : ℕ) → length counts ≡ length region → owners_of (frames_of counts region) i ≡ get_or counts i 0
owners_of-frames_of counts region i same = ap held_owners (frame-frames_of counts region i same) ∙ held_owners-owned (get_or counts i 0) (get_or region i [])

pub bytes_of-frames_of : (counts : List ℕ) (region : List (List ℕ)) (i : ℕ) → length counts ≡ length region → 0 < get_or counts i 0 → bytes_of (frames_of counts region) i ≡ get_or region i []
bytes_of-frames_of counts region i same held = ap held_bytes (frame-frames_of counts region i same) ∙ held_bytes-owned (get_or counts i 0) (get_or region i []) held

pub held_within : (counts : List ℕ) (i : ℕ) → 0 < get_or counts i 0 → i < length counts
held_within [] i held = absurd (omega arith)
held_within (count ∷ counts) zero held = omega arith
held_within (count ∷ counts) (suc i) held = omega (arith, held_within counts i held)

-- one if a frame is free
abbrev pub vacancy : Option HeldFrame → ℕ
vacancy None = 1
vacancy (Some held) = 0

pub vacancy-owned : (count : ℕ) (bytes : List ℕ) → 0 < count → vacancy (owned count bytes) ≡ 0
vacancy-owned zero bytes some = absurd (omega arith)
vacancy-owned (suc count) bytes some = refl

free_in-cons : (entry : Option HeldFrame) (frames : Frames) → free_in (entry ∷ frames) ≡ vacancy entry + free_in frames
free_in-cons None frames = refl
free_in-cons (Some held) frames = omega arith

-- what the change of one frame does to the number of free frames
pub free_in-set : (frames : Frames) (i : ℕ) (entry : Option HeldFrame) → i < length frames → free_in (set frames i entry) + vacancy (frame frames i) ≡ free_in frames + vacancy entry
free_in-set [] i entry within = absurd (omega arith)
free_in-set (here ∷ frames) zero entry within = omega (arith, free_in-cons here frames, free_in-cons entry frames)
free_in-set (here ∷ frames) (suc i) entry within = omega (arith, free_in-cons here frames, free_in-cons here (set frames i entry), free_in-set frames i entry (omega arith))

pub free_in-le-length : (frames : Frames) → free_in frames < length frames + 1
free_in-le-length [] = omega arith
free_in-le-length (None ∷ frames) = omega (arith, free_in-le-length frames)
free_in-le-length (Some held ∷ frames) = omega (arith, free_in-le-length frames)
