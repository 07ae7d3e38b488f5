-- What is true of every pool stays true.
use Rattle.std.proofs.Common.{◌≡◌, ℕ, zero, suc, ◌+◌, ◌-◌, ◌<◌, ◌^◌, List, [], ◌∷◌, Option, None, get_or, set, length, replicate, refl, sym, ap, subst, ◌∙◌, arith}
use Rattle.tp_mem.proofs.Lower.{length-set, get_or-set_same, get_or-set_other, set-get_or, length-replicate, get_or-replicate, HeldFrame, Frames, frame, owned, owners_of, bytes_of, IsHeld, with_frame, free_in}
use Rattle.tp_mem.specs.FreeList.{frames_of, next_in, AreLinked, IsApart, IsChain, IsPool}
use Rattle.tp_mem.proofs.Frames.{length-frames_of, frame-frames_of, frames_of-set, owners_of-frames_of, bytes_of-frames_of, held_within, vacancy, vacancy-owned, free_in-set, free_in-le-length}

-- a frame that isn't free isn't in the free list
pub IsApart-held : (frames : Frames) (region : List (List ℕ)) (first : ℕ) (numbers : List ℕ) (i : ℕ) → vacancy (frame frames i) ≡ 0
    → IsChain frames region first numbers → IsApart i numbers
IsApart-held frames region first [] i held chain = tt
IsApart-held frames region first (number ∷ numbers) i held chain = (
  (λ same. let vacant : vacancy (frame frames i) ≡ 1 = rw (ap (λ j. frame frames j) same ∙ chain.2) refl in absurd (omega arith)),
  IsApart-held frames region (next_in (get_or region number [])) numbers i held chain.4,
)

-- the free list outlives a change elsewhere
pub IsChain-set : (frames : Frames) (region : List (List ℕ)) (first : ℕ) (numbers : List ℕ) (i : ℕ) (entry : Option HeldFrame) (bytes : List ℕ) → IsApart i numbers
    → IsChain frames region first numbers → IsChain (set frames i entry) (set region i bytes) first numbers
IsChain-set frames region first [] i entry bytes apart chain = tt
IsChain-set frames region first (number ∷ numbers) i entry bytes apart chain =
    let other : ¬ (number ≡ i) = λ same. apart.0 (sym same) in
    let next : next_in (get_or (set region i bytes) number []) ≡ next_in (get_or region number []) = ap next_in (get_or-set_other region i number bytes [] other) in (
      chain.0,
      omega (arith, length-set frames i entry),
      get_or-set_other frames i number entry None other ∙ chain.2,
      chain.3,
      rw next (IsChain-set frames region (next_in (get_or region number [])) numbers i entry bytes apart.1 chain.4),
    )

-- the free list of equal frames
along : (frames after : Frames) (region : List (List ℕ)) (first : ℕ) (numbers : List ℕ) → after ≡ frames → IsChain frames region first numbers → IsChain after region first numbers
along frames after region first numbers same chain = subst (λ fs. IsChain fs region first numbers) (sym same) chain

module _ (counts : List ℕ) (region : List (List ℕ)) (first free : ℕ) (pool : IsPool counts region first free) where
  abbrev frames : Frames
  frames = frames_of counts region

  held_vacancy : (i : ℕ) → 0 < get_or counts i 0 → vacancy (frame frames i) ≡ 0
  held_vacancy i held = ap vacancy (frame-frames_of counts region i pool.matched) ∙ vacancy-owned (get_or counts i 0) (get_or region i []) held

  within : (i : ℕ) → 0 < get_or counts i 0 → i < length frames
  within i held = omega (arith, length-frames_of counts region pool.matched, held_within counts i held)

  same_lengths : (i count : ℕ) (bytes : List ℕ) → length (set counts i count) ≡ length (set region i bytes)
  same_lengths i count bytes = length-set counts i count ∙ pool.matched ∙ sym (length-set region i bytes)

  pub IsPool-kept : (i count : ℕ) (bytes : List ℕ) → 0 < get_or counts i 0 → 0 < count → IsPool (set counts i count) (set region i bytes) first free
  IsPool-kept i count bytes held some =
      let vacant = held_vacancy i held in
      record {
        matched = same_lengths i count bytes;
        small = omega (arith, length-set counts i count, pool.small);
        free_is = rw (frames_of-set counts region i count bytes pool.matched) (omega (arith, pool.free_is, free_in-set frames i (owned count bytes) (within i held), vacancy-owned count bytes some));
        chain = (
          pool.chain.0,
          pool.chain.1,
          along (with_frame frames i count bytes) (frames_of (set counts i count) (set region i bytes)) (set region i bytes) first pool.chain.0 (frames_of-set counts region i count bytes pool.matched)
              (IsChain-set frames region first pool.chain.0 i (owned count bytes) bytes (IsApart-held frames region first pool.chain.0 i vacant pool.chain.2) pool.chain.2),
        );
      }

  pub IsPool-freed : (i : ℕ) (bytes : List ℕ) → 0 < get_or counts i 0 → next_in bytes ≡ first → IsPool (set counts i 0) (set region i bytes) i (free + 1)
  IsPool-freed i bytes held leads =
      let vacant = held_vacancy i held in let inside = within i held in
      let apart = IsApart-held frames region first pool.chain.0 i vacant pool.chain.2 in
      let fits : i < length region = omega (arith, pool.matched, held_within counts i held) in
      let here : next_in (get_or (set region i bytes) i []) ≡ first = ap next_in (get_or-set_same region i bytes [] fits) ∙ leads in
      record {
        matched = same_lengths i 0 bytes;
        small = omega (arith, length-set counts i 0, pool.small);
        free_is = rw (frames_of-set counts region i 0 bytes pool.matched) (omega (arith, pool.free_is, free_in-set frames i None inside));
        chain = (
          i ∷ pool.chain.0,
          omega (arith, pool.chain.1),
          along (with_frame frames i 0 bytes) (frames_of (set counts i 0) (set region i bytes)) (set region i bytes) i (i ∷ pool.chain.0) (frames_of-set counts region i 0 bytes pool.matched) (
            refl,
            omega (arith, length-set frames i None),
            get_or-set_same frames i None None inside,
            apart,
            rw here (IsChain-set frames region first pool.chain.0 i None bytes apart pool.chain.2),
          ),
        );
      }

  chain_first : (numbers : List ℕ) → length numbers ≡ free → 0 < free → IsChain frames region first numbers → (first < length counts) × (frame frames first ≡ None)
  chain_first [] long some chain = absurd (omega arith)
  chain_first (number ∷ numbers) long some chain = (omega (arith, chain.0, chain.1, length-frames_of counts region pool.matched), ap (λ i. frame frames i) chain.0 ∙ chain.2)

  -- if a frame is free, so is the first one
  pub first_is_free : 0 < free → (first < length counts) × (frame frames first ≡ None)
  first_is_free some = chain_first pool.chain.0 pool.chain.1 some pool.chain.2

  rest_chain : (numbers : List ℕ) → length numbers ≡ free → 0 < free → IsChain frames region first numbers
      → (rest : List ℕ) × (length rest ≡ free - 1) × IsApart first rest × IsChain frames region (next_in (get_or region first [])) rest
  rest_chain [] long some chain = absurd (omega arith)
  rest_chain (number ∷ numbers) long some chain = (numbers, omega arith, rw chain.0 chain.3, rw chain.0 chain.4)

  pub IsPool-taken : (count : ℕ) → 0 < count → 0 < free → IsPool (set counts first count) region (next_in (get_or region first [])) (free - 1)
  IsPool-taken count taken some =
      let here = first_is_free some in
      let rest = rest_chain pool.chain.0 pool.chain.1 some pool.chain.2 in
      let bytes = get_or region first [] in
      let kept : set region first bytes ≡ region = set-get_or region first [] in
      let view : frames_of (set counts first count) region ≡ with_frame frames first count bytes = rw (sym (ap (λ r. frames_of (set counts first count) r) kept)) (frames_of-set counts region first count bytes pool.matched) in
      let vacant : vacancy (frame frames first) ≡ 1 = ap vacancy here.1 in
      record {
        matched = length-set counts first count ∙ pool.matched;
        small = omega (arith, length-set counts first count, pool.small);
        free_is = rw view (omega (arith, pool.free_is, free_in-set frames first (owned count bytes) (omega (arith, length-frames_of counts region pool.matched)), vacancy-owned count bytes taken));
        chain = (
          rest.0,
          rest.1,
          rw view (rw (sym (ap (λ r. IsChain (with_frame frames first count bytes) r (next_in bytes) rest.0) kept))
              (IsChain-set frames region (next_in bytes) rest.0 first (owned count bytes) bytes rest.2 rest.3)),
        );
      }

  pub IsPool-counted : (i count : ℕ) → 0 < get_or counts i 0 → 0 < count → IsPool (set counts i count) region first free
  IsPool-counted i count held some = subst (λ r. IsPool (set counts i count) r first free) (set-get_or region i []) (IsPool-kept i count (get_or region i []) held some)

  pub IsPool-written : (i : ℕ) (bytes : List ℕ) → 0 < get_or counts i 0 → IsPool counts (set region i bytes) first free
  IsPool-written i bytes held = subst (λ cs. IsPool cs (set region i bytes) first free) (set-get_or counts i 0) (IsPool-kept i (get_or counts i 0) bytes held held)

  pub taken_view : (count : ℕ) → frames_of (set counts first count) region ≡ with_frame frames first count (get_or region first [])
  taken_view count = ap (λ r. frames_of (set counts first count) r) (sym (set-get_or region first [])) ∙ frames_of-set counts region first count (get_or region first []) pool.matched

  pub free-small : free + 1 < 2 ^ 64
  free-small = omega (arith, pool.free_is, pool.small, free_in-le-length frames, length-frames_of counts region pool.matched)

  -- what a caller says of a frame, of the counts and the region
  module _ (seen : Frames) (sees : frames ≡ seen) (i : ℕ) (held : IsHeld seen i) where
    pub owners_here : owners_of seen i ≡ get_or counts i 0
    owners_here = subst (λ fs. owners_of fs i ≡ get_or counts i 0) sees (owners_of-frames_of counts region i pool.matched)

    pub held_here : 0 < get_or counts i 0
    held_here = omega (arith, owners_here)

    pub counts_here : i < length counts
    counts_here = held_within counts i held_here

    pub region_here : i < length region
    region_here = omega (arith, counts_here, pool.matched)

    pub bytes_here : bytes_of seen i ≡ get_or region i []
    bytes_here = subst (λ fs. bytes_of fs i ≡ get_or region i []) sees (bytes_of-frames_of counts region i pool.matched held_here)

    pub counted_view : (count : ℕ) → frames_of (set counts i count) region ≡ with_frame seen i count (bytes_of seen i)
    counted_view count =
        let bytes = get_or region i [] in
        let kept : set region i bytes ≡ region = set-get_or region i [] in
        let step : frames_of (set counts i count) region ≡ with_frame frames i count bytes = ap (λ r. frames_of (set counts i count) r) (sym kept) ∙ frames_of-set counts region i count bytes pool.matched in
        step ∙ ap (λ fs. with_frame fs i count bytes) sees ∙ ap (λ bs. with_frame seen i count bs) (sym bytes_here)

    pub freed_view : (bytes : List ℕ) → frames_of (set counts i 0) (set region i bytes) ≡ with_frame seen i 0 (bytes_of seen i)
    freed_view bytes = frames_of-set counts region i 0 bytes pool.matched ∙ ap (λ fs. with_frame fs i 0 bytes) sees

    pub written_view : (count : ℕ) (bytes : List ℕ) → owners_of seen i ≡ count → frames_of counts (set region i bytes) ≡ with_frame seen i count bytes
    written_view count bytes owners =
        let here : get_or counts i 0 ≡ count = sym owners_here ∙ owners in
        let kept : set counts i count ≡ counts = ap (λ k. set counts i k) (sym here) ∙ set-get_or counts i 0 in
        ap (λ cs. frames_of cs (set region i bytes)) (sym kept) ∙ frames_of-set counts region i count bytes pool.matched ∙ ap (λ fs. with_frame fs i count bytes) sees

-- a fresh pool: no frame has an owner, and each leads to the next
pub frames_of-replicate : (n : ℕ) (region : List (List ℕ)) → length region ≡ n → frames_of (replicate n 0) region ≡ replicate n None
frames_of-replicate zero region long = refl
frames_of-replicate (suc n) [] long = absurd (omega arith)
frames_of-replicate (suc n) (bytes ∷ region) long = ap (λ fs. None ∷ fs) (frames_of-replicate n region (omega arith))

free_in-replicate : (n : ℕ) → free_in (replicate n None) ≡ n
free_in-replicate zero = refl
free_in-replicate (suc n) = omega (arith, free_in-replicate n)

abbrev numbers_from : ℕ → ℕ → List ℕ
numbers_from at zero = []
numbers_from at (suc k) = at ∷ numbers_from (at + 1) k

length-numbers_from : (at k : ℕ) → length (numbers_from at k) ≡ k
length-numbers_from at zero = refl
length-numbers_from at (suc k) = ap suc (length-numbers_from (at + 1) k)

IsApart-numbers_from : (i at k : ℕ) → i < at → IsApart i (numbers_from at k)
IsApart-numbers_from i at zero below = tt
IsApart-numbers_from i at (suc k) below = ((λ same. absurd (omega arith)), IsApart-numbers_from i (at + 1) k (omega arith))

fresh_chain : (n : ℕ) (region : List (List ℕ)) → length region ≡ n → AreLinked region → (at k : ℕ) → at + k ≡ n → IsChain (replicate n None) region at (numbers_from at k)
fresh_chain n region long linked at zero all = tt
fresh_chain n region long linked at (suc zero) all =
    (refl, omega (arith, length-replicate {A = Option HeldFrame} n None), get_or-replicate n at None None (omega arith), tt, tt)
fresh_chain n region long linked at (suc (suc k)) all = (
  refl,
  omega (arith, length-replicate {A = Option HeldFrame} n None),
  get_or-replicate n at None None (omega arith),
  IsApart-numbers_from at (at + 1) (suc k) (omega arith),
  rw (linked at (omega arith)) (fresh_chain n region long linked (at + 1) (suc k) (omega arith)),
)

pub IsPool-fresh : (n : ℕ) (region : List (List ℕ)) → n < 2 ^ 32 → length region ≡ n → AreLinked region → IsPool (replicate n 0) region 0 n
IsPool-fresh n region small long linked =
    let view = frames_of-replicate n region long in
    record {
      matched = length-replicate n 0 ∙ sym long;
      small = omega (arith, length-replicate {A = ℕ} n 0);
      free_is = sym (ap free_in view ∙ free_in-replicate n);
      chain = (numbers_from 0 n, length-numbers_from 0 n, along (replicate n None) (frames_of (replicate n 0) region) region 0 (numbers_from 0 n) view (fresh_chain n region long linked 0 n (omega arith)));
    }

pub held_same : (frames : Frames) (number i : ℕ) → number ≡ i → IsHeld frames i → IsHeld frames number
held_same frames number i same held = subst (λ k. IsHeld frames k) (sym same) held

-- a count that was written is what is read
pub written_count : (counts : List ℕ) (i count read : ℕ) → i < length counts → read ≡ get_or (set counts i count) i read → read ≡ count
written_count counts i count read within is = is ∙ get_or-set_same counts i count read within

pub single_held : (frames : Frames) (number i : ℕ) → number ≡ i → owners_of frames i ≡ 1 → (owners_of frames number ≡ 1) × IsHeld frames number
single_held frames number i same single = let here : owners_of frames number ≡ 1 = ap (λ k. owners_of frames k) same ∙ single in (here, omega arith)
