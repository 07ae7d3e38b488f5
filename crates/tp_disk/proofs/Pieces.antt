-- Files that get room for a device: one piece more is written, and what is before stays.
use Rattle.std.proofs.Common.{◌≡◌, ℕ, ◌+◌, ◌-◌, ◌*◌, ◌≢◌, Bool, true, Result, Ok, Err, OnOk, OnErr, is_ok, List, [], ◌∷◌, ◌++◌, map, min, replicate, sym, ap, ◌∙◌, if◌then◌else◌, nat_eq, arith, append_assoc}
use Rattle.tp_disk.proofs.Lower.{nat_tests, append-nil, map-range_with_len_more, div_ceil, range_with_len, all_append}
use Rattle.tp_disk.specs.declared.filling.TheConstants.{PIECE}
use Rattle.tp_disk.specs.History.{FileCall, Resizes, Syncs, SyncsData, Writes}
use Rattle.tp_disk.specs.Filling.{CutBack, GoesOn, IsBehind, KeepsFront, clearing, filling, piece_at}

-- a piece more
pub piece_more : (at count number size : ℕ) (bytes : List ℕ) (old between new : List FileCall)
    → size ≡ min PIECE (count - number * PIECE) → bytes ≡ replicate size 0
    → between ≡ old ++ map (piece_at at count true) (range_with_len 0 number)
    → new ≡ between ++ Writes (at + number * PIECE) bytes true ∷ []
    → new ≡ old ++ map (piece_at at count true) (range_with_len 0 (number + 1))
piece_more at count number size bytes old between new is_size are_zeros so_far more =
    let f = piece_at at count true in
    let done = map f (range_with_len 0 number) in
    more ∙ ap (λ calls. calls ++ Writes (at + number * PIECE) bytes true ∷ []) so_far
    ∙ append_assoc old done (Writes (at + number * PIECE) bytes true ∷ [])
    ∙ ap (λ written. old ++ (done ++ Writes (at + number * PIECE) written true ∷ [])) (are_zeros ∙ ap (λ n. replicate n 0) is_size)
    ∙ ap (λ calls. old ++ calls) (sym (map-range_with_len_more f 0 number number (omega arith)))

-- no call
pub keeps_none : (place : ℕ) (old : List FileCall) → KeepsFront place old old
keeps_none place old = record { made = []; are = sym (append-nil old); behind = tt }

-- a call more that leaves it
pub keeps_more : (place : ℕ) (old between new : List FileCall) (call : FileCall)
    → KeepsFront place old between → IsBehind place call → new ≡ between ++ call ∷ [] → KeepsFront place old new
keeps_more place old between new call kept behind more = record {
  made = kept.made ++ call ∷ [];
  are = more ∙ ap (λ calls. calls ++ call ∷ []) kept.are ∙ append_assoc old kept.made (call ∷ []);
  behind = all_append (IsBehind place) kept.made (call ∷ []) kept.behind (behind, tt);
}

-- and then the old length
pub cut_back : (length : ℕ) (ok : Bool) (old between new : List FileCall)
    → KeepsFront length old between → new ≡ between ++ Resizes length ok ∷ [] → CutBack length old new
cut_back length ok old between new kept cut = record { before = between; ok = ok; kept = kept; cut = cut }

-- a call
pub goes_by_one : (old new : List FileCall) (call : FileCall) → new ≡ old ++ call ∷ [] → GoesOn old new
goes_by_one old new call made = record { made = call ∷ []; are = made }

-- a call more
pub goes_by_more : (old between new : List FileCall) (call : FileCall) → GoesOn old between → new ≡ between ++ call ∷ [] → GoesOn old new
goes_by_more old between new call goes more = record {
  made = goes.made ++ call ∷ [];
  are = more ∙ ap (λ calls. calls ++ call ∷ []) goes.are ∙ append_assoc old goes.made (call ∷ []);
}

-- calls more that leave what is before a place
pub goes_by_kept : (place : ℕ) (old between new : List FileCall) → GoesOn old between → KeepsFront place between new → GoesOn old new
goes_by_kept place old between new goes kept = record {
  made = goes.made ++ kept.made;
  are = kept.are ∙ ap (λ calls. calls ++ kept.made) goes.are ∙ append_assoc old goes.made kept.made;
}

-- what holds at either end of a call holds if it failed
pub on_err : {T E : Type 0} (result : Result T E) (P : Type 0) → P → OnErr result P
on_err (Ok value) P has = tt
on_err (Err error) P has = has

-- a sync more, if it succeeds
pub synced_more : {T E : Type 0} (result : Result T E) (old between new made : List FileCall)
    → between ≡ old ++ made → new ≡ between ++ Syncs (is_ok result) ∷ [] → OnOk result (new ≡ old ++ (made ++ Syncs true ∷ []))
synced_more (Ok value) old between new made so_far more =
    more ∙ ap (λ calls. calls ++ Syncs true ∷ []) so_far ∙ append_assoc old made (Syncs true ∷ [])
synced_more (Err error) old between new made so_far more = tt

-- all pieces, and a sync that succeeds
pub filled_by : {T E : Type 0} (result : Result T E) (at count number : ℕ) (old between new : List FileCall) → number ≡ div_ceil count PIECE
    → between ≡ old ++ map (piece_at at count true) (range_with_len 0 number) → new ≡ between ++ Syncs (is_ok result) ∷ []
    → OnOk result (new ≡ old ++ filling at count)
filled_by result at count number old between new is_all so_far more =
    let done = λ (n : ℕ). map (piece_at at count true) (range_with_len 0 n) in
    synced_more result old between new (done (div_ceil count PIECE)) (so_far ∙ ap (λ n. old ++ done n) is_all) more

-- a file that has bytes
else_of : (length : ℕ) (none some : List FileCall) → length ≢ 0 → (if nat_eq length 0 then none else some) ≡ some
else_of length none some has = grind (arith, nat_tests)

-- three calls and others
four_more : (old : List FileCall) (a b c : FileCall) (others : List FileCall) → (((old ++ a ∷ []) ++ b ∷ []) ++ c ∷ []) ++ others ≡ old ++ (a ∷ b ∷ c ∷ others)
four_more old a b c others = simp append_assoc

-- what it had is written over
pub cleared_by : (length size count : ℕ) (old wrote synced sized new : List FileCall) → length ≢ 0 → count ≡ min length size - 1
    → wrote ≡ old ++ Writes 0 (0 ∷ []) true ∷ [] → synced ≡ wrote ++ SyncsData true ∷ [] → sized ≡ synced ++ Resizes size true ∷ []
    → new ≡ sized ++ filling 1 count → new ≡ old ++ clearing length size
cleared_by length size count old wrote synced sized new has is_count writes syncs resizes fills =
    let rest = Writes 0 (0 ∷ []) true ∷ SyncsData true ∷ Resizes size true ∷ filling 1 (min length size - 1) in
    fills
    ∙ ap (λ calls. calls ++ filling 1 count) (resizes ∙ ap (λ calls. calls ++ Resizes size true ∷ []) (syncs ∙ ap (λ calls. calls ++ SyncsData true ∷ []) writes))
    ∙ four_more old (Writes 0 (0 ∷ []) true) (SyncsData true) (Resizes size true) (filling 1 count)
    ∙ ap (λ n. old ++ Writes 0 (0 ∷ []) true ∷ SyncsData true ∷ Resizes size true ∷ filling 1 n) is_count
    ∙ ap (λ calls. old ++ calls) (sym (else_of length [] rest has))
