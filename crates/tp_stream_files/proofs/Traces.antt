-- What a list of calls comes to, once a call more was made.
use Rattle.std.proofs.Common.{◌≡◌, ◌≤◌, ◌-◌, take, drop, arith, ℕ, ◌+◌, Bool, true, false, ◌||◌, List, [], ◌∷◌, ◌++◌, length, refl, sym, ap, ◌∙◌, append_assoc, append-nil, length-append}
use Rattle.tp_stream_files.proofs.Lower.{drop-append_seam, drop_all, drop-drop, drop-take, length-take-le, take-append-le, take-take}
use Rattle.tp_stream_files.specs.Told.{EndTold, Opened, SyncedFolder, Measured, MeasureFailed, HasRead, ReadFailed, Wrote, Synced, Gave, GiveFailed}
use Rattle.tp_stream_files.specs.Trace.{bytes_given, is_none, says_end, says_failed, GrewAlike}

-- ## A file's length

-- ## The bytes of a feed

pub bytes_of-append : (calls more : List EndTold) → bytes_given (calls ++ more) ≡ bytes_given calls ++ bytes_given more
bytes_of-append [] more = refl
bytes_of-append (Gave bytes ∷ calls) more = ap (λ rest. bytes ++ rest) (bytes_of-append calls more) ∙ sym (append_assoc bytes (bytes_given calls) (bytes_given more))
bytes_of-append (Opened how path ok ∷ calls) more = bytes_of-append calls more
bytes_of-append (SyncedFolder path ok ∷ calls) more = bytes_of-append calls more
bytes_of-append (Measured size ∷ calls) more = bytes_of-append calls more
bytes_of-append (MeasureFailed ∷ calls) more = bytes_of-append calls more
bytes_of-append (HasRead at came ∷ calls) more = bytes_of-append calls more
bytes_of-append (ReadFailed at ∷ calls) more = bytes_of-append calls more
bytes_of-append (Wrote at bytes ok ∷ calls) more = bytes_of-append calls more
bytes_of-append (Synced ok ∷ calls) more = bytes_of-append calls more
bytes_of-append (GiveFailed ∷ calls) more = bytes_of-append calls more

pub bytes_of_gave : (calls : List EndTold) (bytes : List ℕ) → bytes_given (calls ++ Gave bytes ∷ []) ≡ bytes_given calls ++ bytes
bytes_of_gave calls bytes = bytes_of-append calls (Gave bytes ∷ []) ∙ ap (λ rest. bytes_given calls ++ rest) (append-nil bytes)

pub bytes_of_failed : (calls : List EndTold) → bytes_given (calls ++ GiveFailed ∷ []) ≡ bytes_given calls
bytes_of_failed calls = bytes_of-append calls (GiveFailed ∷ []) ∙ append-nil (bytes_given calls)

-- ## Its end

or_assoc : (a b c : Bool) → (a || b) || c ≡ a || (b || c)
or_assoc true b c = refl
or_assoc false b c = refl

or_false : (a : Bool) → a || false ≡ a
or_false true = refl
or_false false = refl

pub says_end-append : (calls more : List EndTold) → says_end (calls ++ more) ≡ says_end calls || says_end more
says_end-append [] more = refl
says_end-append (Gave bytes ∷ calls) more =
    ap (λ rest. is_none bytes || rest) (says_end-append calls more) ∙ sym (or_assoc (is_none bytes) (says_end calls) (says_end more))
says_end-append (Opened how path ok ∷ calls) more = says_end-append calls more
says_end-append (SyncedFolder path ok ∷ calls) more = says_end-append calls more
says_end-append (Measured size ∷ calls) more = says_end-append calls more
says_end-append (MeasureFailed ∷ calls) more = says_end-append calls more
says_end-append (HasRead at came ∷ calls) more = says_end-append calls more
says_end-append (ReadFailed at ∷ calls) more = says_end-append calls more
says_end-append (Wrote at bytes ok ∷ calls) more = says_end-append calls more
says_end-append (Synced ok ∷ calls) more = says_end-append calls more
says_end-append (GiveFailed ∷ calls) more = says_end-append calls more

pub says_end_gave : (calls : List EndTold) (bytes : List ℕ) → says_end (calls ++ Gave bytes ∷ []) ≡ says_end calls || is_none bytes
says_end_gave calls bytes = says_end-append calls (Gave bytes ∷ []) ∙ ap (λ last. says_end calls || last) (or_false (is_none bytes))

pub says_end_failed : (calls : List EndTold) → says_end (calls ++ GiveFailed ∷ []) ≡ says_end calls
says_end_failed calls = says_end-append calls (GiveFailed ∷ []) ∙ or_false (says_end calls)

-- ## Its failures

pub says_failed-append : (calls more : List EndTold) → says_failed (calls ++ more) ≡ says_failed calls || says_failed more
says_failed-append [] more = refl
says_failed-append (GiveFailed ∷ calls) more = refl
says_failed-append (Gave bytes ∷ calls) more = says_failed-append calls more
says_failed-append (Opened how path ok ∷ calls) more = says_failed-append calls more
says_failed-append (SyncedFolder path ok ∷ calls) more = says_failed-append calls more
says_failed-append (Measured size ∷ calls) more = says_failed-append calls more
says_failed-append (MeasureFailed ∷ calls) more = says_failed-append calls more
says_failed-append (HasRead at came ∷ calls) more = says_failed-append calls more
says_failed-append (ReadFailed at ∷ calls) more = says_failed-append calls more
says_failed-append (Wrote at bytes ok ∷ calls) more = says_failed-append calls more
says_failed-append (Synced ok ∷ calls) more = says_failed-append calls more

pub says_failed_gave : (calls : List EndTold) (bytes : List ℕ) → says_failed (calls ++ Gave bytes ∷ []) ≡ says_failed calls
says_failed_gave calls bytes = says_failed-append calls (Gave bytes ∷ []) ∙ or_false (says_failed calls)

-- ## Two lists

pub grew_none : (one other : List EndTold) → GrewAlike one one other other
grew_none one other = ([], sym (append-nil one), sym (append-nil other))

pub grew_more : (one one' one'' other other' other'' : List EndTold) → GrewAlike one one' other other' → GrewAlike one' one'' other' other'' → GrewAlike one one'' other other''
grew_more one one' one'' other other' other'' (calls, is, is') (more, then, then') =
    (calls ++ more, then ∙ ap (λ front. front ++ more) is ∙ append_assoc one calls more, then' ∙ ap (λ front. front ++ more) is' ∙ append_assoc other calls more)

-- ## The bytes that are kept

-- the bytes after all that came before are those that came last
pub behind_bytes : (calls : List EndTold) (bytes : List ℕ) (behind : ℕ) → behind ≡ length (bytes_given calls) → bytes ≡ drop behind (bytes_given (calls ++ Gave bytes ∷ []))
behind_bytes calls bytes behind is = sym (rw (bytes_of_gave calls bytes) (rw is (drop-append_seam (bytes_given calls) bytes)))

pub behind_length : (calls : List EndTold) (bytes : List ℕ) (behind : ℕ) → behind ≡ length (bytes_given calls) → behind + length bytes ≡ length (bytes_given (calls ++ Gave bytes ∷ []))
behind_length calls bytes behind is = let all = ap length (bytes_of_gave calls bytes) ∙ length-append (bytes_given calls) bytes in omega (arith, is, all)

-- after all that came before nothing is kept yet
pub none_behind : (calls : List EndTold) (kept : List ℕ) (behind : ℕ) → behind ≡ length (bytes_given calls) → take 0 kept ≡ drop behind (bytes_given calls)
none_behind calls kept behind is = sym (rw is (drop_all (length (bytes_given calls)) (bytes_given calls) (omega arith)))

-- the end was said before, or just now
pub end_before : (calls : List EndTold) (bytes : List ℕ) → says_end calls ≡ true → says_end (calls ++ Gave bytes ∷ []) ≡ true
end_before calls bytes was = says_end_gave calls bytes ∙ ap (λ said. said || is_none bytes) was

pub end_now : (calls : List EndTold) (bytes : List ℕ) → bytes ≡ [] → says_end (calls ++ Gave bytes ∷ []) ≡ true
end_now calls bytes none = says_end_gave calls bytes ∙ ap (λ bytes. says_end calls || is_none bytes) none ∙ or_true (says_end calls)
  where
    or_true : (a : Bool) → a || true ≡ true
    or_true true = refl
    or_true false = refl

-- bytes that are copied out of those that are kept are those of the feed
pub copied : (kept all new rest mid : List ℕ) (from count at n : ℕ) → take count kept ≡ drop from all → from ≤ at → at - from ≤ count
    → mid ≡ take (count - (at - from)) (drop (at - from) kept) → n ≤ length mid → new ≡ take n mid → take n (new ++ rest) ≡ take n (drop at all)
copied kept all new rest mid from count at n is low within part few new_is =
    let place = at - from in
    let there : place + (count - place) ≡ count = omega arith in
    let behind : drop at all ≡ mid =
    ap (λ k. drop k all) (omega arith) ∙ sym (drop-drop place from all) ∙ ap (drop place) (sym is)
    ∙ ap (λ k. drop place (take k kept)) (sym there) ∙ drop-take place (count - place) kept ∙ sym part in
    let long : n ≤ length new = let size = ap length new_is in let taken = length-take-le n mid few in omega (arith, size, taken) in
    take-append-le n new rest long ∙ ap (take n) new_is ∙ take-take n n mid (omega arith) ∙ ap (take n) (sym behind)
