-- Bytes that were appended to an output, part by part.
use Rattle.std.proofs.Common.{ℕ, ◌+◌, List, [], ◌++◌, take, drop, Option, Some, None, sym, ap, ◌∙◌, append_assoc, append-nil}
use Rattle.tp_stream_files.proofs.Lower.{take-add, Appends, Keeps}

-- nothing yet
pub none_appended : (was : Option (List ℕ)) → Appends was was []
none_appended None = tt
none_appended (Some xs) = sym (append-nil xs)

-- a part more
pub more_appended : (was then now : Option (List ℕ)) (bytes : List ℕ) (done count : ℕ) → Appends was then (take done bytes) → Appends then now (take count (drop done bytes))
    → Appends was now (take (done + count) bytes)
more_appended None then now bytes done count first second = tt
more_appended (Some xs) None now bytes done count first second = absurd first
more_appended (Some xs) (Some ys) None bytes done count first second = absurd second
more_appended (Some xs) (Some ys) (Some zs) bytes done count first second =
    second ∙ ap (λ front. front ++ take count (drop done bytes)) first ∙ append_assoc xs (take done bytes) (take count (drop done bytes))
    ∙ ap (λ part. xs ++ part) (sym (take-add done count bytes))

-- nothing more
pub kept_appended : (was then now : Option (List ℕ)) (bytes : List ℕ) → Appends was then bytes → Keeps then now → Appends was now bytes
kept_appended None then now bytes first kept = tt
kept_appended (Some xs) None now bytes first kept = absurd first
kept_appended (Some xs) (Some ys) None bytes first kept = absurd kept
kept_appended (Some xs) (Some ys) (Some zs) bytes first kept = kept ∙ first
