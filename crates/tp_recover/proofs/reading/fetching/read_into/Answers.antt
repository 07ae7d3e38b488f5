use Rattle.std.proofs.Common.{◌≡◌, ℕ, ◌≤◌, List, ◌++◌, length, take, arith}
use Rattle.std.proofs.lemmas.List.{take-append-le, take_all}
use Rattle.tp_recover.proofs.reading.fetching.read_into.Goals as goal

-- the front of as many items as there are
take-whole : (n : ℕ) (xs ys : List ℕ) → length xs ≡ n → take n (xs ++ ys) ≡ xs
take-whole n xs ys is = let inside : n ≤ length xs = omega arith in rw take-append-le (take_all n xs (omega arith))

pub returns-clause-bytes : goal.returns-clause-bytes
returns-clause-bytes g c k =
    let is_len : length c.read_front.new.bytes ≡ c.args.bytes.now.len = grind arith in
    rw (take-whole c.args.bytes.now.len c.read_front.new.bytes _ is_len) (c.read_front.ensures.bytes k)
