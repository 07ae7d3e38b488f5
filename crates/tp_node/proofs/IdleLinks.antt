-- Ends that are one after the other in an image.
use Rattle.std.proofs.Common.{◌≡◌, ℕ, suc, ◌+◌, ◌-◌, ◌*◌, ◌<◌, Bool, true, List, drop, ap, ◌∙◌, arith}
use Rattle.std.specs.Prelude.{◌&&◌}
use Rattle.tp_node.proofs.Lower.{list_all, drop-drop, ends_at}

-- all are, if the first one is and those after it are
pub ends_step : {End : Type 0} (p : End → Bool) (read : List ℕ → End) (n place : ℕ) (bytes : List ℕ)
    → list_all p (ends_at read (suc n) (drop place bytes)) ≡ (p (read (drop place bytes)) && list_all p (ends_at read n (drop (place + 16) bytes)))
unfolding ends_at
ends_step p read n place bytes = ap (λ rest. p (read (drop place bytes)) && list_all p (ends_at read n rest)) (drop-drop 16 place bytes)

-- at the link that comes next of four
pub link_step : {End : Type 0} (p : End → Bool) (read : List ℕ → End) (first link : ℕ) (bytes : List ℕ) → link < 4
    → list_all p (ends_at read (4 - link) (drop (first + 16 * link) bytes)) ≡ (p (read (drop (first + 16 * link) bytes)) && list_all p (ends_at read (4 - (link + 1)) (drop (first + 16 * (link + 1)) bytes)))
link_step p read first link bytes h =
    let count : 4 - link ≡ suc (4 - (link + 1)) = omega arith in
    let place : first + 16 * link + 16 ≡ first + 16 * (link + 1) = omega arith in
    ap (λ n. list_all p (ends_at read n (drop (first + 16 * link) bytes))) count
    ∙ ends_step p read (4 - (link + 1)) (first + 16 * link) bytes
    ∙ ap (λ n. p (read (drop (first + 16 * link) bytes)) && list_all p (ends_at read (4 - (link + 1)) (drop n bytes))) place

-- after the last one
pub links_done : {End : Type 0} (p : End → Bool) (read : List ℕ → End) (n place : ℕ) (bytes : List ℕ) → n ≡ 0 → list_all p (ends_at read n (drop place bytes)) ≡ true
unfolding ends_at
links_done p read n place bytes e = ap (λ m. list_all p (ends_at read m (drop place bytes))) e
