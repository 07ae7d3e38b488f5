-- Markers that are sent one after another.
use Rattle.std.proofs.Common.{◌≡◌, ℕ, suc, ◌+◌, ◌*◌, ◌-◌, ◌<◌, [], ◌∷◌, ap, ◌∙◌, arith}
use Rattle.tp_book.proofs.Lower.{Marker, host_markers}

-- the ports that are left, if there is one
pub ports_left : (N ports done : ℕ) → done < ports → host_markers N (ports - done) ≡ (4 * N + (ports - 1 - done), Marker) ∷ host_markers N (ports - (done + 1))
ports_left N ports done below =
    let next : ports - done ≡ suc (ports - 1 - done) = omega arith in
    let rest : ports - 1 - done ≡ ports - (done + 1) = omega arith in
    ap (host_markers N) next ∙ ap (λ n. (4 * N + (ports - 1 - done), Marker) ∷ host_markers N n) rest
