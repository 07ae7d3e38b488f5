-- What is read before a cut has a generation.
use Rattle.std.proofs.Common.{◌≡◌, ℕ, ◌<◌, List, subst, Ok}
use Rattle.std.specs.Prelude.{nat_lt, ◌==◌}
use Rattle.tp_recover.proofs.Lower.{and_parts, ltb-true, NUMBER_LIMIT, u32_at, only_if, generation_of, cut_length, form_of, has_front, front_in, Topology, CutFront, cut_front, front_given, bind_ok, or_damaged_ok, tested}

pub front_age : (t : Topology) (at : ℕ) (content : List ℕ) (front : CutFront) → front_given t at content ≡ Ok front → front.generation < NUMBER_LIMIT
front_age t at content front e =
    let F = bind_ok (front_in t at content) (λ form. Ok (cut_front content form)) front e in
    let there = (tested (λ form. has_front t content) (form_of content) F.0 (or_damaged_ok at (only_if (λ form. has_front t content) (form_of content)) F.0 F.1)).1 in
    let young = (and_parts (u32_at content 8 == cut_length t) (nat_lt (generation_of content) NUMBER_LIMIT) there).1 in
    let given : Ok (cut_front content F.0) ≡ Ok front = F.2 in
    let same : cut_front content F.0 ≡ front = cc in
    subst (λ (f : CutFront). f.generation < NUMBER_LIMIT) same (ltb-true (generation_of content) NUMBER_LIMIT young)
