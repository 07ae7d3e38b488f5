-- How many bytes a port has accepted, by the entries.
use Rattle.std.proofs.Common.{◌≡◌, ℕ, ◌+◌, inl, inr, List, [], ◌++◌, length, refl, sym, ap, subst, ◌∙◌, arith, length-append, Some}
use Rattle.tp_law_processes.proofs.Lower.{get_or_past, get_or_from_slice_get, slice_get_cases, accepted, Entry, NodeState, t414, Network, Port, after, has_four_links, after_shape, fresh_value, port_or_fresh, bytes_in, bytes_in-append}
use Rattle.tp_law_processes.specs.Inputs.{TookIn, all_in}
use Rattle.tp_law_processes.proofs.Inputs.{after_absent, after_taken}

accepted_more : (more : List ℕ) (before later : Port) → TookIn more before later → accepted later ≡ accepted before + length more
accepted_more more before later T =
    let base = T.base in
    let both = sym (length-append before.pending more) ∙ ap length T.are ∙ length-append T.gone later.pending in
    omega (arith, base, both)

module _ (start s : Network NodeState) (es : List Entry) (leads : after t414 start es ≡ Some s) (p : ℕ) where
  -- the port that is there, or one at which nothing has happened
  took_in : TookIn (bytes_in p es) (port_or_fresh start p) (port_or_fresh s p)
  took_in = elim (slice_get_cases start.ports p).1 [
    | inl at ↦
        let T = after_taken t414 has_four_links start s es leads p at.0 at.2 in
        let was : port_or_fresh start p ≡ at.0 = get_or_from_slice_get start.ports p at.0 fresh_value.port at.2 in
        let now : port_or_fresh s p ≡ T.0 = get_or_from_slice_get s.ports p T.0 fresh_value.port T.1 in
        subst (λ a. TookIn (bytes_in p es) a (port_or_fresh s p)) (sym was) (subst (TookIn (bytes_in p es) at.0) (sym now) T.2)
    | inr past ↦
        let long = (after_shape t414 has_four_links start s es leads).ports in
        let was : port_or_fresh start p ≡ fresh_value.port = get_or_past start.ports p fresh_value.port past.0 in
        let here = past.0 in
        let now : port_or_fresh s p ≡ fresh_value.port = get_or_past s.ports p fresh_value.port (omega (arith, long, here)) in
        let none : bytes_in p es ≡ [] = after_absent t414 has_four_links start s es leads p past.0 in
        subst (λ a. TookIn (bytes_in p es) a (port_or_fresh s p)) (sym was)
        (subst (TookIn (bytes_in p es) fresh_value.port) (sym now)
        (subst (λ more. TookIn more fresh_value.port fresh_value.port) (sym none) (record { gone = []; base = omega arith; are = refl })))
  ]

  -- If no byte had arrived before the start, the port has accepted what was pending there, and then the bytes of the entries.
  pub accepted_is : (port_or_fresh start p).in_base ≡ 0 → accepted (port_or_fresh s p) ≡ length (all_in start p es)
  accepted_is none =
      let more = accepted_more (bytes_in p es) (port_or_fresh start p) (port_or_fresh s p) took_in in
      let all = length-append (port_or_fresh start p).pending (bytes_in p es) in
      omega (arith, more, all, none)

-- more entries hand in their bytes
pub accepted_then : (start : Network NodeState) (p : ℕ) (xs ys : List Entry) → length (all_in start p (xs ++ ys)) ≡ length (all_in start p xs) + length (bytes_in p ys)
accepted_then start p xs ys =
    let was = (port_or_fresh start p).pending in
    let both = ap length (bytes_in-append p xs ys) ∙ length-append (bytes_in p xs) (bytes_in p ys) in
    let first = length-append was (bytes_in p xs) in
    let all = length-append was (bytes_in p (xs ++ ys)) in
    omega (arith, both, first, all)

-- If two journals lead to one network, a port has accepted equally many bytes by both, and so with more entries after them.
pub accepted_alike : (start s : Network NodeState) (p : ℕ) → (port_or_fresh start p).in_base ≡ 0 → (xs ys more : List Entry) → after t414 start xs ≡ Some s → after t414 start ys ≡ Some s
    → length (all_in start p (xs ++ more)) ≡ length (all_in start p (ys ++ more))
accepted_alike start s p none xs ys more one other =
    let first = accepted_is start s xs one p none in
    let second = accepted_is start s ys other p none in
    let left = accepted_then start p xs more in
    let right = accepted_then start p ys more in
    omega (arith, first, second, left, right)
