-- What a port has accepted is what the host's entries handed to it.
use Rattle.std.proofs.Common.{◌≡◌, ℕ, ◌+◌, ◌<◌, ◌≤◌, cond, List, [], ◌∷◌, ◌++◌, length, ne_eqb, refl, sym, ap, subst, ◌∙◌, arith, append-nil, Option, Some}
use Rattle.std.specs.Prelude.{slice_get, ◌==◌, ◌&&◌, nat_lt, nat_le}
use Rattle.tp_law_processes.proofs.Lower.{cond_some, slice_get_within, Token, Data, Ack, Marker, WireEnd, Entry, Run, Take, HostIn, Confirm, Turn, Machine, Network, Port, Own, OfNode, OfHost, receiver, HasFourLinks, process, port_took, acked, in_flight, handed_in, confirmed, does, next, after, is_at, step_of, step_shape, own_host, port_step, first_possible, byte_in, bytes_in}
use Rattle.tp_law_processes.specs.Inputs.{TookIn}
use Rattle.tp_law_processes.proofs.Changes.{Becomes, Brings, after_holds, change_at, if_holds, none_holds, same_holds}
use Rattle.tp_law_processes.proofs.Queue.{moved_then, unmoved}

none : (port : Port) → TookIn [] port port
none port = unmoved port.in_base port.pending

took_taken : (token : Token) → Brings TookIn none (port_took token) []
took_taken (Data b) port later sends e = subst (λ r. TookIn [] port r.0) (cond_some _ _ (later, sends) e).1 (unmoved port.in_base port.pending)
took_taken Ack port later sends e = go port.pending refl e
  where
    go : (xs : List ℕ) → port.pending ≡ xs → acked xs port ≡ Some (later, sends) → TookIn [] port later
    go [] is e = cc
    go (x ∷ xs) is e =
        let same : ◌≡◌ {A = Port × List Token} (record port { pending = xs; in_base = port.in_base + 1 }, in_flight xs) (later, sends) = cc in
        subst (λ r. TookIn [] port r.0) same (record { gone = x ∷ []; base = omega arith; are = append-nil port.pending ∙ is })
took_taken Marker port later sends e = cc

handed_taken : (x : ℕ) → Brings TookIn none (handed_in x) (x ∷ [])
handed_taken x port later sends e = subst (λ r. TookIn (x ∷ []) port r.0) (cond_some _ _ (later, sends) e).1 (record { gone = []; base = omega arith; are = refl })

confirmed_taken : (upto : ℕ) → Brings TookIn none (confirmed upto) []
confirmed_taken upto port later sends e =
    let test = nat_lt port.out_base upto && nat_le upto (port.out_base + length port.outputs) in
    subst (λ r. TookIn [] port r.0) (cond_some test _ (later, sends) e).1 (unmoved port.in_base port.pending)

entry_taken : (p : ℕ) (wires : List (Option WireEnd)) (e : Entry) (before later : Port) → Becomes (change_at wires p e) before later → TookIn (byte_in p e) before later
entry_taken p wires (Run i k) before later B = same_holds TookIn none before later B
entry_taken p wires (Take line token) before later B = none_holds TookIn none (is_at p (receiver wires line)) (port_took token) (took_taken token) before later B
entry_taken p wires (HostIn q x) before later B = if_holds TookIn none (q == p) (handed_in x) (x ∷ []) (handed_taken x) before later B
entry_taken p wires (Confirm q upto) before later B = none_holds TookIn none (q == p) (confirmed upto) (confirmed_taken upto) before later B
entry_taken p wires (Turn i links k) before later B = same_holds TookIn none before later B

pub after_taken : {Node : Type 0} (M : Machine Node) → HasFourLinks M → (s t : Network Node) (es : List Entry) → after M s es ≡ Some t
    → (p : ℕ) (port : Port) → slice_get s.ports p ≡ Some port → (later : Port) × (slice_get t.ports p ≡ Some later) × TookIn (bytes_in p es) port later
after_taken M four s t es h p port at =
    after_holds TookIn none (λ one two a b c F G. moved_then one two a.in_base b.in_base c.in_base a.pending b.pending c.pending F G)
    p (λ wires e. byte_in p e) (entry_taken p) M four s t es h port at

-- ## A port that isn't there

host_there : {Node : Type 0} (M : Machine Node) (s : Network Node) (q x : ℕ) (was : Own Node) (r : Own Node × List (ℕ × Token)) → ((ports : List Port) → was ≡ OfHost ports → s.ports ≡ ports)
    → does M s.wires (length s.nodes) (HostIn q x) was ≡ Some r → q < length s.ports
unfolding does
host_there M s q x (OfNode node) r host e = cc
host_there M s q x (OfHost ports) r host e =
    let P = port_step (length s.nodes) q ports (handed_in x) r e in
    subst (λ ps. q < length ps) (sym (host ports refl)) (slice_get_within ports q P.port P.at)

entry_absent : {Node : Type 0} (M : Machine Node) (s : Network Node) (e : Entry) (t : Network Node) → next M s e ≡ Some t → (p : ℕ) → length s.ports ≤ p → byte_in p e ≡ []
entry_absent M s (Run i k) t h p past = refl
entry_absent M s (Take line token) t h p past = refl
entry_absent M s (HostIn q x) t h p past =
    let S = step_of M s (HostIn q x) t h in
    let there = host_there M s q x S.was (S.now, S.sends) (λ ports is. (own_host s (process s.wires (length s.nodes) (HostIn q x)) ports (S.own_was ∙ ap Some is)).1) S.change in
    ap (λ test. cond test (x ∷ []) []) (ne_eqb q p (λ same. absurd (omega (arith, there, past, same))))
entry_absent M s (Confirm q upto) t h p past = refl
entry_absent M s (Turn i links k) t h p past = refl

pub after_absent : {Node : Type 0} (M : Machine Node) → HasFourLinks M → (s t : Network Node) (es : List Entry) → after M s es ≡ Some t → (p : ℕ) → length s.ports ≤ p → bytes_in p es ≡ []
unfolding after
after_absent M four s t [] h p past = refl
after_absent M four s t (e ∷ es) h p past =
    let F = first_possible M s t e es h in
    let shape = (step_shape M four s e F.0 (step_of M s e F.0 F.1)).ports in
    ap (λ xs. xs ++ bytes_in p es) (entry_absent M s e F.0 F.1 p past) ∙ after_absent M four F.0 t es F.2 p (omega (arith, shape, past))
