-- What ports have accepted after acts.
use Rattle.std.proofs.Common.{◌≡◌, ℕ, ◌+◌, ◌<◌, false, List, [], ◌∷◌, ◌++◌, length, refl, sym, ap, subst, ◌∙◌, arith, length-append, Some, slice_get}
use Rattle.tp_shared.proofs.Lower.{AllByRecursion, true≢false, get_or_from_slice_get, slice_get-get_or, Act, Begin, Record, Journal, Close, Trim, acted, happens, next, Network, Port, t414, NodeState, after, is_trim, MarkedNetwork, Entry, has_four_links, bind_some, begin_parts, record_parts, close_parts, journal_parts, after_counted, after_shape, BookValue, world_of, port_in, accepted_of, entries_more, entries_among}
use Rattle.tp_shared.specs.Accepted.{HaveAccepted}
use Rattle.tp_shared.specs.BookActs.{Grown}
use Rattle.tp_shared.specs.BytesIn.{bytes_in}
use Rattle.tp_shared.proofs.BytesIn.{bytes_in-append, bytes_counted}

-- port p, if there is one, has accepted what entries hand to it
record Accepts (p : ℕ) (es : List Entry) (was now : List Port) : Type 0 where
  many : length now ≡ length was
  more : (port : Port) → slice_get was p ≡ Some port → (later : Port) × (slice_get now p ≡ Some later) × (accepted_of later ≡ accepted_of port + length (bytes_in p es))

accepts_none : (p : ℕ) (ports : List Port) → Accepts p [] ports ports
accepts_none p ports = record { many = refl; more = λ port at. (port, at, omega arith) }

accepts_then : (p : ℕ) (first second : List Entry) (was between now : List Port) → Accepts p first was between → Accepts p second between now → Accepts p (first ++ second) was now
accepts_then p first second was between now A B = record {
  many = B.many ∙ A.many;
  more = λ port at.
      let one = A.more port at in
      let other = B.more one.0 one.1 in
      let all = ap length (bytes_in-append p first second) ∙ length-append (bytes_in p first) (bytes_in p second) in
      (other.0, other.1, omega (arith, one.2, other.2, all));
}

entry_accepts : (p : ℕ) (e : Entry) (s t : Network NodeState) → next t414 s e ≡ Some t → Accepts p (e ∷ []) s.ports t.ports
unfolding after
entry_accepts p e s t h =
    let one : after t414 s (e ∷ []) ≡ Some t = rw h refl in
    record {
      many = (after_shape t414 has_four_links s t (e ∷ []) one).ports;
      more = λ port at.
          let found = after_counted t414 has_four_links s t (e ∷ []) one p port at in
          (found.0, found.1, omega (arith, found.2, bytes_counted p (e ∷ [])));
    }

act_accepts : (p : ℕ) (act : Act) (w v : MarkedNetwork NodeState) → is_trim act ≡ false → happens t414 w act ≡ Some v → Accepts p (entries_among (act ∷ [])) w.live.ports v.live.ports
unfolding happens
act_accepts p Begin w v none e = let P = begin_parts w v w.snapshot e in subst (λ u. Accepts p [] w.live.ports u.live.ports) P.1 (accepts_none p w.live.ports)
act_accepts p (Record i) w v none e = let P = record_parts w v w.snapshot i e in subst (λ u. Accepts p [] w.live.ports u.live.ports) P.4 (accepts_none p w.live.ports)
act_accepts p (Journal entry) w v none e =
    let P = journal_parts w v t414 entry e in
    subst (λ u. Accepts p (entry ∷ []) w.live.ports u.live.ports) P.2 (entry_accepts p entry w.live P.0 P.1)
act_accepts p (Close line) w v none e = let P = close_parts w v w.snapshot line e in subst (λ u. Accepts p [] w.live.ports u.live.ports) P.4 (accepts_none p w.live.ports)
act_accepts p Trim w v none e = absurd (true≢false none)

acted_accepts : (p : ℕ) (acts : List Act) (w v : MarkedNetwork NodeState) → AllByRecursion (λ act. is_trim act ≡ false) acts → acted t414 w acts ≡ Some v
    → Accepts p (entries_among acts) w.live.ports v.live.ports
unfolding acted
acted_accepts p [] w v none e = let is : w ≡ v = cc in subst (λ u. Accepts p [] w.live.ports u.live.ports) is (accepts_none p w.live.ports)
acted_accepts p (act ∷ acts) w v none e =
    let F = bind_some (happens t414 w act) (λ u. acted t414 u acts) v e in
    subst (λ es. Accepts p es w.live.ports v.live.ports) (sym (entries_more (act ∷ []) acts))
    (accepts_then p (entries_among (act ∷ [])) (entries_among acts) w.live.ports F.0.live.ports v.live.ports (act_accepts p act w F.0 none.0 F.1) (acted_accepts p acts F.0 v none.1 F.2))

-- ## A book that has grown

pub accepted_more : (Are : List Entry → Type 0) (b new : BookValue) (G : Grown Are b new) (accepted : ℕ → ℕ) (was now : List Entry) → now ≡ was ++ entries_among G.acts
    → HaveAccepted accepted was b → HaveAccepted accepted now new
accepted_more Are b new G accepted was now is have p below =
    let A = acted_accepts p G.acts (world_of b) (world_of new) G.none G.did in
    let low : p < length b.state.ports = let many = A.many in omega (arith, below, many) in
    let more = A.more (port_in b p) (slice_get-get_or b.state.ports p _ low) in
    let later : port_in new p ≡ more.0 = get_or_from_slice_get new.state.ports p more.0 _ more.1 in
    let old = have p low in
    let all = ap (λ es. length (bytes_in p es)) is ∙ ap length (bytes_in-append p was (entries_among G.acts)) ∙ length-append (bytes_in p was) (bytes_in p (entries_among G.acts)) in
    ap accepted_of later ∙ omega (arith, more.2, old, all)
