-- Two entries of different processes, both possible, may come in either order.
use Rattle.std.proofs.Common.{◌≡◌, ◌≢◌, ℕ, List, length, refl, sym, ap, ◌∙◌, Some}
use Rattle.tp_law_network.proofs.Lower.{set_comm, Token, Entry, Machine, Network, Port, Own, OfNode, OfHost, own, put, has_wire, taken, sent, process, takes, does, next, HasFourLinks, AreIndependent, owner, taker}
use Rattle.tp_law_network.proofs.Lines.{taken-sent, taken_both, sent-swap}
use Rattle.tp_law_network.proofs.Local.{Step, AreAlike, SameShape, step_of, next_from, own_host, own-lines, process_kept, takes_same, step_takes, step_alike, step_sends, step_shape, step_own_other, step_lines}

-- lines that are set before a state is put, and after
put-relined : {Node : Type 0} (s : Network Node) (p q : ℕ) (y z : Own Node) (ks ls : List (List Token))
    → put (record (put (record s { lines = ks }) p y) { lines = ls }) q z ≡ put (put (record s { lines = ls }) p y) q z
unfolding put
put-relined s p q (OfNode n) z ks ls = refl
put-relined s p q (OfHost ports) z ks ls = refl

-- a host's state is put at the host alone
host_at : {Node : Type 0} (s : Network Node) (p : ℕ) (x : Own Node) (ports : List Port) → own s p ≡ Some x → AreAlike x (OfHost ports) → p ≡ length s.nodes
host_at s p (OfNode n) ports a alike = absurd alike
host_at s p (OfHost others) ports a alike = (own_host s p others a).0

-- states of two processes, put in either order
pub put-put : {Node : Type 0} (s : Network Node) (p q : ℕ) (x y w z : Own Node) → p ≢ q → own s p ≡ Some x → own s q ≡ Some w → AreAlike x y → AreAlike w z
    → put (put s p y) q z ≡ put (put s q z) p y
unfolding put
put-put s p q x (OfNode n) w (OfNode m) apart a b alike also = ap (λ nodes. record s { nodes = nodes }) (set_comm s.nodes p q n m apart)
put-put s p q x (OfNode n) w (OfHost ports) apart a b alike also = refl
put-put s p q x (OfHost ports) w (OfNode m) apart a b alike also = refl
put-put s p q x (OfHost ports) w (OfHost others) apart a b alike also = absurd (apart (host_at s p x ports a alike ∙ sym (host_at s q w others b also)))

module _ {Node : Type 0} (M : Machine Node) (four : HasFourLinks M) (s : Network Node) where
  -- the network after e and f, from the parts of both at s and what their takes leave of the lines
  abbrev after_both : (e f : Entry) (a b : Network Node) → Step M s e a → Step M s f b → List (List Token) → Network Node
  after_both e f a b S T both =
      put (put (record s { lines = sent (has_wire s.wires) (sent (has_wire s.wires) both S.sends) T.sends }) (process s.wires (length s.nodes) e) S.now) (process s.wires (length s.nodes) f) T.now

  -- f does after e what it does at s
  second : (e f : Entry) (a b : Network Node) (S : Step M s e a) (T : Step M s f b) (both : List (List Token)) → process s.wires (length s.nodes) e ≢ process s.wires (length s.nodes) f
      → taken S.out (takes s.wires (length s.nodes) f) ≡ Some both → next M a f ≡ Some (after_both e f a b S T both)
  second e f a b S T both apart there = next_from M a f (after_both e f a b S T both) (record {
    out = sent (has_wire s.wires) both S.sends;
    takes_out = ap (λ lines. taken lines (takes a.wires (length a.nodes) f)) (step_lines M four s e a S) ∙ ap (λ ms. taken (sent (has_wire s.wires) S.out S.sends) ms) (takes_same s a shape.wires shape.nodes f)
        ∙ taken-sent (has_wire s.wires) S.out (takes s.wires (length s.nodes) f) S.sends both there;
    was = T.was;
    own_was = ap (own a) whose ∙ step_own_other M four s e a S (process s.wires (length s.nodes) f) (λ h. apart (sym h)) ∙ T.own_was;
    now = T.now;
    sends = T.sends;
    change = ap (λ wires. does M wires (length a.nodes) f T.was) shape.wires ∙ ap (λ N. does M s.wires N f T.was) shape.nodes ∙ T.change;
    makes = ap (λ wires. put (record a { lines = sent (has_wire wires) (sent (has_wire s.wires) both S.sends) T.sends }) (process a.wires (length a.nodes) f) T.now) shape.wires
        ∙ ap (λ q. put (record a { lines = sent (has_wire s.wires) (sent (has_wire s.wires) both S.sends) T.sends }) q T.now) whose
        ∙ ap (λ u. put (record u { lines = sent (has_wire s.wires) (sent (has_wire s.wires) both S.sends) T.sends }) (process s.wires (length s.nodes) f) T.now) (sym S.makes)
        ∙ put-relined s (process s.wires (length s.nodes) e) (process s.wires (length s.nodes) f) S.now T.now (sent (has_wire s.wires) S.out S.sends) (sent (has_wire s.wires) (sent (has_wire s.wires) both S.sends) T.sends);
  })
    where
      shape : SameShape s a
      shape = step_shape M four s e a S

      whose : process a.wires (length a.nodes) f ≡ process s.wires (length s.nodes) f
      whose = process_kept s a shape f

  -- Two entries of different processes that are both possible: each is possible after the other, and both orders lead to one network.
  pub diamond : (e f : Entry) (a b : Network Node) → next M s e ≡ Some a → next M s f ≡ Some b → process s.wires (length s.nodes) e ≢ process s.wires (length s.nodes) f
      → (c : Network Node) × (next M a f ≡ Some c) × (next M b e ≡ Some c)
  diamond e f a b h i apart =
      let S = step_of M s e a h in
      let T = step_of M s f b i in
      let B = taken_both (taker s) (process s.wires (length s.nodes) e) (process s.wires (length s.nodes) f) s.lines (takes s.wires (length s.nodes) e) (takes s.wires (length s.nodes) f) S.out T.out apart (step_takes M four s e a S) (step_takes M four s f b T) S.takes_out T.takes_out in (
        after_both e f a b S T B.0,
        second e f a b S T B.0 apart B.1,
        second f e b a T S B.0 (λ x. apart (sym x)) B.2 ∙ ap Some (sym (same e f a b S T B.0 apart)),
      )
    where
      same : (e f : Entry) (a b : Network Node) (S : Step M s e a) (T : Step M s f b) (both : List (List Token)) → process s.wires (length s.nodes) e ≢ process s.wires (length s.nodes) f
          → after_both e f a b S T both ≡ after_both f e b a T S both
      same e f a b S T both apart =
          ap (λ lines. put (put (record s { lines = lines }) (process s.wires (length s.nodes) e) S.now) (process s.wires (length s.nodes) f) T.now)
          (sent-swap (has_wire s.wires) (owner (length s.nodes)) (process s.wires (length s.nodes) e) (process s.wires (length s.nodes) f) both S.sends T.sends apart (step_sends M four s e a S) (step_sends M four s f b T))
          ∙ put-put (record s { lines = sent (has_wire s.wires) (sent (has_wire s.wires) both T.sends) S.sends }) (process s.wires (length s.nodes) e) (process s.wires (length s.nodes) f) S.was S.now T.was T.now apart
          (own-lines s _ (process s.wires (length s.nodes) e) ∙ S.own_was) (own-lines s _ (process s.wires (length s.nodes) f) ∙ T.own_was) (step_alike M four s e a S) (step_alike M four s f b T)

  -- Two neighbours that are independent may be swapped, and lead to one network.
  pub swaps_agree : (e f : Entry) (i : AreIndependent M s e f) → (next M s f ≡ Some i.other) × (next M i.other e ≡ Some i.last)
  swaps_agree e f i =
      let D = diamond e f i.between i.other i.e_first i.f_already i.apart in
      (i.f_already, D.2 ∙ sym D.1 ∙ i.f_then)
