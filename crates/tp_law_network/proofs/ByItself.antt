-- A process by itself, over entries that a network goes through. It goes on as it does in the network. What the network has on a line is
-- what came there, without what was taken.
use Rattle.std.proofs.Common.{◌≡◌, ◌≢◌, inl, inr, ℕ, ◌*◌, ◌/◌, ◌<◌, Bool, true, false, cond, List, [], ◌∷◌, ◌++◌, length, refl, sym, ap, subst, ◌∙◌, arith, append_assoc, append-nil, Some, eq-eqb, ne_eqb, slice_get}
use Rattle.tp_law_network.proofs.Lower.{cases_eq, cases_lt, lt-ltb, le-ltb, slice_get_cases, div_below, option_map, Token, Entry, ◌>>=◌, Machine, Network, Own, OfNode, OfHost, own, has_wire, on_line, for_line, sent, process, takes, does, next, HasFourLinks, after, owner}
use Rattle.tp_law_network.proofs.Partial.{bind_some}
use Rattle.tp_law_network.proofs.Lines.{for_line-append, for_line-elsewhere, on_taken, length_taken, on_sent}
use Rattle.tp_law_network.proofs.Local.{Step, SameShape, step_of, process_same, takes_same, step_sends, step_shape, step_lines, step_own_same, step_own_other, own-host, own-node}
use Rattle.tp_law_network.specs.ByItself.{AloneState, doing_all, doing}
use Rattle.tp_law_network.specs.Arrivals.{named}

-- what is sent on a line that has a wire
abbrev pub arriving : Bool → ℕ → List (ℕ × Token) → List Token
arriving on l ms = cond on (for_line l ms) []

arriving-append : (on : Bool) (l : ℕ) (ms ns : List (ℕ × Token)) → arriving on l (ms ++ ns) ≡ arriving on l ms ++ arriving on l ns
arriving-append true l ms ns = for_line-append l ms ns
arriving-append false l ms ns = refl

arriving-none : (on : Bool) (l : ℕ) (ms : List (ℕ × Token)) → for_line l ms ≡ [] → arriving on l ms ≡ []
arriving-none true l ms h = h
arriving-none false l ms h = refl

-- a process's own entry, and another's
pub doing-own : {Node : Type 0} (M : Machine Node) (s : Network Node) (p : ℕ) (a : AloneState Node) (e : Entry) → p ≡ process s.wires (length s.nodes) e
    → doing M s p a e ≡ (does M s.wires (length s.nodes) e a.0 >>= λ change. Some (change.0, a.1 ++ change.1))
doing-own M s p a e h = rw (eq-eqb p (process s.wires (length s.nodes) e) h)

doing-other : {Node : Type 0} (M : Machine Node) (s : Network Node) (p : ℕ) (a : AloneState Node) (e : Entry) → p ≢ process s.wires (length s.nodes) e → doing M s p a e ≡ Some a
doing-other M s p a e h = rw (ne_eqb p (process s.wires (length s.nodes) e) h)

-- a node of a number that is there
pub node_there : {Node : Type 0} (nodes : List Node) (i : ℕ) → i < length nodes → (n : Node) × (slice_get nodes i ≡ Some n)
node_there nodes i below = elim (slice_get_cases nodes i).1 [
  | inl y ↦ (y.0, y.2)
  | inr n ↦ (let past = n.0 in absurd (omega (arith, past, below)))
]

-- a process is in the network: each that sends a line is
pub owner_there : {Node : Type 0} (s : Network Node) (l : ℕ) → (x : Own Node) × (own s (owner (length s.nodes) l) ≡ Some x)
owner_there {Node} s l = elim (cases_lt l (4 * length s.nodes)) [
  | inl low ↦ (let of : owner (length s.nodes) l ≡ l / 4 = ap (λ b. cond b (l / 4) (length s.nodes)) (lt-ltb l (4 * length s.nodes) low) in
      let below : l / 4 < length s.nodes = div_below l 4 (length s.nodes) (omega arith) (omega (arith, low)) in
      let N = node_there s.nodes (l / 4) below in
      (OfNode N.0, ap (own s) of ∙ own-node s (l / 4) (λ e. omega (arith, e, below)) ∙ ap (option_map OfNode) N.1))
  | inr high ↦ (OfHost s.ports, ap (own s) (ap (λ b. cond b (l / 4) (length s.nodes)) (le-ltb l (4 * length s.nodes) high)) ∙ own-host s)
]

-- ## Over entries that the network goes through

-- The process goes on from `a` to `b`; on its lines, what was there and what it then sent is what was taken and what is there.
pub record GoesOn {Node : Type 0} (M : Machine Node) (s : Network Node) (p : ℕ) (a : AloneState Node) (t v : Network Node) (es : List Entry) : Type 0 where
  pub to : AloneState Node
  pub leads : doing_all M s p a es ≡ Some to
  pub stands : own v p ≡ Some to.0
  pub more : List (ℕ × Token)
  pub sent : to.1 ≡ a.1 ++ more
  pub lines : (l : ℕ) → owner (length s.nodes) l ≡ p → on_line t.lines l ++ arriving (has_wire s.wires l) l more ≡ named s l es ++ on_line v.lines l

module _ {Node : Type 0} (M : Machine Node) (four : HasFourLinks M) (s : Network Node) (there : (l : ℕ) → has_wire s.wires l ≡ true → l < length s.lines) (p : ℕ) where
  module _ (t u v : Network Node) (shape : SameShape s t) (e : Entry) (es : List Entry) (S : Step M t e u) where
    whose : process t.wires (length t.nodes) e ≡ process s.wires (length s.nodes) e
    whose = process_same s t shape.wires shape.nodes e

    -- a line after the entry, if the entry sent this on it
    behind : (l : ℕ) → on_line u.lines l ≡ on_line S.out l ++ arriving (has_wire s.wires l) l S.sends
    behind l =
        ap (λ ls. on_line ls l) (step_lines M four t e u S)
        ∙ ap (λ wires. on_line (sent (has_wire wires) S.out S.sends) l) shape.wires
        ∙ on_sent (has_wire s.wires) S.out S.sends l (λ y. subst (λ n. l < n) (sym (length_taken t.lines (takes t.wires (length t.nodes) e) S.out S.takes_out ∙ shape.lines)) (there l y))

    line_after : (l : ℕ) → on_line t.lines l ++ arriving (has_wire s.wires l) l S.sends ≡ for_line l (takes s.wires (length s.nodes) e) ++ on_line u.lines l
    line_after l =
        ap (λ ts. ts ++ arriving (has_wire s.wires l) l S.sends) (on_taken t.lines (takes t.wires (length t.nodes) e) S.out S.takes_out l)
        ∙ append_assoc (for_line l (takes t.wires (length t.nodes) e)) (on_line S.out l) (arriving (has_wire s.wires l) l S.sends)
        ∙ ap (λ ms. for_line l ms ++ (on_line S.out l ++ arriving (has_wire s.wires l) l S.sends)) (takes_same s t shape.wires shape.nodes e)
        ∙ ap (λ ts. for_line l (takes s.wires (length s.nodes) e) ++ ts) (sym (behind l))

    shape_after : SameShape s u
    shape_after =
        let one = step_shape M four t e u S in
        record { wires = one.wires ∙ shape.wires; nodes = one.nodes ∙ shape.nodes; ports = one.ports ∙ shape.ports; lines = one.lines ∙ shape.lines }

    -- a line that the process sends, if it then sends more
    line_further : (l : ℕ) (more : List (ℕ × Token)) → on_line u.lines l ++ arriving (has_wire s.wires l) l more ≡ named s l es ++ on_line v.lines l
        → on_line t.lines l ++ (arriving (has_wire s.wires l) l S.sends ++ arriving (has_wire s.wires l) l more) ≡ (for_line l (takes s.wires (length s.nodes) e) ++ named s l es) ++ on_line v.lines l
    line_further l more h =
        sym (append_assoc (on_line t.lines l) (arriving (has_wire s.wires l) l S.sends) (arriving (has_wire s.wires l) l more))
        ∙ ap (λ ts. ts ++ arriving (has_wire s.wires l) l more) (line_after l)
        ∙ append_assoc (for_line l (takes s.wires (length s.nodes) e)) (on_line u.lines l) (arriving (has_wire s.wires l) l more)
        ∙ ap (λ ts. for_line l (takes s.wires (length s.nodes) e) ++ ts) h
        ∙ sym (append_assoc (for_line l (takes s.wires (length s.nodes) e)) (named s l es) (on_line v.lines l))

    module _ (a : AloneState Node) (at : own t p ≡ Some a.0) where
      -- after one of its own entries
      abbrev done : AloneState Node
      done = (S.now, a.1 ++ S.sends)

      does_it : p ≡ process s.wires (length s.nodes) e → doing M s p a e ≡ Some done
      does_it same =
          let here : Some a.0 ≡ Some S.was = sym at ∙ ap (own t) (same ∙ sym whose) ∙ S.own_was in
          let was : a.0 ≡ S.was = cc in
          doing-own M s p a e same
          ∙ ap (λ x. does M s.wires (length s.nodes) e x >>= λ change. Some (change.0, a.1 ++ change.1)) was
          ∙ ap (λ wires. does M wires (length s.nodes) e S.was >>= λ change. Some (change.0, a.1 ++ change.1)) (sym shape.wires)
          ∙ ap (λ N. does M t.wires N e S.was >>= λ change. Some (change.0, a.1 ++ change.1)) (sym shape.nodes)
          ∙ ap (λ o. o >>= λ change. Some (change.0, a.1 ++ change.1)) S.change

      stands_done : p ≡ process s.wires (length s.nodes) e → own u p ≡ Some S.now
      stands_done same = ap (own u) (same ∙ sym whose) ∙ step_own_same M four t e u S

      further_own : p ≡ process s.wires (length s.nodes) e → GoesOn M s p done u v es → GoesOn M s p a t v (e ∷ es)
      unfolding doing_all named
      further_own same R = record {
        to = R.to;
        leads = ap (λ o. o >>= λ b. doing_all M s p b es) (does_it same) ∙ R.leads;
        stands = R.stands;
        more = S.sends ++ R.more;
        sent = R.sent ∙ append_assoc a.1 S.sends R.more;
        lines = λ l of. ap (λ ts. on_line t.lines l ++ ts) (arriving-append (has_wire s.wires l) l S.sends R.more) ∙ line_further l R.more (R.lines l of);
      }

      stands_same : p ≢ process s.wires (length s.nodes) e → own u p ≡ Some a.0
      stands_same apart = step_own_other M four t e u S p (λ same. apart (same ∙ whose)) ∙ at

      sends_none : p ≢ process s.wires (length s.nodes) e → (l : ℕ) → owner (length s.nodes) l ≡ p → arriving (has_wire s.wires l) l S.sends ≡ []
      sends_none apart l of = arriving-none (has_wire s.wires l) l S.sends
          (for_line-elsewhere (owner (length t.nodes)) (process t.wires (length t.nodes) e) l S.sends (step_sends M four t e u S)
          (λ same. apart (sym of ∙ ap (λ N. owner N l) (sym shape.nodes) ∙ same ∙ whose)))

      further_other : p ≢ process s.wires (length s.nodes) e → GoesOn M s p a u v es → GoesOn M s p a t v (e ∷ es)
      unfolding doing_all named
      further_other apart R = record {
        to = R.to;
        leads = ap (λ o. o >>= λ b. doing_all M s p b es) (doing-other M s p a e apart) ∙ R.leads;
        stands = R.stands;
        more = R.more;
        sent = R.sent;
        lines = λ l of. ap (λ ts. on_line t.lines l ++ (ts ++ arriving (has_wire s.wires l) l R.more)) (sym (sends_none apart l of)) ∙ line_further l R.more (R.lines l of);
      }

  pub goes_on : (a : AloneState Node) (t v : Network Node) → SameShape s t → own t p ≡ Some a.0 → (es : List Entry) → after M t es ≡ Some v → GoesOn M s p a t v es
  unfolding after doing_all named
  goes_on a t v shape at [] h =
      let same : t ≡ v = cc in
      record {
        to = a;
        leads = refl;
        stands = ap (λ (x : Network _). own x p) (sym same) ∙ at;
        more = [];
        sent = sym (append-nil a.1);
        lines = λ l of. ap (λ ts. on_line t.lines l ++ ts) (arriving-none (has_wire s.wires l) l [] refl) ∙ append-nil (on_line t.lines l) ∙ ap (λ (x : Network _). on_line x.lines l) same;
      }
  goes_on a t v shape at (e ∷ es) h =
      let F = bind_some (next M t e) (λ u. after M u es) v h in
      let S = step_of M t e F.0 F.1 in
      let on = shape_after t F.0 v shape e es S in
      elim (cases_eq p (process s.wires (length s.nodes) e)) [
        | inl same ↦ further_own t F.0 v shape e es S a at same (goes_on (S.now, a.1 ++ S.sends) F.0 v on (stands_done t F.0 v shape e es S a at same) es F.2)
        | inr apart ↦ further_other t F.0 v shape e es S a at apart (goes_on a F.0 v on (stands_same t F.0 v shape e es S a at apart) es F.2)
      ]
