-- Acts of a node one after another.
use Rattle.std.proofs.Common.{◌≡◌, ◌≢◌, ℕ, ◌+◌, List, [], ◌∷◌, ◌++◌, set, refl, sym, ap, subst, ◌∙◌, add-one, Some, slice_get, length}
use Rattle.tp_turn.proofs.Lower.{AllByRecursion, set-set, NodeState, ◌>>=◌, t414, process, MarkedNetwork, Act, Begin, Record, Journal, Close, Trim, happens, acted, bind_some, all_append, slice_get-set_other, NodeContents, set_back, BookValue, agreed, world_of, no_act}
use Rattle.tp_turn.specs.Books.{Grew}
use Rattle.tp_turn.specs.Turns.{Then, InOrder}
use Rattle.tp_turn.specs.Moments.{TurnMoment, IsNodeOf, entries_among, Added, Done}
use Rattle.tp_turn.proofs.Grown.{grew_none, grew_more}

-- ## Acts

pub acted_more : (w v u : MarkedNetwork NodeState) (first second : List Act) → acted t414 w first ≡ Some v → acted t414 v second ≡ Some u → acted t414 w (first ++ second) ≡ Some u
unfolding acted
acted_more w v u [] second one other = let same : w ≡ v = cc in subst (λ x. acted t414 x second ≡ Some u) (sym same) other
acted_more w v u (act ∷ first) second one other =
    let step = bind_some (happens t414 w act) (λ x. acted t414 x first) v one in
    ap (λ o. o >>= λ x. acted t414 x (first ++ second)) step.1 ∙ acted_more step.0 v u first second step.2 other

pub entries_more : (first second : List Act) → entries_among (first ++ second) ≡ entries_among first ++ entries_among second
entries_more [] second = refl
entries_more (Begin ∷ first) second = entries_more first second
entries_more (Record node ∷ first) second = entries_more first second
entries_more (Journal entry ∷ first) second = ap (λ es. entry ∷ es) (entries_more first second)
entries_more (Close line ∷ first) second = entries_more first second
entries_more (Trim ∷ first) second = entries_more first second

-- ## Added

pub added_none : (number : ℕ) (node : NodeState) (b : BookValue) → slice_get (agreed b.state) number ≡ Some node → Added number node [] b b
added_none number node b there = record {
  did = no_act (world_of b);
  grew = grew_none b;
  own = tt;
  nodes = sym (set_back (agreed b.state) number node there);
  recorded = λ other apart. refl;
  frozen = λ other apart. refl;
  marks = refl;
}

pub added_more : (number : ℕ) (node last : NodeState) (first second : List Act) (a b c : BookValue) → Added number node first a b → Added number last second b c → Added number last (first ++ second) a c
added_more number node last first second a b c A B = record {
  did = acted_more (world_of a) (world_of b) (world_of c) first second A.did B.did;
  grew = subst (λ es. Grew es a c) (sym (entries_more first second)) (grew_more (entries_among first) (entries_among second) a b c A.grew B.grew);
  own = subst (AllByRecursion (λ e. process a.state.start.wires (length a.state.start.nodes) e ≡ number)) (sym (entries_more first second))
      (all_append (λ e. process a.state.start.wires (length a.state.start.nodes) e ≡ number) (entries_among first) (entries_among second) A.own
      (subst (λ s. AllByRecursion (λ e. process s.wires (length s.nodes) e ≡ number) (entries_among second)) A.grew.start B.own));
  nodes = B.nodes ∙ ap (λ ns. set ns number last) A.nodes ∙ set-set (agreed a.state) number node last;
  recorded = λ other apart. B.recorded other apart ∙ A.recorded other apart;
  frozen = λ other apart. B.frozen other apart ∙ A.frozen other apart;
  marks = B.marks ∙ A.marks;
}

-- ## Parts of a turn

pub order_none : (number : ℕ) (part : ℕ → TurnMoment → List Act → TurnMoment → Type 0) (m : TurnMoment) → slice_get (agreed m.book.state) number ≡ Some m.node.live → Done number (InOrder part 0) m m
unfolding InOrder
order_none number part m there = record { acts = []; added = added_none number m.node.live m.book there; did = (refl, refl) }

pub then_more : (number : ℕ) (one other : TurnMoment → List Act → TurnMoment → Type 0) (a b c : TurnMoment) → Done number one a b → Done number other b c → Done number (Then one other) a c
then_more number one other a b c A B = record {
  acts = A.acts ++ B.acts;
  added = added_more number b.node.live c.node.live A.acts B.acts a.book b.book c.book A.added B.added;
  did = record { between = b; first = A.acts; second = B.acts; are = refl; one_did = A.did; other_did = B.did };
}

pub order_more : (number : ℕ) (part : ℕ → TurnMoment → List Act → TurnMoment → Type 0) (count : ℕ) (a b c : TurnMoment) → Done number (InOrder part count) a b → Done number (part count) b c → Done number (InOrder part (count + 1)) a c
unfolding InOrder
order_more number part count a b c A B =
    subst (λ n. Done number (InOrder part n) a c) (sym (add-one count)) (then_more number (InOrder part count) (part count) a b c A B)

-- ## Other nodes

pub others_stay : (number other : ℕ) (node : NodeState) (n : NodeContents) (acts : List Act) (a b : BookValue) → Added number node acts a b → other ≢ number → IsNodeOf a other n → IsNodeOf b other n
others_stay number other node n acts a b A apart N = record {
  there = ap (λ ns. slice_get ns other) A.nodes ∙ slice_get-set_other (agreed a.state) number other node apart ∙ N.there;
  image = N.image;
  recorded = λ some. A.recorded other apart ∙ N.recorded some;
  kept = λ here its h t. N.kept here its h (sym (A.frozen other apart) ∙ t);
}
