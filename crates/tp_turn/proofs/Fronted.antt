-- What a node does at the front of a line.
use Rattle.std.proofs.Common.{◌≡◌, ℕ, Bool, true, false, cond, List, [], ◌∷◌, set, get_or, refl, sym, ap, subst, ◌∙◌, Option, Some, None, slice_get, ◌+◌, length}
use Rattle.std.specs.Prelude.{not, IsSome}
use Rattle.tp_turn.proofs.Lower.{option_map, append-nil, Token, Data, Ack, Marker, Link, Take, NodeState, Network, receiver, on_line, is_first, sent, t414, took, on_link, process, is_marker, Snapshot, has_recorded, is_closed, with_closed, collected, Journal, Close, happens, IsNodeOfBytes, took_ranges, kept_behind, NodeContents, memory_kept, slice_get-set_same, set_back, has_recorded_in, BookValue, agreed, world_of, front_of, with_ready, after_take, TakeIsAgreed, after_close, one_act}
use Rattle.tp_turn.specs.Books.{Grew}
use Rattle.tp_turn.specs.Moments.{moment_of, IsNodeOf, Added, Done}
use Rattle.tp_turn.specs.Fronts.{front_act, AtFront}

-- ## What is at the front

pub front_takes : (line : ℕ) (token : Token) → is_marker token ≡ false → front_act line token ≡ Journal (Take line token)
front_takes line (Data byte) plainly = refl
front_takes line Ack plainly = refl
front_takes line Marker plainly = cc

pub front_marker : (ts : List Token) → is_first ts Marker ≡ true → get_or ts 0 Marker ≡ Marker
front_marker [] e = cc
front_marker (Data byte ∷ ts) e = cc
front_marker (Ack ∷ ts) e = cc
front_marker (Marker ∷ ts) e = refl

-- a Marker is written nowhere
marker_ranges : (node : NodeState) (link : ℕ) (token : Token) → token ≡ Marker → took_ranges node link token ≡ []
unfolding took_ranges
marker_ranges node link token is = rw is refl

-- ## The node of a book

-- each process that has recorded still has
pub collected_recorded : (given : Option Snapshot) (q p : ℕ) (ms : List (ℕ × Token)) → has_recorded_in (option_map (collected q ms) given) p ≡ has_recorded_in given p
collected_recorded None q p ms = refl
collected_recorded (Some snap) q p ms = go (has_recorded snap q)
  where
    go : (b : Bool) → has_recorded (cond b (record snap { lines = sent (λ line. not (is_closed snap line)) snap.lines ms }) (record snap { size = snap.size + 1 })) p ≡ has_recorded snap p
    go true = refl
    go false = refl

pub closed_recorded : (given : Option Snapshot) (line p : ℕ) → has_recorded_in (option_map (λ snap. with_closed snap line) given) p ≡ has_recorded_in given p
closed_recorded None line p = refl
closed_recorded (Some snap) line p = refl

-- a node whose snapshot and frozen image stay
pub node_stays : (a b : BookValue) (number : ℕ) (n m : NodeContents) → IsNodeOf a number n → slice_get (agreed b.state) number ≡ Some m.live → IsNodeOfBytes m.live
    → m.frozen ≡ n.frozen → has_recorded_in b.state.snapshot number ≡ has_recorded_in a.state.snapshot number → b.frozen ≡ a.frozen → IsNodeOf b number m
node_stays a b number n m N there image same stays frozen = record {
  there = there;
  image = image;
  recorded = λ some. stays ∙ N.recorded (subst IsSome same some);
  kept = λ here its h t. N.kept here its (sym same ∙ h) (ap (λ xs. get_or xs number None) (sym frozen) ∙ t);
}

-- ## A token is taken

take_own : (s : Network NodeState) (line number link : ℕ) (token : Token) → receiver s.wires line ≡ Some (Link number link) → process s.wires (length s.nodes) (Take line token) ≡ number
unfolding process
take_own s line number link token goes = rw goes refl

module _ (b r new : BookValue) (line number link : ℕ) (n m : NodeContents) (answer : Option Token) (is_ready : r ≡ with_ready b line) (is_new : new ≡ after_take r line answer)
    (goes : receiver b.state.start.wires line ≡ Some (Link number link)) (idle : b.ready ≡ None) (N : IsNodeOf b number n)
    (did : took n.live link (front_of b line) ≡ Some (m.live, on_link link answer)) (agrees : TakeIsAgreed r new line answer)
    (act : happens t414 (world_of r) (Journal (Take line (front_of r line))) ≡ Some (world_of new)) (same : m.frozen ≡ n.frozen) where
  is_after : new ≡ after_take (with_ready b line) line answer
  is_after = is_new ∙ ap (λ x. after_take x line answer) is_ready

  nodes : agreed new.state ≡ set (agreed b.state) number m.live
  nodes =
      agrees number link n.live m.live
      (subst (λ x. receiver x.state.start.wires line ≡ Some (Link number link)) (sym is_ready) goes)
      (subst (λ x. slice_get (agreed x.state) number ≡ Some n.live) (sym is_ready) N.there)
      (subst (λ x. took n.live link (front_of x line) ≡ Some (m.live, on_link link answer)) (sym is_ready) did)
      ∙ ap (λ x. set (agreed x.state) number m.live) is_ready

  added : Added number m.live (Journal (Take line (front_of b line)) ∷ []) b new
  added = record {
    did = one_act (world_of b) (world_of new) (Journal (Take line (front_of b line)))
        (subst (λ x. happens t414 (world_of x) (Journal (Take line (front_of x line))) ≡ Some (world_of new)) is_ready act);
    grew = subst (Grew (Take line (front_of b line) ∷ []) b) (sym is_after)
        (record { start = refl; entries_are = refl; numbers = refl; base = refl; runs = refl; ready = sym idle; broken = refl; room = refl; history = refl; generation = refl; floor = refl; form = refl });
    own = (take_own b.state.start line number link (front_of b line) goes, tt);
    nodes = nodes;
    recorded = λ other apart. ap (λ x. has_recorded_in x.state.snapshot other) is_after ∙ collected_recorded b.state.snapshot _ other _;
    frozen = λ other apart. ap (λ x. get_or x.frozen other None) is_after;
    marks = ap (λ x. x.marks) is_after;
  }

  pub taken_done : is_marker (front_of b line) ≡ false → memory_kept m ≡ kept_behind (memory_kept n) (took_ranges n.live link (front_of b line)) → Done number (AtFront number line) (moment_of b n) (moment_of new m)
  taken_done plainly shared = record {
    acts = Journal (Take line (front_of b line)) ∷ [];
    added = added;
    did = record { are = ap (λ a. a ∷ []) (sym (front_takes line (front_of b line) plainly)); added = added; kept = same; link = link; goes = goes; shared = shared };
  }

  pub taken_is : IsNodeOfBytes m.live → IsNodeOf new number m
  taken_is image =
      node_stays b new number n m N (ap (λ ns. slice_get ns number) nodes ∙ slice_get-set_same (agreed b.state) number m.live n.live N.there) image same
      (ap (λ x. has_recorded_in x.state.snapshot number) is_after ∙ collected_recorded b.state.snapshot _ number _)
      (ap (λ x. x.frozen) is_after)

-- ## A line is closed

pub close_agreed : (b : BookValue) (line : ℕ) → agreed (after_close b line).state ≡ agreed b.state
unfolding agreed
close_agreed b line = refl

module _ (b new : BookValue) (line number : ℕ) (n : NodeContents) (is : new ≡ after_close b line) (N : IsNodeOf b number n) where
  closed_nodes : agreed new.state ≡ agreed b.state
  closed_nodes = ap (λ x. agreed x.state) is ∙ close_agreed b line

  pub closed_added : happens t414 (world_of b) (Close line) ≡ Some (world_of new) → Added number n.live (Close line ∷ []) b new
  closed_added act = record {
    did = one_act (world_of b) (world_of new) (Close line) act;
    grew = subst (Grew [] b) (sym is)
        (record { start = refl; entries_are = sym (append-nil b.state.entries); numbers = sym (append-nil b.numbers); base = refl; runs = refl; ready = refl; broken = refl; room = refl; history = sym (append-nil b.history); generation = refl; floor = refl; form = refl });
    own = tt;
    nodes = closed_nodes ∙ sym (set_back (agreed b.state) number n.live N.there);
    recorded = λ other apart. ap (λ x. has_recorded_in x.state.snapshot other) is ∙ closed_recorded b.state.snapshot line other;
    frozen = λ other apart. ap (λ x. get_or x.frozen other None) is;
    marks = ap (λ x. x.marks) is;
  }

  pub closed_done : (link : ℕ) → receiver b.state.start.wires line ≡ Some (Link number link) → is_first (on_line b.state.lines line) Marker ≡ true → happens t414 (world_of b) (Close line) ≡ Some (world_of new)
      → Done number (AtFront number line) (moment_of b n) (moment_of new n)
  closed_done link goes first act = record {
    acts = Close line ∷ [];
    added = closed_added act;
    did = record {
      are = ap (λ token. front_act line token ∷ []) (sym (front_marker (on_line b.state.lines line) first));
      added = closed_added act;
      kept = refl;
      link = link;
      goes = goes;
      shared = ap (kept_behind (memory_kept n)) (sym (marker_ranges n.live link (front_of b line) (front_marker (on_line b.state.lines line) first)));
    };
  }

  pub closed_is : IsNodeOf new number n
  closed_is =
      node_stays b new number n n N (ap (λ ns. slice_get ns number) closed_nodes ∙ N.there) N.image refl
      (ap (λ x. has_recorded_in x.state.snapshot number) is ∙ closed_recorded b.state.snapshot line number)
      (ap (λ x. x.frozen) is)
