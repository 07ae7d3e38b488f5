-- What nodes received for open turns stays at the front of their lines, if only entries of others are made.
use Rattle.std.proofs.Common.{◌≡◌, ◌≢◌, ℕ, List, length, refl, sym, subst, ◌∙◌, Option, Some, None, slice_get}
use Rattle.tp_shared.proofs.Lower.{AllByRecursion, Entry, Turns, Received, NodeState, t414, Network, process, after, BookState, Act, acted, IsNotOf, has_four_links, after_shape, BookValue, agreed, nodes_in, world_of, entries_among, not_of, received_stays}
use Rattle.tp_shared.specs.Seals.{AreWaiting}

many_after : (s : Network NodeState) (es : List Entry) (given : Option (Network NodeState)) → after t414 s es ≡ given → (i : ℕ) (n : NodeState) → slice_get (nodes_in given) i ≡ Some n → length (nodes_in given) ≡ length s.nodes
many_after s es None e i n at = cc
many_after s es (Some t) e i n at = (after_shape t414 has_four_links s t es e).nodes

-- if a node is agreed on, there are as many as the kept cut has
pub agreed_many : (b : BookState NodeState) (i : ℕ) (n : NodeState) → slice_get (agreed b) i ≡ Some n → length (agreed b) ≡ length b.start.nodes
unfolding agreed
agreed_many b i n at = many_after b.start b.entries (after t414 b.start b.entries) refl i n at

pub waits_on : (a b : BookValue) (i : ℕ) (takes : List Received) (acts : List Act) → acted t414 (world_of a) acts ≡ Some (world_of b) → AllByRecursion (IsNotOf (world_of a).live i) acts → b.form ≡ Turns
    → AreWaiting a i takes → AreWaiting b i takes
waits_on a b i takes acts did others form W = record { form = form; fronts = received_stays a b i takes acts did others W.fronts }

-- the acts are those of another process
pub others_wait : (a b : BookValue) (i other : ℕ) (n : NodeState) (takes : List Received) (acts : List Act) → acted t414 (world_of a) acts ≡ Some (world_of b) → slice_get (agreed a.state) i ≡ Some n → other ≢ i
    → AllByRecursion (λ e. process a.state.start.wires (length a.state.start.nodes) e ≡ other) (entries_among acts) → b.form ≡ a.form → AreWaiting a i takes → AreWaiting b i takes
others_wait a b i other n takes acts did at apart own form W =
    waits_on a b i takes acts did
    (not_of a i other apart acts (subst (λ k. AllByRecursion (λ e. process a.state.start.wires k e ≡ other) (entries_among acts)) (sym (agreed_many a.state i n at)) own)) (form ∙ W.form) W
