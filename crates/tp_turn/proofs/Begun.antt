-- The network of one node and one port: it is sound before its first entry, and a book of it begins there.
use Rattle.std.proofs.Common.{◌≡◌, ℕ, zero, suc, ◌%◌, ◌<◌, Bool, true, false, cond, List, [], ◌∷◌, length, refl, sym, ap, subst, ◌∙◌, arith, Option, Some, None, slice_get}
use Rattle.std.specs.Prelude.{◌&&◌, is_some, IsSome, Err}
use Rattle.tp_turn.proofs.Lower.{list_all, and_parts, Link, is_idle_out, is_idle_in, is_node, node_at, node_of, has_idle_links, NodeState, t414_ends, Network, Own, OfNode, OfHost, own, receiver, has_wire, back, on_line, after, owner, is_pending, waits_at, holds_at, end_waits, end_holds, fresh_port, own_node, own_host, BookValue, agreed, next_in_book, network_now, IsNodeOfBytes, IsFresh, IsNetwork, first_book, only_if, none_waits, none_holds, node_of_bytes, AreBytes, cond_some, ReadsImage, NoMemory}
use Rattle.tp_turn.specs.Lone.{IsLoneBook, Begins}
use Rattle.tp_turn.specs.Tried.{fresh_image, lone_network}
use Rattle.tp_turn.specs.declared.lone.Lone.{Lone}

-- ## The node of an image

-- the node of an image is the one that its bytes spell, and keeps the rules
pub node_of_is : (bytes : List ℕ) (n : NodeState) → node_of bytes ≡ Some n → (node_at bytes ≡ n) × (is_node n ≡ true)
unfolding node_of
node_of_is bytes n e = go (is_node (node_at bytes)) refl _ e
  where
    go : (keeps : Bool) → is_node (node_at bytes) ≡ keeps → (same : Bool) → cond (keeps && same) (Some (node_at bytes)) None ≡ Some n → (node_at bytes ≡ n) × (is_node n ≡ true)
    go true is true e = let one : node_at bytes ≡ n = cc in (one, ap is_node (sym one) ∙ is)
    go true is false e = cc
    go false is same e = cc

-- an image that is read, and has idle links
pub fresh_is : (bytes : List ℕ) (n : NodeState) → fresh_image bytes ≡ Some n → (node_of bytes ≡ Some n) × (has_idle_links n ≡ true)
fresh_is bytes n e = go (node_of bytes) e
  where
    go : (o : Option NodeState) → only_if has_idle_links o ≡ Some n → (o ≡ Some n) × (has_idle_links n ≡ true)
    go None e = cc
    go (Some m) e =
        let test = cond_some (has_idle_links m) (Some m) n e in
        let same : m ≡ n = cc in
        (test.1, ap has_idle_links (sym same) ∙ test.0)

pub fresh_some : (bytes : List ℕ) (n : NodeState) → node_of bytes ≡ Some n → has_idle_links (node_at bytes) ≡ true → fresh_image bytes ≡ Some n
fresh_some bytes n e idle =
    let is = node_of_is bytes n e in
    ap (only_if has_idle_links) e ∙ ap (λ b. cond b (Some n) None) (ap has_idle_links (sym is.0) ∙ idle)

pub fresh_none : (bytes : List ℕ) → has_idle_links (node_at bytes) ≡ false → fresh_image bytes ≡ None
fresh_none bytes busy = go (node_of bytes) refl
  where
    go : (o : Option NodeState) → node_of bytes ≡ o → only_if has_idle_links o ≡ None
    go None e = refl
    go (Some n) e = ap (λ b. cond b (Some n) None) (ap has_idle_links (sym (node_of_is bytes n e).0) ∙ busy)

pub reads_memory : (bytes : List ℕ) (o : Option NodeState) → node_of bytes ≡ o → ReadsImage o (Err NoMemory) → has_idle_links (node_at bytes) ≡ true → IsSome (fresh_image bytes)
reads_memory bytes None e h idle = absurd h
reads_memory bytes (Some n) e h idle = ap is_some (fresh_some bytes n e idle)

-- ## The network

module _ (n : NodeState) (idle : has_idle_links n ≡ true) where
  abbrev s : Network NodeState
  s = lone_network n

  ends : (list_all is_idle_out n.outputs ≡ true) × (list_all is_idle_in n.inputs ≡ true)
  ends = and_parts (list_all is_idle_out n.outputs) (list_all is_idle_in n.inputs) idle

  only : (p : ℕ) (m : NodeState) → slice_get (n ∷ []) p ≡ Some m → m ≡ n
  only zero m e = cc
  only (suc p) m e = cc

  no_waits : (x : ℕ) → end_waits t414_ends s x ≡ false
  no_waits x = go (own s (owner 1 x)) refl
    where
      none : (p : ℕ) → is_pending (slice_get (fresh_port ∷ []) p) ≡ false
      none zero = refl
      none (suc p) = refl

      go : (o : Option (Own NodeState)) → own s (owner 1 x) ≡ o → waits_at t414_ends 1 o x ≡ false
      go None is = refl
      go (Some (OfNode m)) is = rw (only (owner 1 x) m (own_node s (owner 1 x) m is).1) (none_waits n.outputs (x % 4) ends.0)
      go (Some (OfHost ports)) is = rw (← (own_host s (owner 1 x) ports is).1) (none _)

  no_holds : (x : ℕ) → end_holds t414_ends s x ≡ false
  no_holds x = go (own s (owner 1 x)) refl
    where
      go : (o : Option (Own NodeState)) → own s (owner 1 x) ≡ o → holds_at t414_ends o x ≡ false
      go None is = refl
      go (Some (OfNode m)) is = rw (only (owner 1 x) m (own_node s (owner 1 x) m is).1) (none_holds n.inputs (x % 4) ends.1)
      go (Some (OfHost ports)) is = refl

  empty : (x : ℕ) → on_line s.lines x ≡ []
  empty zero = refl
  empty (suc zero) = refl
  empty (suc (suc zero)) = refl
  empty (suc (suc (suc zero))) = refl
  empty (suc (suc (suc (suc zero)))) = refl
  empty (suc (suc (suc (suc (suc x))))) = refl

  both : (x y : ℕ) → back s x ≡ Some y → back s y ≡ Some x
  both zero y e = let is : 4 ≡ y = cc in subst (λ m. back s m ≡ Some 0) is refl
  both (suc zero) y e = cc
  both (suc (suc zero)) y e = cc
  both (suc (suc (suc zero))) y e = cc
  both (suc (suc (suc (suc zero)))) y e = let is : 0 ≡ y = cc in subst (λ m. back s m ≡ Some 4) is refl
  both (suc (suc (suc (suc (suc x))))) y e = cc

  inside : (x i k : ℕ) → receiver s.wires x ≡ Some (Link i k) → (i < 1) × (k < 4)
  inside zero i k e = cc
  inside (suc zero) i k e = cc
  inside (suc (suc zero)) i k e = cc
  inside (suc (suc (suc zero))) i k e = cc
  inside (suc (suc (suc (suc zero)))) i k e =
      let first : 0 ≡ i = cc in
      let second : 0 ≡ k = cc in
      (omega (arith, first), omega (arith, second))
  inside (suc (suc (suc (suc (suc x))))) i k e = cc

  there : (x : ℕ) → has_wire s.wires x ≡ true → x < 5
  there zero e = omega arith
  there (suc zero) e = omega arith
  there (suc (suc zero)) e = omega arith
  there (suc (suc (suc zero))) e = omega arith
  there (suc (suc (suc (suc zero)))) e = omega arith
  there (suc (suc (suc (suc (suc x))))) e = cc

  pub lone_fresh : IsFresh s
  lone_fresh = record {
    sound = record {
      wires = record { both_ways = both; links = inside };
      there = there;
      flight = λ x y to. rw (no_waits x, no_holds y, empty x, empty y) refl;
      none = λ x to. (empty x, no_holds x);
    };
    lines = refl;
    ports = refl;
  }

pub lone_is_network : (image : List ℕ) (s : Network NodeState) → s ≡ lone_network (node_at image) → IsNetwork s
lone_is_network image s is = subst IsNetwork (sym is) (record { wires = refl; few_nodes = omega arith; few_ports = omega arith })

pub first_agreed : (s : Network NodeState) → agreed (first_book s None).state ≡ s.nodes
unfolding agreed after
first_agreed s = refl

-- ## A trial

pub lone_begins : (image : List ℕ) (n : NodeState) (s : Network NodeState) → fresh_image image ≡ Some n → s ≡ lone_network (node_at image) → IsFresh s
lone_begins image n s fresh is =
    let F = fresh_is image n fresh in
    subst IsFresh (sym (is ∙ ap lone_network (node_of_is image n F.0).0)) (lone_fresh n F.1)

pub lone_starts : (image : List ℕ) (n : NodeState) (s : Network NodeState) (t : Lone) → AreBytes image → fresh_image image ≡ Some n → s ≡ lone_network (node_at image) → t.book ≡ first_book s None → t.node.live ≡ n → t.node.frozen ≡ None
    → Begins n t
lone_starts image n s t bytes fresh is first node thawed =
    let F = fresh_is image n fresh in
    let net : s ≡ lone_network n = is ∙ ap lone_network (node_of_is image n F.0).0 in
    let book : t.book ≡ first_book (lone_network n) None = first ∙ ap (λ x. first_book x None) net in
    let nodes : agreed t.book.state ≡ n ∷ [] = ap (λ (b : BookValue). agreed b.state) book ∙ first_agreed (lone_network n) in
    record {
      lone = record {
        book = subst IsLoneBook (sym book) (first_lone n);
        node = record {
          there = ap (λ ns. slice_get ns 0) nodes ∙ ap Some (sym node);
          image = subst IsNodeOfBytes (sym node) (node_of_bytes image n bytes F.0);
          recorded = λ some. absurd (let none = ap is_some thawed in cc);
          kept = λ here its h k. cc;
        };
        thawed = thawed;
      };
      network = ap network_now book ∙ ap (λ ns. record (lone_network n) { nodes = ns }) (first_agreed (lone_network n));
      first = ap next_in_book book;
    }
  where
    first_lone : (n : NodeState) → IsLoneBook (first_book (lone_network n) None)
    first_lone n = record { alone = refl; idle = refl; ready = refl; runs = refl; whole = refl; nodes = refl; many = ap length (first_agreed (lone_network n)); ports = refl; form = refl }
