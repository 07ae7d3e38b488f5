-- What a line declares, test by test.
use Rattle.std.proofs.Common.{◌≡◌, ℕ, ◌++◌, ◌<◌, ◌≤◌, Bool, true, false, cond, List, [], ◌∷◌, length, refl, sym, ap, ◌∙◌, inl, Option, Some, None, Result, Ok, Err}
use Rattle.std.specs.Prelude.{◌&&◌, ◌||◌, not, nat_le, IfErr, OnOk}
use Rattle.tp_net.proofs.Lower.{Bor, option_map, option_copied, digits_value, le-leb, lt-leb, NetFault, Memory, Syntax, TooMany, MAX_NODES, MAX_PORTS, is_name, is_pages, Said, after_node, after_port, is_known}
use Rattle.tp_net.specs.Ends.{end_of_parts, link_in}
use Rattle.tp_net.specs.Steps.{IsStep}

-- ## Words

pub name_none : (word : List ℕ) (r : Option (Bor (List ℕ))) → option_copied r ≡ cond (is_name word) (Some word) None → r ≡ None → is_name word ≡ false
name_none word r e none = go (is_name word) (sym (ap option_copied none) ∙ e)
  where
    go : (b : Bool) → ◌≡◌ {A = Option (List ℕ)} None (cond b (Some word) None) → b ≡ false
    go true h = cc
    go false h = refl

pub name_some : (word : List ℕ) (r : Option (Bor (List ℕ))) (name : Bor (List ℕ)) → option_copied r ≡ cond (is_name word) (Some word) None → r ≡ Some name → (is_name word ≡ true) × (name.now ≡ word)
name_some word r name e some = go (is_name word) (sym (ap option_copied some) ∙ e)
  where
    go : (b : Bool) → ◌≡◌ {A = Option (List ℕ)} (Some name.now) (cond b (Some word) None) → (b ≡ true) × (name.now ≡ word)
    go true h = (refl, cc)
    go false h = cc

pub pages_none : (word : List ℕ) (r : Option ℕ) → r ≡ cond (is_pages word) (Some (digits_value 10 word)) None → r ≡ None → is_pages word ≡ false
pages_none word r e none = go (is_pages word) (sym none ∙ e)
  where
    go : (b : Bool) → ◌≡◌ {A = Option ℕ} None (cond b (Some (digits_value 10 word)) None) → b ≡ false
    go true h = cc
    go false h = refl

pub pages_some : (word : List ℕ) (r : Option ℕ) (pages : ℕ) → r ≡ cond (is_pages word) (Some (digits_value 10 word)) None → r ≡ Some pages → (is_pages word ≡ true) × (pages ≡ digits_value 10 word)
pages_some word r pages e some = go (is_pages word) (sym some ∙ e)
  where
    go : (b : Bool) → ◌≡◌ {A = Option ℕ} (Some pages) (cond b (Some (digits_value 10 word)) None) → (b ≡ true) × (pages ≡ digits_value 10 word)
    go true h = (refl, cc)
    go false h = cc

-- ## A node and a port

module _ (said : Said) (number : ℕ) (name : List ℕ) where
  with_port : Bool → Bool → Bool → Result Said NetFault
  with_port named known many = cond (not named || known) (Err (Syntax number)) (cond many (Err TooMany) (Ok (record said { ports = said.ports ++ name ∷ [] })))

  pub port_unnamed : is_name name ≡ false → after_port said number name ≡ Err (Syntax number)
  unfolding with_port
  port_unnamed h = ap (λ named. with_port named (is_known said name) (nat_le MAX_PORTS (length said.ports))) h

  module _ (named : is_name name ≡ true) where
    pub port_known : is_known said name ≡ true → after_port said number name ≡ Err (Syntax number)
    unfolding with_port
    port_known h = ap (λ named. with_port named (is_known said name) (nat_le MAX_PORTS (length said.ports))) named ∙ ap (λ known. with_port true known (nat_le MAX_PORTS (length said.ports))) h

    module _ (new : is_known said name ≡ false) where
      pub port_many : MAX_PORTS ≤ length said.ports → after_port said number name ≡ Err TooMany
      unfolding with_port
      port_many many =
          ap (λ named. with_port named (is_known said name) (nat_le MAX_PORTS (length said.ports))) named ∙ ap (λ known. with_port true known (nat_le MAX_PORTS (length said.ports))) new
          ∙ ap (with_port true false) (le-leb MAX_PORTS (length said.ports) many)

      pub port_said : length said.ports < MAX_PORTS → after_port said number name ≡ Ok (record said { ports = said.ports ++ name ∷ [] })
      unfolding with_port
      port_said few =
          ap (λ named. with_port named (is_known said name) (nat_le MAX_PORTS (length said.ports))) named ∙ ap (λ known. with_port true known (nat_le MAX_PORTS (length said.ports))) new
          ∙ ap (with_port true false) (lt-leb MAX_PORTS (length said.ports) few)

  module _ (pages : List ℕ) where
    with_node : Bool → Bool → Bool → Bool → Result Said NetFault
    with_node named counted known many = cond (not (named && counted) || known) (Err (Syntax number)) (cond many (Err TooMany) (Ok (record said { nodes = said.nodes ++ (name, digits_value 10 pages) ∷ [] })))

    module _ (named : is_name name ≡ true) where
      pub node_unpaged : is_pages pages ≡ false → after_node said number name pages ≡ Err (Syntax number)
      unfolding with_node
      node_unpaged h =
          ap (λ named. with_node named (is_pages pages) (is_known said name) (nat_le MAX_NODES (length said.nodes))) named
          ∙ ap (λ counted. with_node true counted (is_known said name) (nat_le MAX_NODES (length said.nodes))) h

      module _ (counted : is_pages pages ≡ true) where
        both : after_node said number name pages ≡ with_node true true (is_known said name) (nat_le MAX_NODES (length said.nodes))
        unfolding with_node
        both =
            ap (λ named. with_node named (is_pages pages) (is_known said name) (nat_le MAX_NODES (length said.nodes))) named
            ∙ ap (λ counted. with_node true counted (is_known said name) (nat_le MAX_NODES (length said.nodes))) counted

        pub node_known : is_known said name ≡ true → after_node said number name pages ≡ Err (Syntax number)
        unfolding with_node
        node_known h = both ∙ ap (λ known. with_node true true known (nat_le MAX_NODES (length said.nodes))) h

        module _ (new : is_known said name ≡ false) where
          pub node_many : MAX_NODES ≤ length said.nodes → after_node said number name pages ≡ Err TooMany
          unfolding with_node
          node_many many = both ∙ ap (λ known. with_node true true known (nat_le MAX_NODES (length said.nodes))) new ∙ ap (with_node true true false) (le-leb MAX_NODES (length said.nodes) many)

          pub node_said : length said.nodes < MAX_NODES → after_node said number name pages ≡ Ok (record said { nodes = said.nodes ++ (name, digits_value 10 pages) ∷ [] })
          unfolding with_node
          node_said few = both ∙ ap (λ known. with_node true true known (nat_le MAX_NODES (length said.nodes))) new ∙ ap (with_node true true false) (lt-leb MAX_NODES (length said.nodes) few)

-- what was kept is declared, unless memory is out
pub kept_step : (want : Result Said NetFault) (after new : Said) (r : Result (Unit {0}) NetFault) → want ≡ Ok after → OnOk r (new ≡ after) → IfErr r (λ fault. fault ≡ Memory) → IsStep want new r
kept_step want after new (Ok done) is ok err = is ∙ ap (λ said. Ok said) (sym ok)
kept_step want after new (Err fault) is ok err = inl err

-- ## An end

pub end_bare : (front name : List ℕ) (behind : Option (Bor (List ℕ))) → is_name front ≡ true → name ≡ front → behind ≡ None → Some (name, None) ≡ end_of_parts front (option_copied behind)
end_bare front name behind named is cut =
    ap {B = Option (List ℕ × Option ℕ)} (λ n. Some (n, None)) is
    ∙ sym (ap (λ o. end_of_parts front (option_copied o)) cut ∙ ap {B = Option (List ℕ × Option ℕ)} (λ b. cond b (Some (front, None)) None) named)

pub end_linked : (front name : List ℕ) (behind : Option (Bor (List ℕ))) (digits : Bor (List ℕ)) (link : ℕ) → is_name front ≡ true → name ≡ front → behind ≡ Some digits → link_in digits.now ≡ Some link
    → Some (name, Some link) ≡ end_of_parts front (option_copied behind)
end_linked front name behind digits link named is cut linked =
    ap {B = Option (List ℕ × Option ℕ)} (λ n. Some (n, Some link)) is
    ∙ sym (ap (λ o. end_of_parts front (option_copied o)) cut ∙ ap {B = Option (List ℕ × Option ℕ)} (λ b. cond b (option_map (λ k. (front, Some k)) (link_in digits.now)) None) named
    ∙ ap {B = Option (List ℕ × Option ℕ)} (option_map (λ k. (front, Some k))) linked)
