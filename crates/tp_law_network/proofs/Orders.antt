-- Which order of the journal a cut and the entries after it are, as entries follow and as a cut is taken.
use Rattle.std.proofs.Common.{◌≡◌, ℕ, ◌+◌, List, [], ◌++◌, length, refl, sym, subst, ◌∙◌, arith, append_assoc, length-append, Some}
use Rattle.tp_law_network.proofs.Lower.{Entry, Machine, Network, after, Reorder, same, HasOrder}
use Rattle.tp_law_network.proofs.Reorder.{after_front, reorder_trans, reorder_front, reorder_back}

module _ {Node : Type 0} (M : Machine Node) (start : Network Node) where
  -- at the start
  pub order_first : HasOrder M start [] start [] 0
  unfolding after
  order_first = record { inside = []; leads = refl; count = refl; order = same [] }

  -- the same entries follow on both sides
  pub order_behind : (journal entries : List Entry) (network : Network Node) (base : ℕ) (more : List Entry) → HasOrder M start journal network entries base
      → HasOrder M start (journal ++ more) network (entries ++ more) base
  order_behind journal entries network base more O = record {
    inside = O.inside;
    leads = O.leads;
    count = O.count;
    order = subst (Reorder M start (journal ++ more)) (append_assoc O.inside entries more) (reorder_back M start journal (O.inside ++ entries) more O.order);
  }

  -- a later cut takes some of the entries in, which may come first
  pub order_cut : (journal entries : List Entry) (network at : Network Node) (base : ℕ) (early late : List Entry) → HasOrder M start journal network entries base
      → after M network early ≡ Some at → Reorder M network entries (early ++ late) → HasOrder M start journal at late (base + length early)
  order_cut journal entries network at base early late O leads swaps = record {
    inside = O.inside ++ early;
    leads = after_front M start network O.inside early O.leads ∙ leads;
    count = omega (arith, length-append O.inside early, O.count);
    order = subst (Reorder M start journal) (sym (append_assoc O.inside early late))
        (reorder_trans M start journal (O.inside ++ entries) (O.inside ++ (early ++ late)) O.order
        (reorder_front M start network O.inside entries (early ++ late) O.leads swaps));
  }
