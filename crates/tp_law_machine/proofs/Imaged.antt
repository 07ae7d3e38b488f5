-- The rules of a node that has an image, one by one.
use Rattle.std.proofs.Common.{◌≡◌, ℕ, ◌*◌, ◌%◌, ◌^◌, ◌≤◌, true, List, length, refl, arith, eqb-true}
use Rattle.std.specs.Prelude.{◌&&◌, ◌==◌, nat_le}
use Rattle.tp_law_machine.proofs.Lower.{list_all, leb-true, le-leb, and_parts, MIN_PAGES, MAX_PAGES, PAGE_BYTES, SLICE, is_out_end, is_in_end, NodeState, page_count, is_memory, is_node}

pub record Rules (node : NodeState) : Type 0 where
  pub memory : is_memory node.memory ≡ true
  pub wptr : node.cpu.wptr % 4 ≡ 0
  pub slice : node.cpu.slice ≤ SLICE
  pub outputs : list_all (is_out_end node.memory) node.outputs ≡ true
  pub inputs : list_all (is_in_end node.memory) node.inputs ≡ true

pub rules_of : (node : NodeState) → is_node node ≡ true → Rules node
unfolding is_node
rules_of node h =
    let ends = list_all (is_out_end node.memory) node.outputs && list_all (is_in_end node.memory) node.inputs in
    let first = and_parts (is_memory node.memory) (node.cpu.wptr % 4 == 0 && (nat_le node.cpu.slice SLICE && ends)) h in
    let second = and_parts (node.cpu.wptr % 4 == 0) (nat_le node.cpu.slice SLICE && ends) first.1 in
    let third = and_parts (nat_le node.cpu.slice SLICE) ends second.1 in
    let fourth = and_parts (list_all (is_out_end node.memory) node.outputs) (list_all (is_in_end node.memory) node.inputs) third.1 in
    record {
      memory = first.0;
      wptr = eqb-true (node.cpu.wptr % 4) 0 second.0;
      slice = leb-true node.cpu.slice SLICE third.0;
      outputs = fourth.0;
      inputs = fourth.1;
    }

pub rules_hold : (node : NodeState) → Rules node → is_node node ≡ true
unfolding is_node
rules_hold node R = rw (R.memory, R.wptr, le-leb node.cpu.slice SLICE R.slice, R.outputs, R.inputs) refl

-- memory of whole pages, as many as a node may have
pub record PagesHold (memory : List ℕ) : Type 0 where
  pub whole : length memory % 4 ≡ 0
  pub small : length memory ≤ 2 ^ 32

pub pages_hold : (memory : List ℕ) → is_memory memory ≡ true → PagesHold memory
pages_hold memory h =
    let pages = and_parts (length memory == PAGE_BYTES * page_count memory) (nat_le MIN_PAGES (page_count memory) && nat_le (page_count memory) MAX_PAGES) h in
    let bounds = and_parts (nat_le MIN_PAGES (page_count memory)) (nat_le (page_count memory) MAX_PAGES) pages.1 in
    let long : length memory ≡ PAGE_BYTES * page_count memory = eqb-true (length memory) (PAGE_BYTES * page_count memory) pages.0 in
    let few : page_count memory ≤ MAX_PAGES = leb-true (page_count memory) MAX_PAGES bounds.1 in
    record { whole = omega (arith, long); small = omega (arith, long, few) }
