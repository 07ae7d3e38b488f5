-- What recovers to a prefix of a journal.
use Rattle.std.proofs.Common.{ℕ, ◌≤◌, List, arith}
use Rattle.tp_flush.proofs.Lower.{Entry, NodeState, t414, Network, device_areas, RecoversTo}

-- what recovers to one with all below a mark has all below a lesser number
pub recovers_less : (start : Network NodeState) (journal : List Entry) (mark next : ℕ) (left : List ℕ) → next ≤ mark → RecoversTo t414 device_areas start journal mark left
    → RecoversTo t414 device_areas start journal next left
recovers_less start journal mark next left low r = record {
  held = r.held;
  reads = r.reads;
  now = r.now;
  replayed = r.replayed;
  exact = r.exact;
  no_less = let least = r.no_less in omega (arith, low, least);
  no_more = r.no_more;
}
