-- Pieces of runs, one after the other, and what a crash leaves on the way.
use Rattle.std.proofs.Common.{◌≡◌, ◌≤◌, take}
use Rattle.tp_flush.proofs.Lower.{NodeState, t414, t414_ends, Network, LeavesOnly, device_areas, RecoversTo, has_four_links, never_marks, areas_keep, stays, chain_leads, no_step, still_walks, walks_recover, walks_then}
use Rattle.tp_flush.specs.Known.{Reached}
use Rattle.tp_flush.specs.Flushing.{Flushing, Walked}

-- nothing is done
pub walked_nowhere : (a : Flushing) → a.world.disk ≡ a.state.now → Walked a a
walked_nowhere a was = still_walks t414 device_areas a.world a.world a.state (no_step t414 device_areas a.world) was

pub walked_then : (a b c : Flushing) → Walked a b → Walked b c → Walked a c
walked_then a b c first then = walks_then t414 device_areas a.world b.world c.world a.state b.state c.state first then

-- whatever a crash leaves on the way
pub walked_recovers : (start : Network NodeState) (a b : Flushing) → Reached start a.world → Walked a b
    → LeavesOnly a.state b.state (RecoversTo t414 device_areas start b.world.journal a.world.mark)
walked_recovers start a b R W =
    walks_recover t414 device_areas has_four_links never_marks (areas_keep t414 t414_ends) start R.events R.first a.world R.formatted R.run b.world a.state b.state W

-- the mark goes up on the way, and what the journal has below it stays
pub walked_stays : (start : Network NodeState) (a b : Flushing) → Reached start a.world → Walked a b
    → (a.world.mark ≤ b.world.mark) × (take a.world.mark b.world.journal ≡ take a.world.mark a.world.journal)
walked_stays start a b R W =
    stays t414 has_four_links never_marks device_areas (areas_keep t414 t414_ends) start R.events (chain_leads t414 device_areas a.world b.world W.worlds W.chain).events R.first a.world b.world R.formatted R.run
    (chain_leads t414 device_areas a.world b.world W.worlds W.chain).run
