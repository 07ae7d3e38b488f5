-- Turns that failed.
use Rattle.std.proofs.Common.{◌≡◌, ◌≤◌, ◌<◌, ℕ, inl, inr, List, length, sym, subst}
use Rattle.tp_work.proofs.Lower.{Entry, NodeState, Network, Refusal}
use Rattle.tp_book.specs.declared.refusal.Refusal.TheVariants as refusal
use Rattle.tp_work.proofs.Lower.{IsTurnRefusal, AreTakes, TookAlone, Gained, InHand}
use Rattle.tp_work.specs.Turns.{Refused, turn_fault, RefusedAt, RefusedFor, TookBefore}
use Rattle.tp_work.specs.declared.fault.TurnFault.TheVariants.{JournalFull, StoreBroken, Memory}

-- ## What was taken before

gained_as : (One Other : List Entry → Type 0) (old new : List (ℕ × Entry)) → ((entries : List Entry) → One entries → Other entries) → Gained One old new → Gained Other old new
gained_as One Other old new like G = record { next = G.next; entries = G.entries; are = like G.entries G.are; seat = G.seat; below = G.below }

-- by a node
pub node_took : (start : Network NodeState) (process : ℕ) (old new : List (ℕ × Entry)) → process < length start.nodes → Gained (TookAlone start process) old new
    → Gained (TookBefore start process) old new
node_took start process old new there G = gained_as (TookAlone start process) (TookBefore start process) old new (λ entries took. either entries took) G
  where
    either : (entries : List Entry) → TookAlone start process entries → TookBefore start process entries
    either entries (inl apart) = inl apart
    either entries (inr once) = inr (there, once)

-- by the host
pub host_took : (start : Network NodeState) (process : ℕ) (old new : List (ℕ × Entry)) → process ≡ length start.nodes → Gained (AreTakes start (length start.nodes)) old new
    → Gained (TookBefore start process) old new
host_took start process old new is G =
    gained_as (AreTakes start (length start.nodes)) (TookBefore start process) old new (λ entries took. inl (subst (λ p. AreTakes start p entries) (sym is) took)) G

-- ## Refused

pub broken_off : (start : Network NodeState) (process : ℕ) (old new : List (ℕ × Entry)) (r : Refusal) → process ≤ length start.nodes → Gained (TookBefore start process) old new
    → Refused start (turn_fault r) old new
broken_off start process old new refusal.JournalFull there took = record { process = process; there = there; took = took }
broken_off start process old new refusal.StoreBroken there took = record { process = process; there = there; took = took }
broken_off start process old new refusal.Memory there took = record { process = process; there = there; took = took }
broken_off start process old new refusal.NothingToTake there took = record { process = process; there = there; took = took }
broken_off start process old new refusal.SnapshotRunning there took = record { process = process; there = there; took = took }
broken_off start process old new refusal.PortFull there took = record { process = process; there = there; took = took }

-- what was told of the refusal is told of the fault
pub refused_for : (start : Network NodeState) (process : ℕ) (old new : InHand) (r : Refusal) → IsTurnRefusal r → Gained (TookBefore start process) old.slips new.slips
    → RefusedAt start process r old new → RefusedFor start process (turn_fault r) old new
refused_for start process old new refusal.JournalFull is took went = (took, went)
refused_for start process old new refusal.StoreBroken is took went = (took, went)
refused_for start process old new refusal.Memory is took went = (took, went)
refused_for start process old new refusal.NothingToTake is took went = absurd is
refused_for start process old new refusal.SnapshotRunning is took went = absurd is
refused_for start process old new refusal.PortFull is took went = absurd is
