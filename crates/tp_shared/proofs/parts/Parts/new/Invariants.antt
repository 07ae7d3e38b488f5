use Rattle.std.proofs.Common.{[], false}
use Rattle.tp_shared.proofs.Lower.{Turns, fresh}
use Rattle.tp_shared.proofs.parts.Parts.new.Given as goal

abbrev pub ghost-pair : goal.ghost-pair
ghost-pair a = record { net = fresh (record { wires = []; nodes = []; ports = []; lines = [] }); base = 0; journal = []; thawed = false; numbered_from = 0; form = Turns; broken = false; frozen = [] }

-- The host has handed in nothing.
abbrev pub ghost-pair-2 : goal.ghost-pair-2
ghost-pair-2 a = record { entries = [] }
