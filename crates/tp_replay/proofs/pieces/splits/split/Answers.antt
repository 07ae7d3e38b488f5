use Rattle.std.proofs.Common.{◌≡◌, ◌++◌, ◌∷◌, ◌≤◌, [], refl, sym, ap, subst, ◌∙◌, arith, length, map, All}
use Rattle.tp_law_network.proofs.Room.{line_room}
use Rattle.tp_replay.specs.Whole.{AreWhole}
use Rattle.tp_replay.specs.declared.pieces.host_part.HostPart.TheInside.{Inside}
use Rattle.tp_replay.specs.declared.pieces.net_part.NetPart.TheVariants.{Host}
use Rattle.tp_replay.specs.Apart.{network_apart}
use Rattle.tp_replay.specs.Counts.{room_of}
use Rattle.tp_replay.specs.Dealing.{networks_of, pieces_of, run_part}
use Rattle.tp_replay.specs.HostInside.{host_held}
use Rattle.tp_replay.specs.Parts.{net_room}
use Rattle.tp_replay.specs.Runs.{AreDealt, runs}
use Rattle.tp_replay.proofs.Dealing.{parts_dealt, parts_room, parts_whole}
use Rattle.tp_replay.proofs.pieces.splits.split.Goals as goal

pub invariant_of-host : goal.invariant_of-host
invariant_of-host c = λ line. let room = line_room c.requires.can.sound line in let none = c.requires.can.unmarked line in omega (arith, room, none)

pub returns-clause-whole : goal.returns-clause-whole
returns-clause-whole c =
    let a = c.args.network in
    let w = c.args.workers in
    let h : Inside = record { nodes = c.len.result; ports = a.ports; lanes = record { wires = a.wires.items; lines = a.lines } } in
    let are = c.in_ok-push.ensures.items ∙ ap (λ ps. ps ++ Host (host_held h) ∷ []) (c.in_ok-parts.ensures ∙ ap (λ n. map (run_part (host_held h).network a.nodes.items) (runs n w w)) a.nodes.ok.0) in
    subst (λ n. AreWhole (network_apart a) n (pieces_of c.push.new.self.items) (networks_of c.push.new.self.items)) (sym c.push.new.self.ok.0)
    (subst (λ ps. AreWhole (network_apart a) (length ps) (pieces_of ps) (networks_of ps)) (sym are) (parts_whole a h w c.requires.can c.requires.some (c.len.ensures ∙ a.nodes.ok.0) refl refl refl))

pub returns-clause-dealt : goal.returns-clause-dealt
returns-clause-dealt c =
    let a = c.args.network in
    let w = c.args.workers in
    let h : Inside = record { nodes = c.len.result; ports = a.ports; lanes = record { wires = a.wires.items; lines = a.lines } } in
    let are = c.in_ok-push.ensures.items ∙ ap (λ ps. ps ++ Host (host_held h) ∷ []) (c.in_ok-parts.ensures ∙ ap (λ n. map (run_part (host_held h).network a.nodes.items) (runs n w w)) a.nodes.ok.0) in
    subst (λ n. AreDealt n (runs n w w) c.push.new.self.len (pieces_of c.push.new.self.items)) (sym a.nodes.ok.0)
    (subst (λ n. AreDealt (length a.nodes.items) (runs (length a.nodes.items) w w) n (pieces_of c.push.new.self.items)) (sym c.push.new.self.ok.0)
    (subst (λ ps. AreDealt (length a.nodes.items) (runs (length a.nodes.items) w w) (length ps) (pieces_of ps)) (sym are) (parts_dealt a h w c.requires.can c.requires.some (c.len.ensures ∙ a.nodes.ok.0) refl refl refl)))

pub returns-clause-room : goal.returns-clause-room
returns-clause-room c =
    let a = c.args.network in
    let w = c.args.workers in
    let h : Inside = record { nodes = c.len.result; ports = a.ports; lanes = record { wires = a.wires.items; lines = a.lines } } in
    let are = c.in_ok-push.ensures.items ∙ ap (λ ps. ps ++ Host (host_held h) ∷ []) (c.in_ok-parts.ensures ∙ ap (λ n. map (run_part (host_held h).network a.nodes.items) (runs n w w)) a.nodes.ok.0) in
    subst (λ ps. All (λ part. room_of (network_apart a).ports ≤ net_room part) ps) (sym are) (parts_room a h w c.requires.can c.requires.some (c.len.ensures ∙ a.nodes.ok.0) refl refl refl)
