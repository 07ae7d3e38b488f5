use Rattle.std.proofs.Common.{◌≡◌, true, rules}
use Rattle.tp_turn.proofs.Lower.{Marker, on_line, is_first}
use Rattle.tp_turn.proofs.Hosting.{port_taken, port_closed}
use Rattle.tp_turn.proofs.ports.act_on_front.Goals as goal

pub returns-then-marker_ready : goal.returns-then-marker_ready
returns-then-marker_ready c =
    let first : is_first (on_line c.args.book.now.state.lines c.args.line) Marker ≡ true = search rules in
    port_closed c.args.book.now c.close_line.new.self c.args.line c.close_line.ensures.book first c.close_line.ensures.act

pub returns-in-Ok : goal.returns-in-Ok
returns-in-Ok c =
    port_taken c.args.book.now c.host_take.new.self c.args.line c.args.port c.requires.goes c.in-Ok.ensures.ok c.host_take.ensures.agreed c.in-Ok.ensures.act
