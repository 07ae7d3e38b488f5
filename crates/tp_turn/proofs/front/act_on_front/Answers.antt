use Rattle.std.proofs.Common.{◌≡◌, true, subst, arith, rules}
use Rattle.tp_turn.proofs.Lower.{slice_get_within, Marker, on_line, is_first, on_link, CarriesByte, carries, node_took, takes_ok, agreed, front_of, length-agreed}
use Rattle.tp_turn.proofs.Possible.{can_take}
use Rattle.tp_turn.proofs.Leads.{takeable_front, ready_some, has_taken}
use Rattle.tp_turn.proofs.Fronted.{taken_done, taken_is, closed_done, closed_is}
use Rattle.tp_turn.proofs.front.act_on_front.Goals as goal

pub recorded-requires : goal.recorded-requires
recorded-requires c =
    let b = c.args.book.now.state in
    let below = slice_get_within (agreed b) c.args.number c.args.node.now.live c.requires.is.there in
    omega (arith, c.known.ensures.shaped.count, below, length-agreed b c.known.ensures.keeps)

pub returns-then-marker_ready-clause-answer : goal.returns-then-marker_ready-clause-answer
returns-then-marker_ready-clause-answer c =
    let first : is_first (on_line c.args.book.now.state.lines c.args.line) Marker ≡ true = search rules in
    closed_done c.args.book.now c.close_line.new.self c.args.line c.args.number c.args.node.now c.close_line.ensures.book c.requires.is c.args.link c.requires.goes first c.close_line.ensures.act

pub returns-then-marker_ready-clause-is : goal.returns-then-marker_ready-clause-is
returns-then-marker_ready-clause-is c = closed_is c.args.book.now c.close_line.new.self c.args.line c.args.number c.args.node.now c.close_line.ensures.book c.requires.is

pub take-requires : goal.take-requires
take-requires c =
    let some = ready_some c.args.book.now c.args.line c.in-Ok.token c.in-Ok.ensures.answer in
    let front = takeable_front (on_line c.args.book.now.state.lines c.args.line) some in
    rw c.in-Ok.ensures.ok.1
    (can_take c.args.book.now.state c.known.ensures.keeps c.args.line c.args.number c.args.link c.args.node.now.live c.requires.goes c.requires.is.there (front_of c.args.book.now c.args.line) front.0 c.requires.is.image.image front.1 front.2)

pub commit_take-note-requires-clause-took : goal.commit_take-note-requires-clause-took
commit_take-note-requires-clause-took c =
    let did = rw c.in-Ok.ensures.ok.1 at (takes_ok _ _ _ _ _ c.in-Ok-take.sent c.in-Ok-take.ensures.takes) in
    has_taken c.args.book.now c.ready_take.new.self c.args.line c.args.number c.args.link c.args.node.now.live c.take.new.self.live c.in-Ok-take.sent
    c.in-Ok.ensures.ok.0 c.requires.goes c.requires.is.there did

pub returns-in-Ok-take-clause-answer : goal.returns-in-Ok-take-clause-answer
returns-in-Ok-take-clause-answer c =
    let some = ready_some c.args.book.now c.args.line c.in-Ok.token c.in-Ok.ensures.answer in
    let front = takeable_front (on_line c.args.book.now.state.lines c.args.line) some in
    let did = rw c.in-Ok.ensures.ok.1 at (takes_ok _ _ _ _ _ c.in-Ok-take.sent c.in-Ok-take.ensures.takes) in
    taken_done c.args.book.now c.ready_take.new.self c.commit_take-note.new.self c.args.line c.args.number c.args.link c.args.node.now c.take.new.self c.in-Ok-take.sent
    c.in-Ok.ensures.ok.0 c.commit_take-note.ensures.book c.requires.goes c.requires.idle c.requires.is did c.commit_take-note.ensures.agreed c.commit_take-note.ensures.act c.take.ensures.kept front.2 (rw c.in-Ok.ensures.ok.1 at c.in-Ok-take.ensures.shared)

pub returns-in-Ok-take-clause-is : goal.returns-in-Ok-take-clause-is
returns-in-Ok-take-clause-is c =
    let did = rw c.in-Ok.ensures.ok.1 at (takes_ok _ _ _ _ _ c.in-Ok-take.sent c.in-Ok-take.ensures.takes) in
    let carried : CarriesByte (front_of c.args.book.now c.args.line) = subst CarriesByte c.in-Ok.ensures.ok.1 (carries c.in-Ok.token c.carries_byte.ensures) in
    taken_is c.args.book.now c.ready_take.new.self c.commit_take-note.new.self c.args.line c.args.number c.args.link c.args.node.now c.take.new.self c.in-Ok-take.sent
    c.in-Ok.ensures.ok.0 c.commit_take-note.ensures.book c.requires.goes c.requires.idle c.requires.is did c.commit_take-note.ensures.agreed c.commit_take-note.ensures.act c.take.ensures.kept
    (node_took c.args.node.now.live c.args.link (front_of c.args.book.now c.args.line) (c.take.new.self.live, on_link c.args.link c.in-Ok-take.sent) c.requires.is.image carried did).0
