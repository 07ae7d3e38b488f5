use Rattle.std.proofs.Common.{◌≡◌, ◌++◌, sym, ap, ◌∙◌, rules, Some}
use Rattle.tp_turn.proofs.Lower.{on_link, carries, node_took, takes_ok}
use Rattle.tp_turn.proofs.receiving.take_one.Goals as goal

pub returns-in-Ok-Some-clause-did : goal.returns-in-Ok-Some-clause-did
returns-in-Ok-Some-clause-did c =
    let is : c.in-Ok-Some.field-0 ≡ Some c.in-Ok-Some.answer = search rules in
    record {
      answers = on_link c.args.link c.in-Ok-Some.field-0;
      are = c.push.ensures.items ∙ ap (λ answer. c.args.sent.now.items ++ on_link c.args.link answer) (sym is);
      did = record {
        took = takes_ok _ _ _ _ _ c.in-Ok-Some.field-0 c.in-Ok-Some.ensures.takes;
        kept = c.in-Ok-Some.ensures.kept;
        shared = c.in-Ok-Some.ensures.shared;
      };
    }

pub returns-in-Ok-Some-clause-image : goal.returns-in-Ok-Some-clause-image
returns-in-Ok-Some-clause-image c =
    let did = takes_ok _ _ _ _ _ c.in-Ok-Some.field-0 c.in-Ok-Some.ensures.takes in
    (node_took c.args.node.now.live c.args.link c.args.token (c.take.new.self.live, on_link c.args.link c.in-Ok-Some.field-0) c.requires.image (carries c.args.token c.carries_byte.ensures) did).0

pub returns-in-Ok-None-clause-image : goal.returns-in-Ok-None-clause-image
returns-in-Ok-None-clause-image c =
    let did = takes_ok _ _ _ _ _ c.in-Ok-None.field-0 c.in-Ok-None.ensures.takes in
    (node_took c.args.node.now.live c.args.link c.args.token (c.take.new.self.live, on_link c.args.link c.in-Ok-None.field-0) c.requires.image (carries c.args.token c.carries_byte.ensures) did).0
