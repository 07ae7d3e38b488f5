use Rattle.std.proofs.Common.{rules, length}
use Rattle.std.specs.Prelude.{not, ◌==◌}
use Rattle.tp_net.proofs.Lower.{map_from_collect, YieldsList-from_filter, YieldsList-from_slice_split}
use Rattle.tp_net.proofs.words.words.Goals as goal

pub returns : goal.returns
returns c =
    map_from_collect c.collect.result c.collect.ensures.ran
    (YieldsList-from_filter _ (λ word. not (length word == 0))
    (YieldsList-from_slice_split _ (λ byte. byte == 32) c.args.line.now (search (rules, c.filter.ensures.source, c.split.ensures.rest)) (search (rules, c.filter.ensures.source, c.split.ensures.done)) (search (rules, c.filter.ensures.source, c.split.ensures.closure)) (λ x b q k. search rules))
    c.filter.ensures.closure (λ x b q k. search rules))
