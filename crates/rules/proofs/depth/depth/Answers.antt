use Rattle.std.proofs.Common.{◌+◌, ap, ◌∙◌, rules, tests}
use Rattle.std.specs.Iterator.Adapters.{successors_next, successors_callee}
use Rattle.tables.specs.Views.{fields_of}
use Rattle.rules.proofs.Levels.{depth_counted}
use Rattle.rules.proofs.depth.depth.Goals as goal

pub returns : goal.returns
returns c =
    depth_counted (fields_of c.args.tables.now) (λ x o q k. search (rules, tests)) c.take.result c.count.result c.args.state
    (c.take.ensures.count ∙ ap (λ n. n + 1) c.state_count.ensures)
    (ap successors_callee c.take.ensures.source ∙ c.successors.ensures.closure)
    (ap successors_next c.take.ensures.source ∙ c.successors.ensures.item)
    c.count.ensures.ran
