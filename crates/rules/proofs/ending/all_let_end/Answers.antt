use Rattle.std.proofs.Common.{rules, tests}
use Rattle.validity.proofs.Ranged.{all_found}
use Rattle.rules.proofs.ending.all_let_end.Goals as goal

pub returns : goal.returns
returns c = all_found _ _ _ c.graph_count.ensures c.all.ensures.ran (λ x b q k. search (rules, tests))
