use Rattle.std.proofs.Common.{rules, tests}
use Rattle.validity.proofs.Ranged.{any_found}
use Rattle.rules.proofs.ending.has_final.Goals as goal

pub returns : goal.returns
returns c = any_found _ _ _ c.state_count.ensures c.any.ensures.ran (λ x b q k. search (rules, tests))
