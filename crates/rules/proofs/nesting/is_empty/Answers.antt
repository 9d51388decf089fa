use Rattle.std.proofs.Common.{rules, tests, not, ap}
use Rattle.validity.proofs.Ranged.{any_found}
use Rattle.rules.proofs.nesting.is_empty.Goals as goal

pub returns : goal.returns
returns c = ap not (any_found _ _ _ c.state_count.ensures c.any.ensures.ran (λ x b q k. search (rules, tests)))
