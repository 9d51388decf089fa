use Rattle.std.proofs.Common.{rules, tests, refl}
use Rattle.validity.proofs.Ranged.{any_found}
use Rattle.rules.proofs.ends.Earlier.has.Goals as goal

pub returns : goal.returns
returns c = any_found _ _ _ refl c.any.ensures.ran (λ x b q k. search (rules, tests))
