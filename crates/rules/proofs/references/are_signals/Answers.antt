use Rattle.std.proofs.Common.{rules, tests}
use Rattle.rules.proofs.Searches.{every_found}
use Rattle.rules.proofs.references.are_signals.Goals as goal

pub returns : goal.returns
returns c = every_found _ _ _ c.iter.ensures.rest c.all.ensures.ran (λ x b q k. search (rules, tests))
