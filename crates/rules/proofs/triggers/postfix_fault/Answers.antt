use Rattle.std.proofs.Common.{◌∙◌, rules, tests}
use Rattle.rules.proofs.Postfix.{folded, answered}
use Rattle.rules.proofs.triggers.postfix_fault.Goals as goal

pub returns : goal.returns
returns c =
    answered c.args.signals c.try_fold.result c.map_or_else.result c.map_or_else.ensures
    ∙ folded c.args.signals (λ h x r q k. search (rules, tests)) _ c.args.postfix.now c.try_fold.result c.iter.ensures.rest c.try_fold.ensures.ran
