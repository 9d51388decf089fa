use Rattle.std.proofs.Common.{unwrap_or, ap, ◌∙◌, arith, rules, tests}
use Rattle.std.proofs.lemmas.Iterator.{YieldsList-from_range}
use Rattle.std.proofs.lemmas.Iterator.Search.{find_from_yields_List}
use Rattle.validity.specs.Ranges.{least_of}
use Rattle.validity.specs.Tables.{is_in}
use Rattle.tables.specs.Views.{fields_of}
use Rattle.validity.proofs.Ranged.{is_least_of}
use Rattle.chains.proofs.endings.initial_state.Goals as goal

pub returns : goal.returns
returns c =
    let n = c.state_count-states.result in
    let p = is_in (fields_of c.args.tables.now) c.args.graph in
    c.unwrap_or.ensures
    ∙ ap (unwrap_or c.find.result) c.saturating_sub.ensures
    ∙ is_least_of n p c.find.result (find_from_yields_List p _ _ c.find.result c.find.ensures.ran (YieldsList-from_range 0 n n (cc) (omega arith)) (λ x b q k. search (rules, tests)))
    ∙ ap (λ n. least_of n p) c.state_count-states.ensures
