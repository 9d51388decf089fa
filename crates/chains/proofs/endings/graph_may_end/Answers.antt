use Rattle.std.proofs.Common.{ap, ◌∙◌, rules, tests}
use Rattle.closure.specs.Rows.{told}
use Rattle.validity.specs.Ranges.{any_of}
use Rattle.validity.specs.Tables.{states}
use Rattle.validity.proofs.Ranged.{any_found}
use Rattle.tables.specs.Views.{fields_of}
use Rattle.chains.specs.Ends.{ends_at}
use Rattle.chains.proofs.endings.graph_may_end.Goals as goal

pub returns : goal.returns
returns c =
    let fs = fields_of c.args.tables.now in
    let p = ends_at fs (told c.args.reach.now) in
    let g = c.args.graph in
    any_found (states fs) (p c.initial_state-initial.result g) c.any.result c.state_count.ensures c.any.ensures.ran (λ x b q k. search (rules, tests))
    ∙ ap (λ i. any_of (states fs) (p i g)) c.initial_state-initial.ensures
