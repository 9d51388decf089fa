use Rattle.std.proofs.Common.{◌≡◌, ◌&&◌, ap, ◌∙◌, rules, tests}
use Rattle.closure.specs.Rows.{told}
use Rattle.validity.specs.Parts.{is_macro}
use Rattle.validity.specs.Ranges.{all_of}
use Rattle.validity.specs.Tables.{graphs, graph_may_end}
use Rattle.validity.proofs.Bools.{clash}
use Rattle.validity.proofs.Ranged.{all_found}
use Rattle.tables.specs.Views.{fields_of}
use Rattle.chains.specs.Ends.{lets_end}
use Rattle.chains.proofs.endings.Endings.may_end.Goals as goal
use Rattle.chains.proofs.endings.Endings.may_end.Goals.{in-Macro, in_default}

pub returns-then-matches : goal.returns-then-matches
returns-then-matches c =
    let self = c.args.self.now in
    let fs = fields_of self.tables.now in
    let p = lets_end fs (graph_may_end fs (told self.reach.now)) c.args.state in
    let each : c.all.result ≡ all_of (graphs fs) p = all_found (graphs fs) p c.all.result c.graph_count.ensures c.all.ensures.ran (λ x b q k. search (rules, tests)) in
    elim c.match-matches.branch [
      | in-Macro w ↦ each ∙ ap (λ k. is_macro k && all_of (graphs fs) p) w.in-Macro.ensures
      | in_default w ↦ absurd (clash c.if-matches.true w.matches-is)
    ]
