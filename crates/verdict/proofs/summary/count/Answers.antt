use Rattle.std.proofs.Common.{◌≡◌, count_by, sym, ◌∙◌, rules}
use Rattle.std.proofs.iter.runs.Made.{chains}
use Rattle.chart.specs.Fields.{is}
use Rattle.chart.specs.Stated.{stated}
use Rattle.verdict.proofs.Counting.{tally}
use Rattle.verdict.proofs.summary.count.Goals as goal

pub returns : goal.returns
returns c =
    let ps = c.args.fields.now in
    let passed : c.count.result ≡ count_by (λ p. is c.args.tag (stated p.field)) ps = search (rules, chains) in
    passed ∙ sym (tally c.args.tag ps)
