use Rattle.std.proofs.Common.{ℕ, Bool, ap, ◌∙◌, arith}
use Rattle.closure.specs.Rows.{told}
use Rattle.validity.specs.Ranges.{count_of}
use Rattle.validity.specs.Tables.{states}
use Rattle.tables.specs.Views.{fields_of}
use Rattle.tables.proofs.Within.{row_within}
use Rattle.derived.proofs.Bounds.{depth_most, count_most}
use Rattle.derived.proofs.facts.StateFacts.of.Goals as goal

pub overflow_cast-result : goal.overflow_cast-result
overflow_cast-result c =
    let t = c.args.tables.now in
    let fs = fields_of t in
    omega (arith, c.depth.ensures, depth_most fs (states fs) c.args.state, (row_within fs t.file.row).states)

pub overflow_cast-result-2 : goal.overflow_cast-result-2
overflow_cast-result-2 c =
    let t = c.args.tables.now in
    let fs = fields_of t in
    omega (arith, c.rank.ensures, count_most c.state_count.result (λ x. told c.args.chains.now.reach x c.args.state), c.state_count.ensures, (row_within fs t.file.row).states)

pub returns-clause-rank : goal.returns-clause-rank
returns-clause-rank c =
    let p : ℕ → Bool = λ x. told c.args.chains.now.reach x c.args.state in
    c.rank.ensures ∙ ap (λ n. count_of n p) c.state_count.ensures
