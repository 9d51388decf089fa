use Rattle.std.proofs.Common.{◌&&◌, false, ltb, ap, ◌∙◌, arith, rules, tests, lt-ltb}
use Rattle.closure.specs.Rows.{told}
use Rattle.validity.specs.Tables.{graph_may_end}
use Rattle.tables.specs.Views.{fields_of}
use Rattle.tables.proofs.Within.{row_within}
use Rattle.closure.proofs.Made.{made}
use Rattle.chains.proofs.endings.Endings.of.Goals as goal

pub invariant_of-result : goal.invariant_of-result
invariant_of-result c =
    let fs = fields_of c.args.tables.now in
    let ends = graph_may_end fs (told c.args.reach.now) in
    let n = c.graph_count-graphs.result in
    let few = (row_within fs c.args.tables.now.file.row).graphs in
    record {
      ends_told = λ g l.
          made c.from_fn-ends.ensures.items (λ g. ltb g n && ends g) false (λ i y q k. search (rules, tests)) g (omega (arith, few))
          ∙ ap (λ b. b && ends g) (lt-ltb g n (omega (arith, c.graph_count-graphs.ensures)));
    }
