use Rattle.std.proofs.Common.{arith, rules}
use Rattle.closure.specs.Rows.{told}
use Rattle.validity.specs.Tables.{is_chain_by}
use Rattle.tables.specs.Views.{fields_of}
use Rattle.tables.proofs.Within.{row_within}
use Rattle.chains.proofs.Found.{made_all}
use Rattle.chains.proofs.Levels.{none_by}
use Rattle.chains.proofs.chain_marks.Goals as goal

pub returns : goal.returns
returns c =
    let fs = fields_of c.args.tables.now in
    let l = told c.args.reach.now in
    let few = (row_within fs c.args.tables.now.file.row).transitions in
    made_all _ _ _ (is_chain_by fs l) (λ i y q k. search rules) 512 c.from_fn.ensures.items (λ t h. none_by fs l t (omega (arith, few)))
