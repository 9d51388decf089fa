use Rattle.std.proofs.Common.{sym, ◌∙◌, rules}
use Rattle.closure.specs.Rows.{told}
use Rattle.tables.specs.Views.{fields_of}
use Rattle.chains.specs.Marks.{marked}
use Rattle.rules.proofs.Deciding.{last_rule}
use Rattle.rules.proofs.all.check.Goals as goal

pub returns-in_err-check_fields : goal.returns-in_err-check_fields
returns-in_err-check_fields c =
    let r = c.of-chains.result in
    let e = last_rule (fields_of c.args.tables.now) (marked r) (told r.reach) c.of-chains.ensures.chain c.of-chains.ensures.leads (sym c.check_before_rings.ensures ∙ c.in_ok-check_before_rings.was) ∙ (sym c.check_fields.ensures ∙ c.in_err-check_fields.was) in
    search rules

pub returns : goal.returns
returns c =
    let r = c.of-chains.result in
    let k = c.of-chains.ensures in
    record {
      valid = last_rule (fields_of c.args.tables.now) (marked r) (told r.reach) k.chain k.leads (sym c.check_before_rings.ensures ∙ c.in_ok-check_before_rings.was) ∙ (sym c.check_fields.ensures ∙ c.in_ok-check_fields.was);
      chain = k.chain;
      leads = k.leads;
    }
