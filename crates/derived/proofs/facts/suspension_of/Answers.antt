use Rattle.std.proofs.Common.{◌≡◌, ℕ, suc, Bool, cond, eqb, Some, None, Option, ap, ◌∙◌, arith, rules, tests}
use Rattle.std.proofs.lemmas.Iterator.{YieldsList-from_range}
use Rattle.std.proofs.lemmas.Iterator.Search.{find_from_yields_List}
use Rattle.validity.specs.Ranges.{any_of, least_of}
use Rattle.validity.specs.Tables.{suspension_index, suspended_by}
use Rattle.tables.specs.declared.rows.Span.{Span}
use Rattle.tables.specs.Rows.{trigger_span_at}
use Rattle.tables.specs.Views.{fields_of}
use Rattle.validity.proofs.Ranged.{is_found}
use Rattle.derived.proofs.Found.{given}
use Rattle.derived.proofs.facts.suspension_of.Goals as goal

pub returns : goal.returns
returns c =
    let fs = fields_of c.args.tables.now in
    let n = c.suspension_count.result in
    let of : ℕ → Bool = λ u. eqb (suspended_by fs u) c.args.state in
    let trigger : ℕ → Option Span = λ u. trigger_span_at fs (suc (suspension_index fs u)) in
    let found : c.find.result ≡ cond (any_of n of) (Some (least_of n of)) None = is_found n of c.find.result (find_from_yields_List of _ _ c.find.result c.find.ensures.ran (YieldsList-from_range 0 n n (cc) (omega arith)) (λ x b q k. search (rules, tests))) in
    given trigger (any_of n of) (least_of n of) c.find.result c.and_then.result found (search rules) ∙ ap (λ m. cond (any_of m of) (trigger (least_of m of)) None) c.suspension_count.ensures
