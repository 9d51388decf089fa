use Rattle.std.proofs.Common.{length, rules, tests, ap, ◌∙◌}
use Rattle.tables.specs.Views.{fields_in}
use Rattle.validity.proofs.Ranged.{first_found}
use Rattle.rules.proofs.rule.first_invalid.Goals as goal

pub returns : goal.returns
returns g c = first_found _ _ (c.field_count.ensures ∙ ap (λ f. length (fields_in f)) c.file.ensures) (λ x o q k. search (rules, tests)) c.find_map.result c.find_map.ensures.runs
