use Rattle.std.proofs.Common.{ℕ, ◌≤◌, false, eqb, cond, ap, ◌∙◌, arith, rules}
use Rattle.groups.specs.Numbers.{those}
use Rattle.validity.specs.Tables.{states, graphs, graph_of, is_in, owner_of, source_of, target_of}
use Rattle.tables.specs.Views.{fields_of}
use Rattle.tables.proofs.Within.{row_within}
use Rattle.derived.specs.Columns.{no_facts}
use Rattle.derived.proofs.Keyed.{those_same, placed}
use Rattle.derived.proofs.Derived.fill.Goals as goal

pub returns : goal.returns
returns c =
    let fs = fields_of c.args.tables.now in
    let few : graphs fs ≤ 128 = (row_within fs c.args.tables.now.file.row).graphs in
    let place : ℕ → ℕ = λ s. cond (eqb s 0) 65535 (graph_of fs s) in
    record {
      depths = λ s l. let told = c.fill_column.ensures.told s no_facts (omega arith) in search rules;
      suspensions = λ s l. let told = c.fill_column.ensures.told s no_facts (omega arith) in search rules;
      ranks = λ s l. let told = c.fill_column.ensures.told s no_facts (omega arith) in search rules;
      initials = λ g l. let told = c.fill_column-2.ensures.told g 0 (omega arith) in search rules;
      chain = λ t l. let told = c.fill_column-3.ensures.told t false (omega arith) in search rules;
      outgoing = λ s l. c.fill_groups.ensures.told (source_of fs) (λ n k b h. search rules) s (omega arith) ∙ ap (λ n. those n (λ t. eqb (source_of fs t) s)) c.transition_count-transitions.ensures;
      incoming = λ s l. c.fill_groups-2.ensures.told (target_of fs) (λ n k b h. search rules) s (omega arith) ∙ ap (λ n. those n (λ t. eqb (target_of fs t) s)) c.transition_count-transitions.ensures;
      members = λ g l. c.fill_groups-3.ensures.told place (λ n k b h. search rules) g (omega arith) ∙ ap (λ n. those n (λ s. eqb (place s) g)) c.state_count-states.ensures ∙ those_same (states fs) (λ s. eqb (place s) g) (is_in fs g) (λ s _. placed fs g s (omega arith));
      owned = λ s l. c.fill_groups-4.ensures.told (owner_of fs) (λ n k b h. search rules) s (omega arith) ∙ ap (λ n. those n (λ g. eqb (owner_of fs g) s)) c.graph_count-graphs.ensures;
    }
