-- Spans of fields that have a tag.
use Rattle.std.proofs.Common.{◌≡◌, ℕ, ◌≤◌, true, false, cond, List, length, Some, None, sym, ap, ◌∙◌, rules, eq-eqb, ne_eqb}
use denote.Enum.Bare.{sameb, same_true, same_false}
use Rattle.chart.specs.contracts.kinds.Tag.{the_type}
use Rattle.chart.specs.declared.kinds.Tag.{Tag}
use Rattle.chart.specs.Fields.{Field, graph, is, tag_of}
use Rattle.chart.specs.Kinds.{tag_code, tag_from}
use Rattle.chart.proofs.Forms.{tag_back}
use Rattle.validity.specs.Parts.{at}
use Rattle.validity.proofs.Numbers.{at_behind}
use Rattle.tables.specs.Rows.{span_at, tagged_span_at}

codes_apart : (t u : Tag) → tag_code t ≡ tag_code u → t ≡ u
codes_apart t u e = let same : Some t ≡ Some u = sym (tag_back t) ∙ ap tag_from e ∙ tag_back u in cc

module _ (fs : List Field) (t : Tag) (i : ℕ) where
  -- The field has the tag, or it has another.

  pub tagged : (u : Tag) → u ≡ tag_of (at fs i) → sameb the_type u t ≡ true → Some (span_at fs 3 i) ≡ tagged_span_at fs t i
  tagged u tag same =
      let one = ap tag_code (sym tag ∙ same_true the_type (search rules) u t same) in
      sym (ap (λ b. cond b (Some (span_at fs 3 i)) None) (eq-eqb (tag_code (tag_of (at fs i))) (tag_code t) one))

  pub other_tagged : (u : Tag) → u ≡ tag_of (at fs i) → sameb the_type u t ≡ false → None ≡ tagged_span_at fs t i
  other_tagged u tag other =
      sym (ap (λ b. cond b (Some (span_at fs 3 i)) None) (ne_eqb (tag_code (tag_of (at fs i))) (tag_code t) (λ e. same_false the_type u t other (tag ∙ codes_apart (tag_of (at fs i)) t e))))

  -- Behind the last field nothing has the tag.
  pub none_tagged : length fs ≤ i → is t (graph 0) ≡ false → None ≡ tagged_span_at fs t i
  none_tagged l other =
      let none : is t (at fs i) ≡ false = ap (is t) (at_behind fs i l) ∙ other in
      sym (ap (λ b. cond b (Some (span_at fs 3 i)) None) none)
