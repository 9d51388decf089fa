use Rattle.std.proofs.Common.{suc, vec_items, ap, ◌∙◌, inl, inr}
use Rattle.chart.specs.declared.kinds.Tag.TheVariants.{Transition}
use Rattle.chart.specs.Fields.{is}
use Rattle.validity.specs.Parts.{edge_in}
use Rattle.validity.specs.Tables.{transition_index}
use Rattle.tables.specs.Rows.{transition_at, no_transition}
use Rattle.tables.specs.Spans.{spanned_if, spanned_or}
use Rattle.tables.specs.Views.{fields_of}
use Rattle.tables.proofs.Beyond.{beyond}
use Rattle.tables.proofs.Numbered.{by_number}
use Rattle.tables.proofs.Spanning.{trigger_spanned, emitted_spanned, no_trigger, none_emitted}
use Rattle.tables.proofs.tables.Tables.transition.Goals as goal

pub returns : goal.returns
returns c =
    let t = c.args.self.now in
    let b = vec_items t.file.bytes in
    let fs = fields_of t in
    let n = c.args.transition in
    elim (by_number (is Transition) (transition_at fs) fs (vec_items t.transitions.rows) no_transition t.transitions_told n c.row.result c.row.ensures) [
      | inl h ↦ record {
        source = ap (λ r. r.source) h.1;
        target = ap (λ r. r.target) h.1;
        kind = ap (λ r. r.kind) h.1;
        immediate = ap (λ r. r.immediate) h.1;
        trigger = ap (λ r. spanned_if b r.trigger) h.1 ∙ trigger_spanned b fs t.file.passed (suc (transition_index fs n));
        effects = ap (λ r. spanned_or b r.effects) h.1 ∙ emitted_spanned b fs t.file.passed n;
      }
      | inr h ↦
          let e = beyond (is Transition) fs n h.0 in
          record {
            source = ap (λ r. r.source) h.1 ∙ ap (λ f. (edge_in f).source) e;
            target = ap (λ r. r.target) h.1 ∙ ap (λ f. (edge_in f).target) e;
            kind = ap (λ r. r.kind) h.1 ∙ ap (λ f. (edge_in f).kind) e;
            immediate = ap (λ r. r.immediate) h.1 ∙ ap (λ f. (edge_in f).immediate) e;
            trigger = ap (λ r. spanned_if b r.trigger) h.1 ∙ no_trigger fs n h.0;
            effects = ap (λ r. spanned_or b r.effects) h.1 ∙ none_emitted fs n h.0;
          }
    ]
