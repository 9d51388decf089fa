use Rattle.std.proofs.Common.{suc, vec_items, ap, ◌∙◌, inl, inr}
use Rattle.chart.specs.declared.kinds.Tag.TheVariants.{State}
use Rattle.chart.specs.Fields.{is}
use Rattle.validity.specs.Parts.{bytes_in, state_kind_in, number_in}
use Rattle.validity.specs.Tables.{state_index}
use Rattle.tables.specs.Rows.{state_at, no_state}
use Rattle.tables.specs.Spans.{spanned, spanned_or}
use Rattle.tables.specs.Views.{fields_of}
use Rattle.tables.proofs.Beyond.{beyond}
use Rattle.tables.proofs.Numbered.{by_number}
use Rattle.tables.proofs.Spanning.{state_spanned, effects_spanned, none_sustained, none_spanned}
use Rattle.tables.proofs.tables.Tables.state.Goals as goal

pub returns : goal.returns
returns c =
    let t = c.args.self.now in
    let b = vec_items t.file.bytes in
    let fs = fields_of t in
    let n = c.args.state in
    elim (by_number (is State) (state_at fs) fs (vec_items t.states.rows) no_state t.states_told n c.row.result c.row.ensures) [
      | inl h ↦ record {
        kind = ap (λ r. r.kind) h.1;
        graph = ap (λ r. r.graph) h.1;
        name = ap (λ r. spanned b r.name) h.1 ∙ state_spanned b fs t.file.passed n h.0;
        effects = ap (λ r. spanned_or b r.effects) h.1 ∙ effects_spanned b fs t.file.passed (suc (state_index fs n));
      }
      | inr h ↦
          let e = beyond (is State) fs n h.0 in
          record {
            kind = ap (λ r. r.kind) h.1 ∙ ap state_kind_in e;
            graph = ap (λ r. r.graph) h.1 ∙ ap number_in e;
            name = ap (λ r. spanned b r.name) h.1 ∙ none_spanned b ∙ ap bytes_in e;
            effects = ap (λ r. spanned_or b r.effects) h.1 ∙ none_sustained fs n h.0;
          }
    ]
