use Rattle.std.proofs.Common.{eqb, vec_items, ap, ◌∙◌, inl, inr}
use Rattle.chart.specs.declared.kinds.Tag.TheVariants.{Signal}
use Rattle.chart.specs.Fields.{is, is_input}
use Rattle.chart.specs.Kinds.{signal_kind_code}
use Rattle.validity.specs.Parts.{at, index_of, bytes_in}
use Rattle.tables.specs.Rows.{signal_at, no_signal}
use Rattle.tables.specs.Spans.{spanned}
use Rattle.tables.specs.Views.{fields_of}
use Rattle.tables.proofs.Beyond.{beyond, input_kind}
use Rattle.tables.proofs.Numbered.{by_number}
use Rattle.tables.proofs.Spanning.{signal_spanned, none_spanned}
use Rattle.tables.proofs.tables.Tables.signal.Goals as goal

pub returns : goal.returns
returns c =
    let t = c.args.self.now in
    let b = vec_items t.file.bytes in
    let fs = fields_of t in
    let n = c.args.signal in
    elim (by_number (is Signal) (signal_at fs) fs (vec_items t.signals.rows) no_signal t.signals_told n c.row.result c.row.ensures) [
      | inl h ↦ record {
        kind = ap (λ r. eqb (signal_kind_code r.kind) 0) h.1 ∙ input_kind (at fs (index_of (is Signal) fs n));
        name = ap (λ r. spanned b r.name) h.1 ∙ signal_spanned b fs t.file.passed n h.0;
      }
      | inr h ↦
          let e = beyond (is Signal) fs n h.0 in
          record {
            kind = ap (λ r. eqb (signal_kind_code r.kind) 0) h.1 ∙ ap is_input e;
            name = ap (λ r. spanned b r.name) h.1 ∙ none_spanned b ∙ ap bytes_in e;
          }
    ]
