use Rattle.std.proofs.Common.{vec_items, ap, ◌∙◌, inl, inr}
use Rattle.chart.specs.declared.kinds.Tag.TheVariants.{Suspension}
use Rattle.chart.specs.Fields.{is}
use Rattle.validity.specs.Parts.{number_in}
use Rattle.tables.specs.Rows.{suspension_at, no_suspension}
use Rattle.tables.specs.Views.{fields_of}
use Rattle.tables.proofs.Beyond.{beyond}
use Rattle.tables.proofs.Numbered.{by_number}
use Rattle.tables.proofs.Spanning.{no_span_lem}
use Rattle.tables.proofs.tables.Tables.suspension.Goals as goal

pub returns : goal.returns
returns c =
    let t = c.args.self.now in
    let b = vec_items t.file.bytes in
    let fs = fields_of t in
    let n = c.args.suspension in
    elim (by_number (is Suspension) (suspension_at fs) fs (vec_items t.suspensions.rows) no_suspension t.suspensions_told n c.row.result c.row.ensures) [
      | inl h ↦ record { state = ap (λ r. r.state) h.1; trigger = ap (λ r. r.trigger) h.1 }
      | inr h ↦
          let e = beyond (is Suspension) fs n h.0 in
          record { state = ap (λ r. r.state) h.1 ∙ ap number_in e; trigger = ap (λ r. r.trigger) h.1 ∙ no_span_lem fs (is Suspension) n h.0 }
    ]
