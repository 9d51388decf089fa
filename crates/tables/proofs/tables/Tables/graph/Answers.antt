use Rattle.std.proofs.Common.{vec_items, ap, ◌∙◌, inl, inr}
use Rattle.chart.specs.declared.kinds.Tag.TheVariants.{Graph}
use Rattle.chart.specs.Fields.{is}
use Rattle.validity.specs.Parts.{number_in}
use Rattle.tables.specs.Rows.{graph_at, no_graph}
use Rattle.tables.specs.Views.{fields_of}
use Rattle.tables.proofs.Beyond.{beyond}
use Rattle.tables.proofs.Numbered.{by_number}
use Rattle.tables.proofs.tables.Tables.graph.Goals as goal

pub returns : goal.returns
returns c =
    let t = c.args.self.now in
    let b = vec_items t.file.bytes in
    let fs = fields_of t in
    let n = c.args.graph in
    elim (by_number (is Graph) (graph_at fs) fs (vec_items t.graphs.rows) no_graph t.graphs_told n c.row.result c.row.ensures) [
      | inl h ↦ record { owner = ap (λ r. r.owner) h.1 }
      | inr h ↦
          let e = beyond (is Graph) fs n h.0 in
          record { owner = ap (λ r. r.owner) h.1 ∙ ap number_in e }
    ]
