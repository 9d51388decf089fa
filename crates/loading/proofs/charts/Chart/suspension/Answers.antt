use Rattle.std.proofs.Common.{◌≡◌, cond, ltb, Some, None, ap, ◌∙◌, rules}
use Rattle.std.specs.Option.{option_flatten}
use Rattle.tables.specs.Spans.{spanned_if}
use Rattle.validity.specs.Tables.{states}
use Rattle.derived.specs.Columns.{suspension_at}
use Rattle.loading.specs.Meaning.{copy_in, fields_for}
use Rattle.loading.proofs.Deriving.{suspension_if}
use Rattle.loading.proofs.charts.Chart.suspension.Goals as goal

pub returns : goal.returns
returns c =
    let self = c.args.self.now in
    let fs = fields_for self in
    let b = copy_in self in
    let s = c.args.state in
    let span = suspension_at self.derived s in
    let found : c.then.result ≡ cond (ltb s (states fs)) (Some span) None = search rules in
    ap (spanned_if b) (c.flatten.ensures ∙ ap option_flatten found) ∙ suspension_if b fs self.tables.file.passed s span (self.derives.suspensions s)
