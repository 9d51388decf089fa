use Rattle.std.proofs.Common.{◌≡◌, not, eqb, length, vec_items, sym, ap, ◌∙◌, arith}
use borrow.Author.Tests.{eqb-false, not-true}
use Rattle.loading.specs.Meaning.{copy_in, is_loaded}
use Rattle.loading.proofs.Keeping.{kept_sound}
use Rattle.loading.proofs.charts.Chart.is_loaded.Goals as goal

pub returns : goal.returns
returns c =
    let self = c.args.self.now in
    let f = self.tables.file in
    let b = copy_in self in
    let bytes : c.bytes.result.now ≡ b = c.bytes.ensures ∙ ap (λ f. vec_items f.bytes) c.file.ensures in
    let told : not c.is_empty.result ≡ is_loaded self = ap not (c.is_empty.ensures ∙ ap (λ b. eqb (length b) 0) bytes) in
    record {
      told = told;
      sound = λ h.
          let none = eqb-false (length b) 0 (not-true (eqb (length b) 0) (sym told ∙ h)) in
          kept_sound b self.valid (omega (arith, none)) (omega (arith, f.most, f.bytes.ok.0)) f.row f.passed;
    }
