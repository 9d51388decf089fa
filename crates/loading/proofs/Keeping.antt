-- A file that a chart keeps is that of a sound chart.
use Rattle.std.proofs.Common.{◌≡◌, ℕ, ◌<◌, ◌≤◌, true, cond, List, length, is_ok as isOk, Ok, Err, Result, sym, refl, ap, ◌∙◌, arith, ne_eqb}
use Rattle.chart.specs.Fields.{encode_all}
use Rattle.chart.specs.Files.{is_row, Passes}
use Rattle.chart.specs.Reading.{row_of}
use Rattle.validity.specs.declared.faults.Invalid.{Invalid}
use Rattle.validity.specs.Chart.{chart_of}
use Rattle.validity.specs.Outcome.{Faultless, outcome}
use Rattle.validity.specs.Sound.{Sound}
use Rattle.validity.proofs.Outcomes.{validity_laws_lem}
use Rattle.loading.specs.Kept.{may_keep}

module _ (b : List ℕ) (kept : may_keep b ≡ true) (some : 0 < length b) where
  is_ok : (r : Result (Unit {0}) Invalid) → isOk r ≡ true → r ≡ Ok tt
  is_ok (Ok u) h = refl
  is_ok (Err x) h = absurd (grind arith)

  no_fault : Faultless (row_of b)
  no_fault =
      let judged : isOk (outcome (row_of b)) ≡ true = sym (ap (λ t. cond t true (isOk (outcome (row_of b)))) (ne_eqb (length b) 0 (λ e. omega arith))) ∙ kept in
      (validity_laws_lem.accepts (row_of b)).0 (is_ok (outcome (row_of b)) judged)

  module _ (most : length b ≤ 16384) (row : is_row (row_of b) ≡ true) (bytes : encode_all (row_of b) ≡ b) where
    pub kept_passes : Passes b (row_of b)
    kept_passes = record { size = record { some = omega arith; most = most }; row = row; bytes = sym bytes }

    pub kept_sound : Sound (chart_of (row_of b))
    kept_sound = validity_laws_lem.sound b (row_of b) kept_passes no_fault
