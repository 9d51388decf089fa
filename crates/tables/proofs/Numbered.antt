-- Rows by number.
use Rattle.std.proofs.Common.{◌≡◌, ℕ, ◌<◌, ◌≤◌, Bool, ◌⊎◌, List, length, get_or, ◌∙◌, inl, inr, arith}
use Rattle.std.proofs.lemmas.List.{get_or_past}
use Rattle.std.proofs.str.Laws.{order}
use Rattle.chart.specs.Fields.{Field}
use Rattle.chart.specs.Limits.{count}
use Rattle.validity.specs.Parts.{index_of}
use Rattle.tables.specs.Columns.{RowsOf}

-- A number has a row, or nothing has it.
pub by_number : {A : Type 0} (makes : Field → Bool) (row : ℕ → A) (fs : List Field) (rows : List A) (zeros : A) → RowsOf makes row fs rows → (n : ℕ) (x : A) → x ≡ get_or rows n zeros
    → ((n < count makes fs) × (x ≡ row (index_of makes fs n))) ⊎ ((count makes fs ≤ n) × (x ≡ zeros))
by_number makes row fs rows zeros of n x is =
    elim (order n (length rows)) [
      | inl below ↦ inl (omega (arith, below, of.counted), is ∙ of.told n zeros below)
      | inr above ↦ inr (omega (arith, above, of.counted), is ∙ get_or_past rows n zeros above)
    ]
