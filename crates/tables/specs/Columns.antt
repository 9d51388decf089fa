-- The rows of one kind. Assumes nothing.
use Rattle.std.specs.Prelude.{◌≡◌, ℕ, ◌<◌, Bool, List, length, slice_index_or}
use Rattle.chart.specs.Fields.{Field}
use Rattle.chart.specs.Limits.{count}
use Rattle.validity.specs.Parts.{index_of}

-- by the fields that make a row, and the row of the field at an index
module _ {A : Type 0} (makes : Field → Bool) (row : ℕ → A) (fs : List Field) where
  -- a row for each of the fields that makes one, in their order
  pub record RowsOf (rows : List A) : Type 0 where
    pub counted : length rows ≡ count makes fs
    pub told : (n : ℕ) (d : A) → n < length rows → slice_index_or rows n d ≡ row (index_of makes fs n)
