-- What the definitions of a chart file come to. Assumes nothing.
use Rattle.std.specs.Prelude.{◌≡◌, ℕ, ◌<◌, true, ◌⊎◌, ◌↔◌, List, length, Some, Ok, Err, slice_index_or}
use Rattle.chart.specs.declared.kinds.Tag.{Tag}
use Rattle.chart.specs.declared.refusals.Part.{Part}
use Rattle.chart.specs.declared.refusals.Refusal.{Refusal}
use Rattle.chart.specs.Fields.{Field, graph, tag_of, contents, place_at}
use Rattle.chart.specs.WellFormed.{every, is_byte, well_formed}
use Rattle.chart.specs.Decoding.{decode}
use Rattle.chart.specs.Files.{Passes, Refused}
use Rattle.chart.specs.Lookup.{field_at}
use Rattle.chart.specs.Reading.{read}

-- the field is well formed and has this tag and these contents
pub record Written (t : Tag) (c : List ℕ) (f : Field) : Type 0 where
  pub tag : tag_of f ≡ t
  pub bytes : contents f ≡ c
  pub formed : well_formed f ≡ true

pub record FormatLaws : Type 0 where
  -- One field: contents are read as the well-formed field that they are the contents of, and are not allowed exactly if they are those of none.
  pub field : (t : Tag) (c : List ℕ) → every is_byte c ≡ true → (f : Field) → (decode t c ≡ Ok f) ↔ Written t c f
  pub no_field : (t : Tag) (c : List ℕ) → every is_byte c ≡ true → ((part : Part) × (decode t c ≡ Err part)) ↔ ((f : Field) → Written t c f → ⊥)
  -- Every file passes, with one row of fields, or is refused, for one reason; and not both.
  pub some : (b : List ℕ) → every is_byte b ≡ true → ((fs : List Field) × Passes b fs) ⊎ ((e : Refusal) × Refused b e)
  pub one_row : (b : List ℕ) (fs gs : List Field) → Passes b fs → Passes b gs → fs ≡ gs
  pub one_reason : (b : List ℕ) (d e : Refusal) → Refused b d → Refused b e → d ≡ e
  pub not_both : (b : List ℕ) (fs : List Field) (e : Refusal) → Passes b fs → Refused b e → ⊥
  -- Which of them is computed by `read`.
  pub passes : (b : List ℕ) → every is_byte b ≡ true → (fs : List Field) → (read b ≡ Ok fs) ↔ Passes b fs
  pub refuses : (b : List ℕ) → every is_byte b ≡ true → (e : Refusal) → (read b ≡ Err e) ↔ Refused b e

pub record LookupLaws : Type 0 where
  -- The field at the place of the field number i of a file that passes is that field.
  pub at_place : (b : List ℕ) (fs : List Field) → Passes b fs → (i : ℕ) → i < length fs → field_at b (place_at fs i) ≡ Some (slice_index_or fs i (graph 0))
