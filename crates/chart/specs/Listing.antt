-- The fields of a whole file, with their places. Assumes nothing.
use Rattle.std.specs.Prelude.{◌≡◌, ℕ, ◌*◌, ◌<◌, List, map, length, slice_index}
use Rattle.chart.specs.declared.fields.Placed.{Placed}
use Rattle.chart.specs.declared.files.ReadError.{ReadError}
use Rattle.chart.specs.declared.files.ReadError.TheVariants.{Memory}
use Rattle.chart.specs.declared.files.ReadError as error
use Rattle.chart.specs.Fields.{Field, place_at}
use Rattle.chart.specs.Files.{Passes, Refused}
use Rattle.chart.specs.Stated.{stated}

abbrev pub fields_in : List Placed → List Field
fields_in = map (λ p. stated p.field)

abbrev pub places_in : List Placed → List ℕ
places_in = map (λ p. p.place)

-- The file passes with these fields, each at its place.
pub record Listed (b : List ℕ) (ps : List Placed) : Type 0 where
  pub passes : Passes b (fields_in ps)
  pub places : (i : ℕ) → i < length ps → slice_index (places_in ps) i ≡ place_at (fields_in ps) i

-- Why there are no fields, with room for so many: the file is refused so, or there was not enough room.
abbrev pub Why : List ℕ → ℕ → ReadError → Type 0
Why b room (error.TheVariants.Refused e) = Refused b e
Why b room (Memory e) = 3 * room < length b
