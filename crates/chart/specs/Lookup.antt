-- The field that stands at a byte place of a file. Assumes nothing.
use Rattle.std.specs.Prelude.{ℕ, ◌+◌, ◌*◌, cond, List, [], ◌∷◌, length, take, drop, Some, None, Option, nat_lt}
use Rattle.std.specs.Result.{result_ok}
use Rattle.chart.specs.declared.kinds.Tag.{Tag}
use Rattle.chart.specs.Kinds.{tag_from}
use Rattle.chart.specs.Fields.{Field}
use Rattle.chart.specs.Decoding.{decode}

-- the field of this tag with these contents; none if there is no tag, or the contents are not allowed
abbrev pub field_of : Option Tag → List ℕ → Option Field
field_of None c = None
field_of (Some t) c = result_ok (decode t c)

-- the field in front of these bytes; none if they end inside it
abbrev pub first_field : List ℕ → Option Field
first_field [] = None
first_field (code ∷ []) = None
first_field (code ∷ (high ∷ [])) = None
first_field (code ∷ (high ∷ (low ∷ rest))) =
    let size = high * 256 + low in
    cond (nat_lt (length rest) size) None (field_of (tag_from code) (take size rest))

-- the field whose tag is the byte at this place; none if no whole well-formed field stands there
abbrev pub field_at : List ℕ → ℕ → Option Field
field_at b place = first_field (drop place b)
