-- Which files pass the first layer, and why a file is refused there. Assumes nothing.
use Rattle.std.specs.Prelude.{◌≡◌, ℕ, ◌+◌, ◌<◌, ◌≤◌, Bool, true, false, ◌&&◌, List, [], ◌∷◌, ◌++◌, reverse, length, Some, Err, ◌≢◌}
use Rattle.chart.specs.declared.kinds.Tag.{Tag}
use Rattle.chart.specs.declared.refusals.Limit.{Limit}
use Rattle.chart.specs.declared.refusals.Part.{Part}
use Rattle.chart.specs.declared.refusals.Refusal.{Refusal}
use Rattle.chart.specs.declared.refusals.Refusal.TheVariants.{Empty, TooLong, CutShort, UnknownTag, OutOfOrder, NotAllowed, BeyondLimit}
use Rattle.chart.specs.Kinds.{tag_code}
use Rattle.chart.specs.Fields.{Field, tag_of, contents, word, encode_all}
use Rattle.chart.specs.WellFormed.{every, well_formed}
use Rattle.chart.specs.Order.{may_follow, ordered}
use Rattle.chart.specs.Limits.{counts_of, exceeded, within_limits}
use Rattle.chart.specs.Decoding.{word_at, decode}

-- Fields that may stand in a file, one after another, from its start: in order, each well formed, within the limits.
abbrev pub is_row : List Field → Bool
is_row fs = ordered [] fs && every well_formed fs && within_limits fs

pub record Sized (b : List ℕ) : Type 0 where
  pub some : 1 ≤ length b
  pub most : length b ≤ 16384

-- The file is the concatenation of these fields' encodings.
pub record Passes (b : List ℕ) (fs : List Field) : Type 0 where
  pub size : Sized b
  pub row : is_row fs ≡ true
  pub bytes : b ≡ encode_all fs

-- a tag, a length and contents, whatever they are
abbrev pub piece : ℕ → List ℕ → List ℕ
piece code c = code ∷ word (length c) c

-- What is wrong at place p, where these bytes stand, behind these fields (nearest first). Of several faults the lowest number counts.
pub data Faulty (before : List Field) (p : ℕ) (rest : List ℕ) : Refusal → Type 0 where
  -- fewer than three bytes, or fewer than the length says
  cut_short : 1 ≤ length rest → (3 ≤ length rest → length rest < 3 + word_at rest 1) → Faulty before p rest (CutShort p)
  unknown_tag : (code : ℕ) (c more : List ℕ) → rest ≡ piece code c ++ more → ((t : Tag) → tag_code t ≢ code) → Faulty before p rest (UnknownTag p code)
  out_of_order : (t : Tag) (c more : List ℕ) → rest ≡ piece (tag_code t) c ++ more → may_follow before t ≡ false → Faulty before p rest (OutOfOrder p t)
  not_allowed : (t : Tag) (part : Part) (c more : List ℕ) → rest ≡ piece (tag_code t) c ++ more → may_follow before t ≡ true → decode t c ≡ Err part → Faulty before p rest (NotAllowed p t part)
  beyond_limit : (f : Field) (l : Limit) (more : List ℕ) → rest ≡ piece (tag_code (tag_of f)) (contents f) ++ more → may_follow before (tag_of f) ≡ true → well_formed f ≡ true
      → exceeded (counts_of (f ∷ before)) ≡ Some l → Faulty before p rest (BeyondLimit p l)

-- The file is refused so: by its size, or else at the first field with a fault.
pub data Refused (b : List ℕ) : Refusal → Type 0 where
  empty : length b ≡ 0 → Refused b Empty
  too_long : 16384 < length b → Refused b (TooLong (length b))
  at_field : (fs : List Field) (rest : List ℕ) {e : Refusal} → Sized b → is_row fs ≡ true → b ≡ encode_all fs ++ rest → Faulty (reverse fs) (length (encode_all fs)) rest e → Refused b e
