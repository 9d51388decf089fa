-- The size of a file, and what stands in front of the bytes that are left. Assumes nothing.
use Rattle.std.specs.Prelude.{◌≡◌, ℕ, ◌+◌, ◌<◌, ◌≤◌, true, List, ◌++◌, length, drop, Ok, Err, Result}
use Rattle.chart.specs.declared.pieces.Piece.{Piece}
use Rattle.chart.specs.declared.refusals.Refusal.{Refusal}
use Rattle.chart.specs.declared.refusals.Refusal.TheVariants.{CutShort}
use Rattle.chart.specs.WellFormed.{every, is_byte}
use Rattle.chart.specs.Decoding.{word_at}
use Rattle.chart.specs.Files.{piece, Refused, Sized}

abbrev pub SizeChecked : List ℕ → Result (Unit {0}) Refusal → Type 0
SizeChecked b (Ok u) = Sized b × (every is_byte b ≡ true)
SizeChecked b (Err e) = Refused b e

-- a whole piece stands in front
abbrev pub Whole : List ℕ → ℕ → List ℕ → Type 0
Whole rest code c = rest ≡ piece code c ++ drop (3 + length c) rest

abbrev pub Cut : List ℕ → ℕ → Result Piece Refusal → Type 0
Cut rest place (Ok p) = Whole rest p.code p.contents.now
Cut rest place (Err e) = (3 ≤ length rest → length rest < 3 + word_at rest 1) × (e ≡ CutShort place)
