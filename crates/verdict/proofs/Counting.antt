-- Fields counted as they were read, and as they are stated.
use Rattle.std.proofs.Common.{◌≡◌, ℕ, ◌+◌, Bool, true, false, cond, List, count_by, refl, arith}
use Rattle.std.proofs.lemmas.List.Recursion.{is_count_by}
use Rattle.chart.specs.declared.fields.Placed.{Placed}
use Rattle.chart.specs.declared.kinds.Tag.{Tag}
use Rattle.chart.specs.Fields.{is}
use Rattle.chart.specs.Limits.{bit, count}
use Rattle.chart.specs.Listing.{fields_in}
use Rattle.chart.specs.Stated.{stated}

more : (b : Bool) (n : ℕ) → bit b + n ≡ cond b (1 + n) n
more true n = refl
more false n = omega arith

pub tally : (t : Tag) (ps : List Placed) → count (is t) (fields_in ps) ≡ count_by (λ p. is t (stated p.field)) ps
tally t = is_count_by (λ ps. count (is t) (fields_in ps)) (λ p. is t (stated p.field)) refl (λ p ps. more (is t (stated p.field)) (count (is t) (fields_in ps)))
