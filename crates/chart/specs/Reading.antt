-- Reading as a computation: the fields of a file, or its refusal. `Laws` says that it comes to what `Files` defines. Assumes nothing.
use Rattle.std.specs.Prelude.{ℕ, zero, suc, ◌+◌, ◌*◌, Bool, cond, List, [], ◌∷◌, length, take, drop, Some, None, Ok, Err, Option, Result, ◌==◌, nat_lt}
use Rattle.chart.specs.declared.kinds.Tag.{Tag}
use Rattle.chart.specs.declared.refusals.Limit.{Limit}
use Rattle.chart.specs.declared.refusals.Part.{Part}
use Rattle.chart.specs.declared.refusals.Refusal.{Refusal}
use Rattle.chart.specs.declared.refusals.Refusal.TheVariants.{Empty, TooLong, CutShort, UnknownTag, OutOfOrder, NotAllowed, BeyondLimit}
use Rattle.chart.specs.Kinds.{tag_from}
use Rattle.chart.specs.Fields.{Field}
use Rattle.chart.specs.Order.{may_follow}
use Rattle.chart.specs.Limits.{counts_of, exceeded}
use Rattle.chart.specs.Decoding.{decode}

-- One field, at place p.

abbrev pub formed : ℕ → Tag → Result Field Part → Result Field Refusal
formed p t (Ok f) = Ok f
formed p t (Err part) = Err (NotAllowed p t part)

abbrev pub tagged : (Tag → Bool) → ℕ → ℕ → List ℕ → Option Tag → Result Field Refusal
tagged may p code c None = Err (UnknownTag p code)
tagged may p code c (Some t) = cond (may t) (formed p t (decode t c)) (Err (OutOfOrder p t))

-- with this code for a tag and these contents, where tags that pass the test may stand
abbrev pub judge : (Tag → Bool) → ℕ → ℕ → List ℕ → Result Field Refusal
judge may p code c = tagged may p code c (tag_from code)

abbrev pub unless_exceeded : ℕ → Field → Option Limit → Result Field Refusal
unless_exceeded p f None = Ok f
unless_exceeded p f (Some l) = Err (BeyondLimit p l)

-- behind these fields (nearest first)
abbrev pub limited : ℕ → List Field → Result Field Refusal → Result Field Refusal
limited p before (Err e) = Err e
limited p before (Ok f) = unless_exceeded p f (exceeded (counts_of (f ∷ before)))

-- The fields from here on.

abbrev pub prepend : Field → Result (List Field) Refusal → Result (List Field) Refusal
prepend f (Ok fs) = Ok (f ∷ fs)
prepend f (Err e) = Err e

abbrev pub onward : Result Field Refusal → (Field → Result (List Field) Refusal) → Result (List Field) Refusal
onward (Err e) rest = Err e
onward (Ok f) rest = prepend f (rest f)

-- at most n fields, from the place p on, where these bytes stand, behind these fields (nearest first)
abbrev pub read_from : ℕ → List Field → ℕ → List ℕ → Result (List Field) Refusal
read_from zero before p b = Ok []
read_from (suc n) before p [] = Ok []
read_from (suc n) before p (code ∷ []) = Err (CutShort p)
read_from (suc n) before p (code ∷ (high ∷ [])) = Err (CutShort p)
read_from (suc n) before p (code ∷ (high ∷ (low ∷ rest))) =
    let size = high * 256 + low in
    let more = onward (limited p before (judge (may_follow before) p code (take size rest))) (λ f. read_from n (f ∷ before) (p + (3 + size)) (drop size rest)) in
    cond (nat_lt (length rest) size) (Err (CutShort p)) more

abbrev pub read : List ℕ → Result (List Field) Refusal
read b = cond (length b == 0) (Err Empty) (cond (nat_lt 16384 (length b)) (Err (TooLong (length b))) (read_from (length b) [] 0 b))

-- the fields that these bytes are the encodings of; none if they are of no row
abbrev pub or_none : Result (List Field) Refusal → List Field
or_none (Ok fs) = fs
or_none (Err e) = []

abbrev pub row_of : List ℕ → List Field
row_of b = or_none (read_from (length b) [] 0 b)
