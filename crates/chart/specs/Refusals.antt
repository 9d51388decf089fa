-- The number, the layer and the place of each refusal. Assumes nothing.
use Rattle.std.specs.Prelude.{ℕ, List, ◌++◌, codes, decimal}
use Rattle.chart.specs.declared.refusals.Refusal.{Refusal}
use Rattle.chart.specs.declared.refusals.RefusalCode.{RefusalCode}
use Rattle.chart.specs.declared.refusals.Refusal.TheVariants.{Empty, TooLong, CutShort, UnknownTag, OutOfOrder, NotAllowed, BeyondLimit}

abbrev pub number_of : Refusal → ℕ
number_of Empty = 11
number_of (TooLong n) = 11
number_of (CutShort p) = 12
number_of (UnknownTag p c) = 13
number_of (OutOfOrder p t) = 13
number_of (NotAllowed p t part) = 14
number_of (BeyondLimit p l) = 15

abbrev pub layer_of : Refusal → ℕ
layer_of e = 1

abbrev pub place_of : Refusal → ℕ
place_of Empty = 0
place_of (TooLong n) = 0
place_of (CutShort p) = p
place_of (UnknownTag p c) = p
place_of (OutOfOrder p t) = p
place_of (NotAllowed p t part) = p
place_of (BeyondLimit p l) = p

-- what the refusal is told by
abbrev pub code_of : Refusal → RefusalCode
code_of e = record { number = number_of e; layer = layer_of e; place = place_of e }

-- the words in which it is told
abbrev pub code_text : RefusalCode → List ℕ
code_text c = codes "refused " ++ (decimal c.number ++ (codes " layer " ++ (decimal c.layer ++ (codes " at " ++ decimal c.place))))
