-- Number, layer and place of a refusal. Assumes nothing.
use Rattle.std.specs.Prelude.{ℕ}
use Rattle.chart.specs.declared.refusals.RefusalCode.{RefusalCode}
use Rattle.chart.specs.Refusals.{number_of as format_number, layer_of as format_layer, place_of as format_place}
use Rattle.validity.specs.Numbering.{number_of as rule_number, layer_of as rule_layer}
use Rattle.loading.specs.declared.refusals.Refusal.{Refusal}
use Rattle.loading.specs.declared.refusals.Refusal.TheVariants.{Malformed, Invalid}

abbrev pub number_of : Refusal → ℕ
number_of (Malformed e) = format_number e
number_of (Invalid x) = rule_number x.fault

abbrev pub layer_of : Refusal → ℕ
layer_of (Malformed e) = format_layer e
layer_of (Invalid x) = rule_layer x.fault

abbrev pub place_of : Refusal → ℕ
place_of (Malformed e) = format_place e
place_of (Invalid x) = x.place

-- what the refusal is told by
abbrev pub code_of : Refusal → RefusalCode
code_of e = record { number = number_of e; layer = layer_of e; place = place_of e }
