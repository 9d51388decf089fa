-- What a listing says of a file that is loaded: how many of each it has, or where and why it is refused. Assumes nothing.
use Rattle.std.specs.Prelude.{◌≡◌, ℕ, List, Ok, Err}
use Rattle.chart.specs.Reading.{row_of}
use Rattle.loading.specs.declared.refusals.Refusal.{Refusal}
use Rattle.loading.specs.Loading.{loading}
use Rattle.loading.specs.Numbers.{code_of}
use Rattle.verdict.specs.Texts.{Ends, Begins}

-- The text tells of the file: what it holds, if it is loaded, or else why it is refused.
pub record Told (b text : List ℕ) : Type 0 where
  pub holds : loading b ≡ Ok tt → Ends (row_of b) text
  pub refused : (e : Refusal) → loading b ≡ Err e → Begins (code_of e) text
