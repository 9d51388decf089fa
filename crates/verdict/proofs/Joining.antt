-- Texts that are joined of parts.
use Rattle.std.proofs.Common.{◌≡◌, ℕ, List, ◌++◌, codes, sym, ◌∙◌, append_assoc}
use Rattle.chart.specs.declared.refusals.RefusalCode.{RefusalCode}
use Rattle.chart.specs.Refusals.{code_text}
use Rattle.verdict.specs.Texts.{Begins}

-- the text of a refusal: its line and a sentence
pub begun : (c : RefusalCode) (s : List ℕ) {text : List ℕ} → text ≡ code_text c ++ (codes "\n" ++ (s ++ codes "\n")) → Begins c text
begun c s e = record { sentence = s ++ codes "\n"; whole = e ∙ sym (append_assoc (code_text c) (codes "\n") (s ++ codes "\n")) }
