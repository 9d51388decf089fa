-- What a listing says: how many of each a file has, or where and why it is refused. Assumes nothing.
use Rattle.std.specs.Prelude.{◌≡◌, ℕ, List, ◌++◌, codes, decimal}
use Rattle.chart.specs.declared.kinds.Tag.TheVariants.{Signal, State, Graph, Transition, Suspension}
use Rattle.chart.specs.declared.refusals.Refusal.{Refusal}
use Rattle.chart.specs.declared.refusals.RefusalCode.{RefusalCode}
use Rattle.chart.specs.Fields.{Field, is}
use Rattle.chart.specs.Files.{Passes, Refused}
use Rattle.chart.specs.Limits.{count}
use Rattle.chart.specs.Refusals.{code_of, code_text}
use Rattle.verdict.specs.declared.summary.Summary.{Summary}

-- the last line of what a file holds: how many signals, states, graphs, transitions and suspensions
abbrev pub summary_line : ℕ → ℕ → ℕ → ℕ → ℕ → List ℕ
summary_line s t g r u =
    decimal s ++ (codes " signals, " ++ (decimal t ++ (codes " states, " ++ (decimal g ++ (codes " graphs, "
    ++ (decimal r ++ (codes " transitions, " ++ (decimal u ++ codes " suspensions\n"))))))))

abbrev pub summary_text : Summary → List ℕ
summary_text s = summary_line s.signals s.states s.graphs s.transitions s.suspensions

-- how many of each there are among these fields
abbrev pub summary_in : List Field → Summary
summary_in fs = record {
  signals = count (is Signal) fs;
  states = count (is State) fs;
  graphs = count (is Graph) fs;
  transitions = count (is Transition) fs;
  suspensions = count (is Suspension) fs;
}

abbrev pub summary_of : List Field → List ℕ
summary_of fs = summary_text (summary_in fs)

-- the first line of a refusal with this code
abbrev pub refusal_line : RefusalCode → List ℕ
refusal_line c = code_text c ++ codes "\n"

-- The text ends with the summary of these fields.
pub record Ends (fs : List Field) (text : List ℕ) : Type 0 where
  pub body : List ℕ
  pub whole : text ≡ body ++ summary_of fs

-- The text begins with the line of a refusal with this code.
pub record Begins (c : RefusalCode) (text : List ℕ) : Type 0 where
  pub sentence : List ℕ
  pub whole : text ≡ refusal_line c ++ sentence

-- The text tells of the file: what it holds, if it passes the first layer, or else why it is refused.
pub data Told (b text : List ℕ) : Type 0 where
  passes : (fs : List Field) → Passes b fs → Ends fs text → Told b text
  refused : (e : Refusal) → Refused b e → Begins (code_of e) text → Told b text
