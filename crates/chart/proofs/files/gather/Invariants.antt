use Rattle.std.proofs.Common.{◌≡◌, ◌-◌, ◌≤◌, length, vec_items, vec_capacity}
use Rattle.chart.specs.Progress.{before}
use Rattle.chart.proofs.Gathering.{Gathered}
use Rattle.chart.proofs.files.gather.Given as goal

-- what is gathered is what the reader has passed, and there is no less room than there was
abbrev pub invariant-loop-placed : goal.invariant-loop-placed
invariant-loop-placed l = (l.reader.bytes.now ≡ l.bytes) × Gathered (vec_items l.fields) (before l.bytes l.reader.at) × (vec_capacity l.initial.fields ≤ vec_capacity l.fields)

abbrev pub decreases-loop-placed : goal.decreases-loop-placed
decreases-loop-placed l = length l.bytes - l.reader.at
