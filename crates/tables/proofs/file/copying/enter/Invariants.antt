use Rattle.std.proofs.Common.{◌≡◌, ◌-◌, ◌≤◌, length, vec_items, vec_capacity}
use Rattle.chart.specs.Progress.{before}
use Rattle.tables.specs.Entries.{Entered}
use Rattle.tables.proofs.Entering.{Counted}
use Rattle.tables.proofs.file.copying.enter.Given as goal

-- what is entered is what the reader has passed
abbrev pub invariant-loop-placed : goal.invariant-loop-placed
invariant-loop-placed l =
    (l.reader.bytes.now ≡ l.bytes) × Entered (before l.bytes l.reader.at) (vec_items l.entries) × Counted (before l.bytes l.reader.at) l.next
    × (5461 ≤ vec_capacity l.entries)

abbrev pub decreases-loop-placed : goal.decreases-loop-placed
decreases-loop-placed l = length l.bytes - l.reader.at
