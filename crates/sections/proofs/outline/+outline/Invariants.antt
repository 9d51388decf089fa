use Rattle.std.proofs.Common.{◌+◌, ◌-◌, ◌*◌}
use Rattle.validity.specs.Tables.{states, owner_of}
use Rattle.loading.specs.Meaning.{fields_for}
use Rattle.sections.proofs.outline.+outline.Given as goal

-- A state goes before the graphs that it owns, and a graph before its states, which stand behind its owner.

abbrev pub decreases-StateTreeDisplay::fmt : goal.decreases-StateTreeDisplay::fmt
decreases-StateTreeDisplay::fmt g l = 2 * (states (fields_for l.self.now.chart.now) - l.self.now.state) + 1

abbrev pub decreases-GraphTreeDisplay::fmt : goal.decreases-GraphTreeDisplay::fmt
decreases-GraphTreeDisplay::fmt g l = 2 * (states (fields_for l.self.now.chart.now) - owner_of (fields_for l.self.now.chart.now) l.self.now.graph)
