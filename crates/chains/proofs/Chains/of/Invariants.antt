use Rattle.tables.specs.Views.{fields_of}
use Rattle.chains.proofs.Levels.{Turned}
use Rattle.chains.proofs.Chains.of.Given as goal

abbrev pub invariant-loop-turn : goal.invariant-loop-turn
invariant-loop-turn l = Turned (fields_of l.tables) l.marks l.reach l._turn
