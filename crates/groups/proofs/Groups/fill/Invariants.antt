use Rattle.groups.specs.Filling.{IsFilled, SameRoom}
use Rattle.groups.proofs.Groups.fill.Given as goal

abbrev pub invariant-loop-key : goal.invariant-loop-key
invariant-loop-key l = IsFilled l.keys l.key l.self × SameRoom l.initial.self l.self
