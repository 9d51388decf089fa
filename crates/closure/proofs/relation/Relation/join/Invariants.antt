use Rattle.closure.proofs.Rounds.{Amid}
use Rattle.closure.proofs.relation.Relation.join.Given as goal

abbrev pub invariant-loop-row : goal.invariant-loop-row
invariant-loop-row l = Amid l.initial.row-items l.row-items l.middle l.row-index l.beyond
