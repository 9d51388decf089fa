use Rattle.std.proofs.Common.{◌≡◌}
use Rattle.closure.proofs.Rounds.{Before}
use Rattle.closure.proofs.relation.Relation.close.Given as goal

abbrev pub invariant-loop-middle : goal.invariant-loop-middle
invariant-loop-middle l = (l.self.size ≡ l.initial.self.size) × Before l.initial.self.rows l.self.rows l.initial.self.size l.middle
